use Rattle.std.specs.Prelude.{slice_range}
use Rattle.adb_view.specs.Adb.{payload_of}
use Rattle.adb_copy.proofs.TextPlaces.{text_read}
use Rattle.adb_copy.proofs.overlaps.text_place.Goals as goal

pub returns-in-Ok-clause-text : goal.returns-in-Ok-clause-text
returns-in-Ok-clause-text c =
    let payload = payload_of c.args.adb in
    text_read payload c.args.word (slice_range payload c.in-Ok.from c.in-Ok.end) c.in-Ok.ensures.found
