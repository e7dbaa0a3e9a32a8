use Rattle.adb_view.specs.Adb.{payload_of}
use Rattle.adb_view.specs.Entries.{array_entries}
use Rattle.adb_view.specs.Readers.{OBJECT, run_entries_of_kind_in_payload_at_word}
use Rattle.adb_fields.proofs.FieldReads.{fields_read, read_ok}
use Rattle.adb_fields.proofs.reads.object_words.Goals as goal

pub returns : goal.returns
returns c i k e =
    let p = payload_of c.args.adb in
    let words = array_entries c.in-Some.entries in
    fields_read p c.args.which c.args.object words c.requires (read_ok (run_entries_of_kind_in_payload_at_word OBJECT p c.args.object) words c.in-Some.ensures) i k e
