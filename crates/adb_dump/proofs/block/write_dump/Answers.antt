use Rattle.adb_view.specs.Adb.{payload_of}
use Rattle.adb_view.specs.ShapedPayload.{adb_of}
use Rattle.adb_dump.proofs.WholeText.{whole_text}
use Rattle.adb_dump.proofs.Puts.{puts_of, puts_on, puts_told}
use Rattle.adb_dump.proofs.block.write_dump.Goals as goal

pub returns : goal.returns
returns g c =
    let p = payload_of (adb_of c.args.shaped.now) in
    puts_told (g.O.Out.holds p) _ _ _ _ (whole_text c.args.shaped.now c.adb-adb.result c.which-which.result c.root.result c.fields_of.result.now _ c.adb-adb.ensures c.which-which.ensures c.root.ensures c.fields_of.ensures c.field_words-root.ensures.value)
    (puts_on (g.O.Out.holds p) _ _ _ _ _ (c.in_ok-write_schema.ensures p)
    (puts_of (g.O.Out.holds) _ _ _ _ _ c.adb-adb.ensures c.in_ok-write_fields.ensures.put))
