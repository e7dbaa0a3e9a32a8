use Rattle.std.proofs.Common.{◌≡◌, true, false, sym, ◌∙◌}
use Rattle.adb_view.specs.Values.{value_at}
use Rattle.adb_view.specs.Schema.{field_name_text}
use Rattle.adb_view.specs.declared.tables.Kind.TheVariants.{Text}
use Rattle.adb_view.specs.Adb.{payload_of}
use Rattle.adb_dump.specs.Words.{is_null}
use Rattle.adb_dump.proofs.Nulls.{text_null}
use Rattle.adb_dump.proofs.Puts.{puts_none, puts_on, puts_told}
use Rattle.adb_dump.proofs.Turns.{null_put, text_put}
use Rattle.adb_dump.proofs.block.write_text_field.Goals as goal

pub returns-then-is_empty-clause-null : goal.returns-then-is_empty-clause-null
returns-then-is_empty-clause-null g c =
    sym (text_null (payload_of c.args.adb) c.args.word c.text_word-text.result.now c.text_word-text.ensures ∙ sym c.is_empty.ensures ∙ c.if-is_empty.true)

pub returns-then-is_empty-clause-put : goal.returns-then-is_empty-clause-put
returns-then-is_empty-clause-put g c =
    let p = payload_of c.args.adb in
    let null : is_null (value_at p Text c.args.word) ≡ true = text_null p c.args.word c.text_word-text.result.now c.text_word-text.ensures ∙ sym c.is_empty.ensures ∙ c.if-is_empty.true in
    puts_told (g.O.Out.holds p) _ _ _ _ (sym (null_put c.args.start.depth c.args.start.begun _ _ null)) (puts_none (g.O.Out.holds p) c.args.out.now)

pub returns-clause-put : goal.returns-clause-put
returns-clause-put g c =
    let p = payload_of c.args.adb in
    let some : is_null (value_at p Text c.args.word) ≡ false = text_null p c.args.word c.text_word-text.result.now c.text_word-text.ensures ∙ sym c.is_empty.ensures ∙ c.if-is_empty.false in
    puts_told (g.O.Out.holds p) _ _ _ _ (text_put c.args.start.depth c.args.start.begun (field_name_text c.args.name) p c.args.word c.text_word-text.result.now c.text_word-text.ensures some)
    (puts_on (g.O.Out.holds p) _ _ _ _ _ (c.in_ok-write_name.ensures p) c.in_ok-write_text_line.ensures)
