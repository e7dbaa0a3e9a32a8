use Rattle.std.proofs.Common.{ℕ, ◌+◌, ◌≡◌, ◌<◌, Bool, true, false, get_or, [], length, arith, ap, sym, ◌∙◌}
use Rattle.std.specs.Prelude.{◌&&◌}
use Rattle.std.proofs.lemmas.Bool.{and_right}
use Rattle.adb_view.specs.Schema.{shape_of}
use Rattle.adb_view.specs.declared.tables.Field.{Field}
use Rattle.adb_view.specs.declared.tables.FieldName.TheVariants.{Name}
use Rattle.adb_view.specs.declared.tables.Kind.TheVariants.{Int}
use Rattle.adb_dump.specs.Dump.{block_lines, entry_lines_or_null_line}
use Rattle.adb_dump.specs.Margin.{indented_lines_text}
use Rattle.adb_dump.specs.Words.{is_null}
use Rattle.adb_view.specs.Values.{value_at}
use Rattle.adb_view.specs.Adb.{payload_of}
use Rattle.adb_view.specs.Entries.{array_entries}
use Rattle.adb_dump.proofs.Puts.{on_ok_then, puts_on, puts_told, so_far_all, so_far_more, so_far_none}
use Rattle.adb_dump.proofs.Turns.{entries_end, entries_later, entry_turn, field_after, fields_read_with_value_below, field_turn, fields_end, null_put, null_turn, object_entry_null, object_entry_some, some_put, words_end}
use Rattle.adb_dump.proofs.Left.{fields_later, null_done, null_next, null_over, null_stop}
use Rattle.adb_dump.proofs.Booleans.{and_go}
use Rattle.adb_dump.proofs.block.+block.Goals as goal

pub write_fields-returns-after-loop-i-clause-null : goal.write_fields-returns-after-loop-i-clause-null
write_fields-returns-after-loop-i-clause-null g t c = sym (c.loop-i.invariant.null ∙ and_go c.loop-i.all_null _ (null_over (payload_of c.args.adb) c.args.fields.now (array_entries c.args.words) c.loop-i.i c.loop-i-test.false))

pub write_fields-returns-then-i-len-clause-null : goal.write_fields-returns-then-i-len-clause-null
write_fields-returns-then-i-len-clause-null g t c =
    sym (c.loop-i.invariant.null ∙ and_go c.loop-i.all_null _ (null_done (payload_of c.args.adb) c.args.fields.now (array_entries c.args.words) c.loop-i.i (omega (arith, c.len.ensures.value, c.if-i-len.true))))

pub write_entries-returns : goal.write_entries-returns
write_entries-returns g t c =
    so_far_all (g.O.Out.holds (payload_of c.args.adb)) _ _ _ _ (entries_end c.args.start.depth c.loop-i.begun (payload_of c.args.adb) c.args.kind (array_entries c.args.words) c.loop-i.i (omega (arith, c.len-i-end.ensures.value, c.loop-i-test.false))) c.loop-i.invariant.so_far

pub write_fields-returns-after-loop-i-clause-put : goal.write_fields-returns-after-loop-i-clause-put
write_fields-returns-after-loop-i-clause-put g t c = so_far_all (g.O.Out.holds (payload_of c.args.adb)) _ _ _ _ (fields_end c.args.start.depth c.loop-i.begun (payload_of c.args.adb) c.args.fields.now (array_entries c.args.words) c.loop-i.i c.loop-i-test.false) c.loop-i.invariant.so_far

pub write_fields-returns-then-i-len-clause-put : goal.write_fields-returns-then-i-len-clause-put
write_fields-returns-then-i-len-clause-put g t c =
    so_far_all (g.O.Out.holds (payload_of c.args.adb)) _ _ _ _ (words_end c.args.start.depth c.loop-i.begun (payload_of c.args.adb) c.args.fields.now (array_entries c.args.words) c.loop-i.i (omega (arith, c.len.ensures.value, c.if-i-len.true))) c.loop-i.invariant.so_far

pub write_named-returns-in_ok-write_name : goal.write_named-returns-in_ok-write_name
write_named-returns-in_ok-write_name g t c =
    on_ok_then _ _ _ (λ block. puts_told (g.O.Out.holds (payload_of c.args.adb)) _ _ _ _ (field_after c.args.field.kind c.args.start.depth c.args.start.begun _ (value_at (payload_of c.args.adb) c.args.field.kind c.args.word) (sym c.has_one_line.ensures ∙ c.if-has_one_line.true))
    (puts_on (g.O.Out.holds (payload_of c.args.adb)) _ _ _ _ _ (c.in_ok-write_name.ensures (payload_of c.args.adb)) block)) c.write_block.ensures

pub write_named-returns-in_ok-write_name_line : goal.write_named-returns-in_ok-write_name_line
write_named-returns-in_ok-write_name_line g t c =
    on_ok_then _ _ _ (λ block. puts_told (g.O.Out.holds (payload_of c.args.adb)) _ _ _ _ (fields_read_with_value_below c.args.field.kind c.args.start.depth c.args.start.begun _ (value_at (payload_of c.args.adb) c.args.field.kind c.args.word) (sym c.has_one_line.ensures ∙ c.if-has_one_line.false))
    (puts_on (g.O.Out.holds (payload_of c.args.adb)) _ _ _ _ _ (c.in_ok-write_name_line.ensures (payload_of c.args.adb)) block)) c.write_block-else-has_one_line.ensures

pub write_entries-loop-i-init : goal.write_entries-loop-i-init
write_entries-loop-i-init g t c = record { sound = c.requires.sound; so_far = so_far_none (g.O.Out.holds (payload_of c.args.adb)) _ _ }

pub write_entries-loop-i-preserved : goal.write_entries-loop-i-preserved
write_entries-loop-i-preserved g t c =
    let payload = payload_of c.args.adb in
    let words = array_entries c.args.words in
    let before : c.loop-i.i < length words = omega (arith, c.len-i-end.ensures.value, c.loop-i-test.true) in
    record {
      sound = entries_later payload c.args.kind words c.loop-i.i before c.loop-i.invariant.sound;
      so_far =
          so_far_more (g.O.Out.holds (payload_of c.args.adb)) _ _ _ _ _ _ _ (entry_turn c.args.start.depth c.loop-i.begun payload c.args.kind words c.loop-i.i before c.loop-i.invariant.sound)
          (puts_on (g.O.Out.holds (payload_of c.args.adb)) _ _ _ _ _ (c.in_ok-write_dash.ensures (payload_of c.args.adb))
          (puts_told (g.O.Out.holds (payload_of c.args.adb)) _ _ _ _ (ap (λ (w : ℕ). indented_lines_text (c.args.start.depth + 1) true (entry_lines_or_null_line (value_at payload c.args.kind w) (block_lines (shape_of c.args.kind) (value_at payload c.args.kind w)))) c.entry_word.ensures) c.in_ok-write_entry.ensures))
          c.loop-i.invariant.so_far;
    }

pub write_fields-loop-i-preserved : goal.write_fields-loop-i-preserved
write_fields-loop-i-preserved g t c =
    let payload = payload_of c.args.adb in
    let fields = c.args.fields.now in
    let words = array_entries c.args.words in
    let first : Field = record { name = Name; kind = Int } in
    let within : c.loop-i.i < length words = omega (arith, c.len.ensures.value, c.if-i-len.false) in
    let word_is : is_null (value_at payload (get_or fields c.loop-i.i first).kind (get_or words c.loop-i.i 0)) ≡ is_null (value_at payload (get_or fields c.loop-i.i first).kind c.entry_word-word.result) = ap (λ (w : ℕ). is_null (value_at payload (get_or fields c.loop-i.i first).kind w)) (sym c.entry_word-word.ensures) in
    let some : is_null (value_at payload (get_or fields c.loop-i.i first).kind c.entry_word-word.result) ≡ false = sym c.in_ok-write_field.ensures.null ∙ c.if-branch.false in
    record {
      sound = fields_later payload fields words c.loop-i.i first c.loop-i-test.true within c.loop-i.invariant.sound;
      null = c.loop-i.invariant.null ∙ and_right c.loop-i.all_null _ (null_stop payload fields words c.loop-i.i first c.loop-i-test.true within c.loop-i.invariant.sound (word_is ∙ some));
      so_far =
          so_far_more (g.O.Out.holds (payload_of c.args.adb)) _ _ _ _ _ _ _ (field_turn c.args.start.depth c.loop-i.begun payload fields words c.loop-i.i c.entry_word-word.result first c.loop-i-test.true within c.entry_word-word.ensures c.loop-i.invariant.sound some)
          (puts_told (g.O.Out.holds (payload_of c.args.adb)) _ _ _ _ (some_put c.args.start.depth c.loop-i.begun _ _ some) c.in_ok-write_field.ensures.put) c.loop-i.invariant.so_far;
    }

pub write_fields-loop-i-preserved-then-branch : goal.write_fields-loop-i-preserved-then-branch
write_fields-loop-i-preserved-then-branch g t c =
    let payload = payload_of c.args.adb in
    let fields = c.args.fields.now in
    let words = array_entries c.args.words in
    let first : Field = record { name = Name; kind = Int } in
    let within : c.loop-i.i < length words = omega (arith, c.len.ensures.value, c.if-i-len.false) in
    let word_is : is_null (value_at payload (get_or fields c.loop-i.i first).kind (get_or words c.loop-i.i 0)) ≡ is_null (value_at payload (get_or fields c.loop-i.i first).kind c.entry_word-word.result) = ap (λ (w : ℕ). is_null (value_at payload (get_or fields c.loop-i.i first).kind w)) (sym c.entry_word-word.ensures) in
    let none : is_null (value_at payload (get_or fields c.loop-i.i first).kind c.entry_word-word.result) ≡ true = sym c.in_ok-write_field.ensures.null ∙ c.if-branch.true in
    record {
      sound = fields_later payload fields words c.loop-i.i first c.loop-i-test.true within c.loop-i.invariant.sound;
      null = c.loop-i.invariant.null ∙ ap (λ (b : Bool). c.loop-i.all_null && b) (null_next payload fields words c.loop-i.i first c.loop-i-test.true within c.loop-i.invariant.sound (word_is ∙ none));
      so_far =
          so_far_more (g.O.Out.holds (payload_of c.args.adb)) _ _ _ [] _ _ _
          (null_turn c.args.start.depth c.loop-i.begun payload fields words c.loop-i.i first c.loop-i-test.true within c.loop-i.invariant.sound (word_is ∙ none))
          (puts_told (g.O.Out.holds (payload_of c.args.adb)) _ _ _ _ (null_put c.args.start.depth c.loop-i.begun _ _ none) c.in_ok-write_field.ensures.put) c.loop-i.invariant.so_far;
    }

pub write_object_entry-returns-then-branch : goal.write_object_entry-returns-then-branch
write_object_entry-returns-then-branch g t c =
    let p = payload_of c.args.adb in
    on_ok_then _ _ _ (λ put. puts_told (g.O.Out.holds p) _ _ _ _ (object_entry_null c.args.depth p c.args.which c.args.word (array_entries c.field_words-words.result) c.fields_of.result.now c.fields_of.ensures c.field_words-words.ensures.value (sym c.in_ok-write_fields.ensures.null ∙ c.if-branch.true))
    (puts_on (g.O.Out.holds p) _ _ _ _ _ c.in_ok-write_fields.ensures.put (put p))) c.put.ensures

pub write_object_entry-returns : goal.write_object_entry-returns
write_object_entry-returns g t c =
    let p = payload_of c.args.adb in
    puts_told (g.O.Out.holds p) _ _ _ _ (object_entry_some c.args.depth p c.args.which c.args.word (array_entries c.field_words-words.result) c.fields_of.result.now c.fields_of.ensures c.field_words-words.ensures.value (sym c.in_ok-write_fields.ensures.null ∙ c.if-branch.false)) c.in_ok-write_fields.ensures.put
