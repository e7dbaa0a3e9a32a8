use Rattle.std.proofs.Common.{◌≡◌, ℕ, List, [], Option, Some, None, Ok, Err, Result, sym, subst, ap, ◌∙◌}
use Rattle.std.proofs.lemmas.Result.{err_from_is_err_and}
use Rattle.adb_view.specs.declared.tables.Which.{Which}
use Rattle.adb_dump.specs.ReadBack.{value_of_lines_below_schema_line}
use Rattle.gen_core.specs.Cursors.{CursorState, cursor_after_line}
use Rattle.gen_core.specs.Generated.{dumped_root}
use Rattle.gen_core.specs.Reads.{IsTextFault, block_taken, table_and_draft_of_root, table_read}
use Rattle.gen_core.specs.declared.generate.GenFault.{GenFault}
use Rattle.gen_core.specs.declared.generate.GenFault.TheVariants.{Bad}
use Rattle.gen_core.proofs.Reading.{bad_fault, handed_on, same_fault, taken}
use Rattle.gen_core.proofs.RootText.{after_first, all_read, bad_value, no_table, rest_left, rest_taken}
use Rattle.gen_core.proofs.generate.read_text.Goals as goal

-- the first line, by the place at the beginning of the text
begun : (start place : CursorState) (o : Option Which) → start ≡ place → table_read start.lines ≡ o → table_read place.lines ≡ o
begun start place o e h = subst (λ (p : CursorState). table_read p.lines ≡ o) e h

next_place : (start place new : CursorState) → start ≡ place → new ≡ cursor_after_line start.lines start → new ≡ cursor_after_line place.lines place
next_place start place new e h = h ∙ ap (λ (p : CursorState). cursor_after_line p.lines p) e

pub returns-in_err-which-clause-err : goal.returns-in_err-which-clause-err
returns-in_err-which-clause-err c =
    let whole = table_and_draft_of_root (dumped_root c.args.text.now) c.args.draft.now in
    let fault : c.in_err-which.field-0.0 ≡ Bad 1 = c.in_err-which.ensures.err.0 ∙ ap (λ (p : CursorState). Bad p.number) c.new-cursor.ensures in
    handed_on c.from_residual.result c.in_err-which.field-0.0 (λ (f : GenFault). IsTextFault f whole) (err_from_is_err_and c.from_residual.result c.from_residual.ensures.1)
    (bad_fault c.in_err-which.field-0.0 1 whole fault (no_table c.args.text.now c.args.draft.now (begun c.new-cursor.result _ None c.new-cursor.ensures c.in_err-which.ensures.err.1)))

pub returns-in_err-read_root-clause-err : goal.returns-in_err-read_root-clause-err
returns-in_err-read_root-clause-err c =
    let t = c.args.text.now in
    let which = c.in_ok-which.which in
    let whole = table_and_draft_of_root (dumped_root t) c.args.draft.now in
    let fault = c.in_err-read_root.field-0.0 in
    let table = begun c.new-cursor.result _ (Some which) c.new-cursor.ensures c.in_ok-which.ensures.ok in
    let place : c.read_table.new.cursor ≡ after_first t = next_place c.new-cursor.result _ c.read_table.new.cursor c.new-cursor.ensures c.in_ok-which.ensures.next in
    handed_on c.from_residual-in_err-read_root.result fault (λ (f : GenFault). IsTextFault f whole) (err_from_is_err_and c.from_residual-in_err-read_root.result c.from_residual-in_err-read_root.ensures.1)
    (same_fault fault (rest_taken t which c.args.draft.now) whole (λ n e. bad_value t which c.args.draft.now n table e)
    (subst (λ (p : CursorState). IsTextFault fault (block_taken (value_of_lines_below_schema_line which p.lines) (p.lines, []) c.args.draft.now p)) place c.in_err-read_root.ensures.err))

pub returns-then-has_rest-clause-err : goal.returns-then-has_rest-clause-err
returns-then-has_rest-clause-err c =
    let t = c.args.text.now in
    let which = c.in_ok-which.which in
    let whole = table_and_draft_of_root (dumped_root t) c.args.draft.now in
    let table = begun c.new-cursor.result _ (Some which) c.new-cursor.ensures c.in_ok-which.ensures.ok in
    let place : c.read_table.new.cursor ≡ after_first t = next_place c.new-cursor.result _ c.read_table.new.cursor c.new-cursor.ensures c.in_ok-which.ensures.next in
    bad_fault c.bad_line.result c.read_root.new.cursor.number whole c.bad_line.ensures
    (rest_left t which c.args.draft.now (c.read_root.new.draft, c.read_root.new.cursor) table
    (subst (λ (p : CursorState). block_taken (value_of_lines_below_schema_line which p.lines) (p.lines, []) c.args.draft.now p ≡ taken c.read_root.new.draft c.read_root.new.cursor) place c.in_ok-read_root.ensures.ok) c.if-has_rest.ensures)

pub returns-clause-ok : goal.returns-clause-ok
returns-clause-ok c =
    let t = c.args.text.now in
    let which = c.in_ok-which.which in
    let table = begun c.new-cursor.result _ (Some which) c.new-cursor.ensures c.in_ok-which.ensures.ok in
    let place : c.read_table.new.cursor ≡ after_first t = next_place c.new-cursor.result _ c.read_table.new.cursor c.new-cursor.ensures c.in_ok-which.ensures.next in
    all_read t which c.args.draft.now (c.read_root.new.draft, c.read_root.new.cursor) table
    (subst (λ (p : CursorState). block_taken (value_of_lines_below_schema_line which p.lines) (p.lines, []) c.args.draft.now p ≡ taken c.read_root.new.draft c.read_root.new.cursor) place c.in_ok-read_root.ensures.ok) c.if-has_rest.ensures
