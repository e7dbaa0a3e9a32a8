use Rattle.adb_view.specs.Schema.{shape_of}
use Rattle.adb_dump.specs.ReadBack.{block_read}
use Rattle.gen_core.specs.Cursors.{block_at}
use Rattle.gen_core.specs.Reads.{IsTextFault, block_taken, line_read, draft_and_cursor_after_line}
use Rattle.gen_core.specs.declared.generate.GenFault.{GenFault}
use Rattle.std.proofs.lemmas.Result.{err_from_is_err_and}
use Rattle.gen_core.proofs.KindShapes.{one_line}
use Rattle.gen_core.proofs.Reading.{bad_fault, handed_on, none_taken, only_line_bad, only_line_ends, same_fault}
use Rattle.gen_core.proofs.read.read_only_line.Goals as goal

pub returns-in_default-clause-err : goal.returns-in_default-clause-err
returns-in_default-clause-err c =
    bad_fault c.bad_line.result c.args.cursor.now.number _ c.bad_line.ensures (none_taken (shape_of c.args.kind) c.args.depth c.args.draft.now c.args.cursor.now c.in_default.ensures)

pub returns-in_err-read_line-clause-err : goal.returns-in_err-read_line-clause-err
returns-in_err-read_line-clause-err c =
    let block = block_at c.args.depth c.args.cursor.now.lines in
    let whole = block_taken (block_read (shape_of c.args.kind) block.0) block c.args.draft.now c.args.cursor.now in
    handed_on c.from_residual.result c.in_err-read_line.field-0.0 (λ (fault : GenFault). IsTextFault fault whole) (err_from_is_err_and c.from_residual.result c.from_residual.ensures.1)
    (same_fault c.in_err-read_line.field-0.0 (draft_and_cursor_after_line (line_read (shape_of c.args.kind) c.in-Some.line.now) c.args.draft.now c.args.cursor.now) whole
    (only_line_bad (shape_of c.args.kind) (one_line c.args.kind c.requires.line) c.args.depth c.in-Some.line.now c.args.draft.now c.args.cursor.now c.in-Some.ensures) c.in_err-read_line.ensures.err)

pub returns-clause-ok : goal.returns-clause-ok
returns-clause-ok c =
    (only_line_ends (shape_of c.args.kind) (one_line c.args.kind c.requires.line) c.args.depth c.in-Some.line.now c.args.draft.now c.args.cursor.now c.in-Some.ensures (c.read_line.new.draft, c.read_line.new.cursor) c.in_ok-read_line.ensures.ok c.end_block.result c.end_block.ensures).ok

pub returns-clause-err : goal.returns-clause-err
returns-clause-err c =
    (only_line_ends (shape_of c.args.kind) (one_line c.args.kind c.requires.line) c.args.depth c.in-Some.line.now c.args.draft.now c.args.cursor.now c.in-Some.ensures (c.read_line.new.draft, c.read_line.new.cursor) c.in_ok-read_line.ensures.ok c.end_block.result c.end_block.ensures).err
