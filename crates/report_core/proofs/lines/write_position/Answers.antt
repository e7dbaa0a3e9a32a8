use Rattle.std.proofs.Common.{codes, decimal}
use Rattle.std.proofs.lemmas.Result.{err_from_is_err_and}
use Rattle.report_core.proofs.Behind.{done_by, three, cut_in_the_first, cut_in_the_second}
use Rattle.report_core.proofs.lines.write_position.Goals as goal

pub returns-in_err-write_number : goal.returns-in_err-write_number
returns-in_err-write_number g c =
    let p = err_from_is_err_and c.from_residual.result c.from_residual.ensures.1 in
    rw p.1 (cut_in_the_first (decimal c.args.folder) (codes ".") (decimal c.args.file) _ _ _ c.in_err-write_number.ensures)

pub returns-in_err-write_all : goal.returns-in_err-write_all
returns-in_err-write_all g c =
    let p = err_from_is_err_and c.from_residual-in_err-write_all.result c.from_residual-in_err-write_all.ensures.1 in
    rw p.1 (cut_in_the_second (decimal c.args.folder) (codes ".") (decimal c.args.file) _ _ _ _ _ _ _ _
    (done_by _ _ _ c.in_ok-write_number.ensures)
    (record { ok = tt; err = c.in_err-write_all.ensures.err; cause = c.in_err-write_all.ensures.cause }))

pub returns : goal.returns
returns g c = three (decimal c.args.folder) (codes ".") (decimal c.args.file) _ _ _ _ _ _ _ _ _
    (done_by _ _ _ c.in_ok-write_number.ensures)
    (record { added = c.in_ok-write_all.ensures.ok; goes_on = c.in_ok-write_all.ensures.cause.goes_on; kept = c.in_ok-write_all.ensures.cause.kept; proper = c.in_ok-write_all.ensures.cause.proper })
    c.write_number-2.ensures
