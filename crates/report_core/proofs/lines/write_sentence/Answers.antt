use Rattle.std.proofs.lemmas.Result.{err_from_is_err_and}
use Rattle.report_core.proofs.Behind.{done_by, written_behind, cut_short}
use Rattle.report_core.proofs.lines.write_sentence.Goals as goal

pub returns-in_err-write_pieces : goal.returns-in_err-write_pieces
returns-in_err-write_pieces g c =
    let p = err_from_is_err_and c.from_residual.result c.from_residual.ensures.1 in
    rw p.1 (cut_short _ _ _ _ _ c.in_err-write_pieces.ensures)

pub returns : goal.returns
returns g c = written_behind _ _ _ _ _ _ _ _ _ (done_by _ _ _ c.in_ok-write_pieces.ensures) c.write_cause.ensures
