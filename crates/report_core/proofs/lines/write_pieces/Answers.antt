use Rattle.std.proofs.Common.{◌∙◌, sym, append-nil}
use Rattle.std.proofs.lemmas.Result.{err_from_is_err_and}
use Rattle.base_core.proofs.Counting.{goes_on_twice, no_fault_twice}
use Rattle.report_core.specs.Pieces.{pieces_text}
use Rattle.report_core.proofs.Fronts.{added-more, front-more, pieces_chain}
use Rattle.report_core.proofs.Counting.{fails_after}
use Rattle.report_core.proofs.lines.write_pieces.Goals as goal

pub returns-in_err-write_piece : goal.returns-in_err-write_piece
returns-in_err-write_piece g c =
    let p = err_from_is_err_and c.from_residual.result c.from_residual.ensures.1 in
    rw p.1 (record {
      ok = tt;
      err = front-more pieces_text pieces_chain _ _ _ _ c.loop-piece.piece-index _ _ (sym (append-nil _)) c.loop-piece-test.true c.loop-piece.invariant.written c.in_err-write_piece.ensures.err;
      cause = fails_after _ _ _ _ c.loop-piece.invariant.goes_on c.loop-piece.invariant.proper c.in_err-write_piece.ensures.cause;
    })

pub loop-piece-preserved : goal.loop-piece-preserved
loop-piece-preserved g c = record {
  written = added-more pieces_text pieces_chain _ _ _ _ c.loop-piece.piece-index _ _ (sym (append-nil _)) c.loop-piece-test.true c.loop-piece.invariant.written c.in_ok-write_piece.ensures.ok;
  goes_on = goes_on_twice _ _ _ c.loop-piece.invariant.goes_on c.write_piece.ensures.cause.goes_on;
  kept = no_fault_twice _ _ _ c.loop-piece.invariant.kept c.in_ok-write_piece.ensures.cause.kept;
  proper = c.write_piece.ensures.cause.proper ∙ c.loop-piece.invariant.proper;
}
