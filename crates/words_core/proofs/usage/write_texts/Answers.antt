use Rattle.std.proofs.Common.{◌∙◌, sym, append-nil}
use Rattle.std.proofs.lemmas.Result.{err_from_is_err_and}
use Rattle.base_core.proofs.Counting.{goes_on_twice, no_fault_twice}
use Rattle.report_core.proofs.Fronts.{added-more, front-more}
use Rattle.report_core.proofs.Counting.{fails_after}
use Rattle.words_core.proofs.Hints.{joined, joined_chain}
use Rattle.words_core.proofs.usage.write_texts.Goals as goal

pub returns-in_err-write_all : goal.returns-in_err-write_all
returns-in_err-write_all g c =
    let p = err_from_is_err_and c.from_residual.result c.from_residual.ensures.1 in
    rw p.1 (record {
      ok = tt;
      err = front-more (joined (λ text. text.now)) (joined_chain (λ text. text.now)) _ _ _ _ c.loop-text.text-index _ _ (sym (append-nil _)) c.loop-text-test.true c.loop-text.invariant.written c.in_err-write_all.ensures.err;
      cause = fails_after _ _ _ _ c.loop-text.invariant.goes_on c.loop-text.invariant.proper c.in_err-write_all.ensures.cause;
    })

pub loop-text-preserved : goal.loop-text-preserved
loop-text-preserved g c = record {
  written = added-more (joined (λ text. text.now)) (joined_chain (λ text. text.now)) _ _ _ _ c.loop-text.text-index _ _ (sym (append-nil _)) c.loop-text-test.true c.loop-text.invariant.written c.in_ok-write_all.ensures.ok;
  goes_on = goes_on_twice _ _ _ c.loop-text.invariant.goes_on c.write_all.ensures.cause.goes_on;
  kept = no_fault_twice _ _ _ c.loop-text.invariant.kept c.in_ok-write_all.ensures.cause.kept;
  proper = c.write_all.ensures.cause.proper ∙ c.loop-text.invariant.proper;
}
