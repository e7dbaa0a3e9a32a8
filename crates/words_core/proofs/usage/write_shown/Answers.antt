use Rattle.std.proofs.Common.{◌∙◌, sym, append-nil}
use Rattle.std.proofs.lemmas.Result.{err_from_is_err_and}
use Rattle.base_core.proofs.Counting.{goes_on_twice, no_fault_twice}
use Rattle.report_core.proofs.Fronts.{added-more, front-more}
use Rattle.report_core.proofs.Counting.{fails_after}
use Rattle.words_core.specs.Usage.{shown_bytes}
use Rattle.words_core.proofs.Hints.{shown_chain}
use Rattle.words_core.proofs.usage.write_shown.Goals as goal

pub returns-in_err-write_byte : goal.returns-in_err-write_byte
returns-in_err-write_byte g c =
    let p = err_from_is_err_and c.from_residual.result c.from_residual.ensures.1 in
    rw p.1 (record {
      ok = tt;
      err = front-more shown_bytes shown_chain _ _ _ _ c.loop-byte.byte-index _ _ (sym (append-nil _)) c.loop-byte-test.true c.loop-byte.invariant.written c.in_err-write_byte.ensures.err;
      cause = fails_after _ _ _ _ c.loop-byte.invariant.goes_on c.loop-byte.invariant.proper c.in_err-write_byte.ensures.cause;
    })

pub loop-byte-preserved : goal.loop-byte-preserved
loop-byte-preserved g c = record {
  written = added-more shown_bytes shown_chain _ _ _ _ c.loop-byte.byte-index _ _ (sym (append-nil _)) c.loop-byte-test.true c.loop-byte.invariant.written c.in_ok-write_byte.ensures.ok;
  goes_on = goes_on_twice _ _ _ c.loop-byte.invariant.goes_on c.write_byte.ensures.cause.goes_on;
  kept = no_fault_twice _ _ _ c.loop-byte.invariant.kept c.in_ok-write_byte.ensures.cause.kept;
  proper = c.write_byte.ensures.cause.proper ∙ c.loop-byte.invariant.proper;
}
