use Rattle.std.proofs.Common.{◌∙◌, Result, Ok, Err, true≢false, refl, sym, arith}
use Rattle.std.specs.Result.{IsOk, OnOk}
use Rattle.std.proofs.lemmas.Result.{err_from_is_err_and}
use Rattle.hex.specs.Hex.{encode_lower}
use Rattle.base_core.proofs.Counting.{goes_on_twice, no_fault_twice}
use Rattle.report_core.proofs.Fronts.{added-more, front-more, digits_chain, no_digits}
use Rattle.report_core.proofs.Counting.{fails_after}
use Rattle.report_core.proofs.lines.write_hex.Goals as goal

-- what holds of an answer that is Ok
on_ok : {T E : Type 0} (r : Result T E) {P : Type 0} → IsOk r → OnOk r P → P
on_ok (Ok x) ok p = p
on_ok (Err e) ok p = absurd (true≢false (sym ok))

pub loop-byte-init : goal.loop-byte-init
loop-byte-init g c = record {
  written = no_digits _;
  goes_on = record { faults = omega arith; misuses = omega arith; memory_faults = omega arith; fallible = λ x. x };
  kept = record { faults = refl; memory_faults = refl };
  proper = refl;
}

pub returns-in_err-write_all : goal.returns-in_err-write_all
returns-in_err-write_all g c =
    let p = err_from_is_err_and c.from_residual.result c.from_residual.ensures.1 in
    rw p.1 (record {
      ok = tt;
      err = front-more encode_lower digits_chain _ _ _ _ c.loop-byte.byte-index _ _ (on_ok _ (c.encode_to_slice.ensures.fits.1 refl) c.encode_to_slice.ensures.written) c.loop-byte-test.true c.loop-byte.invariant.written c.in_err-write_all.ensures.err;
      cause = fails_after _ _ _ _ c.loop-byte.invariant.goes_on c.loop-byte.invariant.proper c.in_err-write_all.ensures.cause;
    })

pub loop-byte-preserved : goal.loop-byte-preserved
loop-byte-preserved g c = record {
  written = added-more encode_lower digits_chain _ _ _ _ c.loop-byte.byte-index _ _ (on_ok _ (c.encode_to_slice.ensures.fits.1 refl) c.encode_to_slice.ensures.written) c.loop-byte-test.true c.loop-byte.invariant.written c.in_ok-write_all.ensures.ok;
  goes_on = goes_on_twice _ _ _ c.loop-byte.invariant.goes_on c.write_all.ensures.cause.goes_on;
  kept = no_fault_twice _ _ _ c.loop-byte.invariant.kept c.in_ok-write_all.ensures.cause.kept;
  proper = c.write_all.ensures.cause.proper ∙ c.loop-byte.invariant.proper;
}
