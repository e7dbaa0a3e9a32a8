-- How the counts of the tree explain the result of several calls, and what follows from an error.
use Rattle.std.proofs.Common.{◌≡◌, ◌+◌, ◌∙◌, true, false, Result, Ok, Err, ap, sym}
use Rattle.std.specs.Prelude.{IsErr, OnOk}
use Rattle.base_core.proofs.Counting.{cause_later, goes_on_twice, no_fault_twice}
use Rattle.base_core.specs.Faults.{Counts, CountsOnlyRise, CountsNewFaultWithCause, CountsNoNewFaultOrLackOfMemory}
use Rattle.journal_core.specs.CallCounts.{IsResultExplainedByCounts}
use Rattle.journal_core.specs.Staged.{Staging}

-- true is not false
not_both : true ≡ false → ⊥
not_both is = cc

-- nothing is claimed of Ok if the result is an error
pub err_not_ok : {T E : Type 0} (r : Result T E) (Q : Type 0) → IsErr r → OnOk r Q
err_not_ok (Ok x) Q is = absurd (not_both (sym is))
err_not_ok (Err e) Q is = tt

-- calls without a fault, and then a call whose error is returned: its counts explain the error
pub err_counts : {T E : Type 0} (a b d : Counts) (r : Result T E) → IsErr r → CountsOnlyRise a b → CountsOnlyRise b d → CountsNewFaultWithCause b d → IsResultExplainedByCounts a d r
err_counts a b d (Ok x) is up on cause = absurd (not_both (sym is))
err_counts a b d (Err e) is up on cause = record { goes_on = goes_on_twice a b d up on; cause = cause_later a b d up cause; kept = tt }

-- calls without a fault, and then a call: its counts explain its result
pub later_counts : {T E : Type 0} (a b d : Counts) (r : Result T E) → CountsOnlyRise a b → CountsNoNewFaultOrLackOfMemory a b → IsResultExplainedByCounts b d r → IsResultExplainedByCounts a d r
later_counts a b d (Ok x) up kept last = record { goes_on = goes_on_twice a b d up last.goes_on; cause = tt; kept = no_fault_twice a b d kept last.kept }
later_counts a b d (Err e) up kept last = record { goes_on = goes_on_twice a b d up last.goes_on; cause = cause_later a b d up last.cause; kept = tt }

-- a file is begun and ended: one more file waits
pub ended_view : {T E : Type 0} (r : Result T E) (start stage next : Staging) → start.is_open ≡ false → stage ≡ record start { is_open = true }
    → OnOk r (next ≡ record stage { staged = stage.staged + 1; is_open = false }) → OnOk r (next ≡ record start { staged = start.staged + 1 })
ended_view (Ok x) start stage next closed begun ended =
    ended ∙ ap (λ (s : Staging). record s { staged = s.staged + 1; is_open = false }) begun ∙ ap (λ b. record start { staged = start.staged + 1; is_open = b }) (sym closed)
ended_view (Err e) start stage next closed begun ended = tt
