-- How the counts of the tree explain the result of several calls, and what follows from an error.
use Rattle.std.proofs.Common.{◌≡◌, ◌+◌, ◌∙◌, false, true, Result, Ok, Err, ap, sym}
use Rattle.std.specs.Result.{IsErrAnd}
use Rattle.base_core.proofs.Counting.{cause_later, goes_on_twice, no_fault_twice}
use Rattle.base_core.specs.Faults.{Counts, CountsOnlyRise, CountsNewFaultWithCause, CountsNoNewFaultOrLackOfMemory}
use Rattle.journal_commit.specs.journal_core.Staged.{Staging}
use Rattle.journal_staging.specs.SourceStaging.{IsFaultExplainedByCounts}

-- calls without a fault, and then a call whose error is returned: its counts explain the error
pub err_counts : {T E : Type 0} (disk : E) (a b d : Counts) (r : Result T E) (fault : E) → IsErrAnd r (λ e. e ≡ fault) → CountsOnlyRise a b → CountsNoNewFaultOrLackOfMemory a b → CountsOnlyRise b d
    → (fault ≡ disk → CountsNewFaultWithCause b d) → ((fault ≡ disk → ⊥) → CountsNoNewFaultOrLackOfMemory b d) → IsFaultExplainedByCounts disk a d r
err_counts disk a b d (Ok x) fault is up kept on cause others = absurd is
err_counts {T} {E} disk a b d (Err e) fault is up kept on cause others = record {
  goes_on = goes_on_twice a b d up on;
  disk = λ off. cause_later a b d up (cause (let same : e ≡ disk = cc in sym is ∙ same));
  kept = tt;
  others = λ off. no_fault_twice a b d kept (others (λ same. off (is ∙ same)));
}

-- the same for a call whose only error is a fault of the tree
pub disk_counts : {T E : Type 0} (disk : E) (a b d : Counts) (r : Result T E) → IsErrAnd r (λ e. e ≡ disk) → CountsOnlyRise a b → CountsOnlyRise b d → CountsNewFaultWithCause b d → IsFaultExplainedByCounts disk a d r
disk_counts disk a b d (Ok x) is up on cause = absurd is
disk_counts disk a b d (Err e) is up on cause = record {
  goes_on = goes_on_twice a b d up on;
  disk = λ off. cause_later a b d up cause;
  kept = tt;
  others = λ off. absurd (off is);
}

-- only calls without a fault
pub ok_counts : {T E : Type 0} (disk : E) (a d : Counts) (x : T) → CountsOnlyRise a d → CountsNoNewFaultOrLackOfMemory a d → IsFaultExplainedByCounts disk a d (Ok x)
ok_counts disk a d x up kept = record { goes_on = up; disk = λ off. absurd (cc); kept = kept; others = tt }

-- a file is begun and ended: one more file waits
pub ended_view : (start stage next : Staging) → start.is_open ≡ false → stage ≡ record start { is_open = true } → next ≡ record stage { staged = stage.staged + 1; is_open = false } → next ≡ record start { staged = start.staged + 1 }
ended_view start stage next closed begun ended =
    ended ∙ ap (λ (s : Staging). record s { staged = s.staged + 1; is_open = false }) begun ∙ ap (λ b. record start { staged = start.staged + 1; is_open = b }) (sym closed)
