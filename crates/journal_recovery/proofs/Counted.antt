-- How the counts of the calls of recovery explain its result, and which error it returns.
use Rattle.std.proofs.Common.{◌≡◌, ℕ, [], ◌∷◌, Result, Ok, Err, OnOk, refl, subst, ◌∙◌}
use Rattle.std.specs.Prelude.{IsErrOf}
use Rattle.std.specs.Result.{IsErrAnd}
use Rattle.base_core.specs.Calls.{IfObservable}
use Rattle.base_core.specs.Faults.{Counts, CountsOnlyRise, CountsNewFaultWithCause, CountsNoNewFaultOrLackOfMemory}
use Rattle.base_core.specs.declared.tree.TreeFault.{TreeFault}
use Rattle.base_core.specs.declared.tree.TreeFault.TheVariants.{Disk as TreeDisk, Memory as TreeMemory}
use Rattle.base_core.proofs.Counting.{goes_on_same, no_fault_same}
use Rattle.journal_core.specs.CallCounts.{IsResultExplainedByCounts}
use Rattle.journal_core.specs.Recovering.{recover_fault_of_tree}
use Rattle.journal_core.specs.declared.fault.RecoverFault.{RecoverFault}
use Rattle.journal_core.specs.declared.fault.RecoverFault.TheVariants.{Disk, Memory}
use Rattle.journal_core.proofs.History.{History}
use Rattle.journal_recovery.specs.RecoveryContracts.{IsRecoveryExplainedByCounts}
use Rattle.journal_recovery.proofs.Replaying.{IsOtherError}

-- ---- the error

-- a call that returned an error did not return Ok
pub no_ok : {T E : Type 0} (r : Result T E) (fault : E → Type 0) → IsErrAnd r fault → OnOk r ⊥
no_ok (Ok x) fault bad = absurd bad
no_ok (Err e) fault failed = tt

-- the error that is returned is that of the call
pub error_of : {T U E : Type 0} (r : Result T E) (e x : E) → IsErrAnd r (λ f. f ≡ e) → IsErrOf r x → IsErrOf {T = U} (Err e) x
error_of (Ok y) e x bad failed = absurd bad
error_of (Err f) e x is failed = let same : e ≡ x = cc in λ j. Err (same j)

-- an I/O error is no refusal of the intent
pub disk_is_other : {T : Type 0} (r : Result T RecoverFault) → IsErrAnd r (λ f. f ≡ Disk) → IsOtherError r
disk_is_other (Ok x) bad = absurd bad
disk_is_other (Err f) is = record { error = tt; other = λ cause failed. absurd (cc) }

-- neither is a lack of memory
pub memory_is_other : {T : Type 0} (r : Result T RecoverFault) → IsErrAnd r (λ f. f ≡ Memory) → IsOtherError r
memory_is_other (Ok x) bad = absurd bad
memory_is_other (Err f) is = record { error = tt; other = λ cause failed. absurd (cc) }

-- neither is a fault of a call that reads the tree
pub tree_is_other : {T : Type 0} (e : TreeFault) (r : Result T RecoverFault) → IsErrAnd r (λ f. f ≡ recover_fault_of_tree e) → IsOtherError r
tree_is_other TreeDisk r is = disk_is_other r is
tree_is_other TreeMemory r is = memory_is_other r is

-- ---- the counts

-- before the first call on the tree, any error but an I/O error may be returned
pub unread_counted : {T U : Type 0} (counts : Counts) (e : RecoverFault) (r : Result T RecoverFault) → IsErrAnd r (λ f. f ≡ e) → (IsErrOf {T = U} (Err e) Disk → ⊥) → IsRecoveryExplainedByCounts counts counts r
unread_counted counts e (Ok x) bad never = absurd bad
unread_counted counts e (Err f) is never = record {
  goes_on = goes_on_same counts;
  disk = λ failed. absurd (never (let same : e ≡ Disk = cc in λ j. Err (same j)));
  kept = tt;
  memory = λ failed. no_fault_same counts;
  refused = λ cause failed. no_fault_same counts;
}

-- the counts that explain a fault of the tree explain the I/O error that is returned for it
pub disk_counted : {T A E : Type 0} (before now : Counts) (e : E) (r : Result T RecoverFault) → IsErrAnd r (λ f. f ≡ Disk) → IsResultExplainedByCounts {T = A} before now (Err e) → IsRecoveryExplainedByCounts before now r
disk_counted before now e (Ok x) bad counts = absurd bad
disk_counted before now e (Err f) is counts = record {
  goes_on = counts.goes_on;
  disk = λ failed. counts.cause;
  kept = tt;
  memory = λ failed. absurd (cc);
  refused = λ cause failed. absurd (cc);
}

-- the counts that explain Ok of the last call explain Ok
pub recovery_counted : {T A E : Type 0} (before now : Counts) (x : A) (y : T) → IsResultExplainedByCounts {E = E} before now (Ok x) → IsRecoveryExplainedByCounts before now (Ok y)
recovery_counted before now x y counts = record {
  goes_on = counts.goes_on;
  disk = λ failed. absurd (cc);
  kept = counts.kept;
  memory = λ failed. absurd (cc);
  refused = λ cause failed. absurd (cc);
}

-- before the first call on the tree memory ran out
pub memory_counted : {T : Type 0} (counts : Counts) (r : Result T RecoverFault) → IsErrAnd r (λ f. f ≡ Memory) → IsRecoveryExplainedByCounts counts counts r
memory_counted counts r is = unread_counted {U = ℕ} counts Memory r is (λ failed. absurd (cc))

-- the counts of a listing that fails explain the error that is returned for it
pub listing_counted : {T A : Type 0} (before now : Counts) (e : TreeFault) (r : Result T RecoverFault) → IsErrAnd r (λ f. f ≡ recover_fault_of_tree e) → CountsOnlyRise before now
    → (IsErrOf {T = A} (Err e) TreeDisk → CountsNewFaultWithCause before now) → (IsErrOf {T = A} (Err e) TreeMemory → CountsNoNewFaultOrLackOfMemory before now) → IsRecoveryExplainedByCounts before now r
listing_counted before now e (Ok x) bad up disk memory = absurd bad
listing_counted before now TreeDisk (Err f) is up disk memory = record { goes_on = up; disk = λ failed. disk refl; kept = tt; memory = λ failed. absurd (cc); refused = λ cause failed. absurd (cc) }
listing_counted before now TreeMemory (Err f) is up disk memory = record { goes_on = up; disk = λ failed. absurd (cc); kept = tt; memory = λ failed. memory refl; refused = λ cause failed. absurd (cc) }

-- ---- the misuses

-- a call that is no misuse, and then one that is none either
pub proper_then : (old mid : History) (a b d : ℕ) → mid ≡ old → b ≡ a → IfObservable mid (λ v. d ≡ b) → IfObservable old (λ v. d ≡ a)
proper_then [] mid a b d same first last = tt
proper_then (v ∷ old) mid a b d same first last = subst (λ (h : History). IfObservable h (λ v. d ≡ b)) same last ∙ first
