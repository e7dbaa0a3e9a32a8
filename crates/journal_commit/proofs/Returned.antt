-- Which error a function returns for the error of a call, and what the call ensures then.
use Rattle.std.proofs.Common.{◌≡◌, ◌∙◌, ℕ, List, [], ◌∷◌, Result, Ok, Err, OnOk, refl, subst}
use Rattle.std.specs.Prelude.{IsErrOf}
use Rattle.std.specs.Result.{IsErrAnd}
use Rattle.base_core.specs.Calls.{IfObservable}
use Rattle.base_core.specs.Faults.{Counts}
use Rattle.base_core.specs.Read.{OnlyReads}
use Rattle.base_core.specs.Tree.{TreeState}
use Rattle.base_core.specs.declared.tree.Disk.{Disk as DiskFault}
use Rattle.base_core.specs.declared.tree.TreeFault.{TreeFault}
use Rattle.base_core.specs.declared.tree.TreeFault.TheVariants.{Disk, Memory}
use Rattle.journal_core.specs.CallCounts.{IsResultExplainedByCounts}

-- the error that is returned is that of the call
pub error_of : {T U E : Type 0} (r : Result T E) (e x : E) → IsErrAnd r (λ f. f ≡ e) → IsErrOf r x → IsErrOf {T = U} (Err e) x
error_of (Ok y) e x bad failed = absurd bad
error_of (Err f) e x is failed = let same : e ≡ x = cc in λ j. Err (same j)

-- an I/O error is no lack of memory
pub disk_no_memory : {T : Type 0} (r : Result T TreeFault) → IsErrAnd r (λ f. f ≡ Disk) → IsErrOf r Memory → ⊥
disk_no_memory (Ok y) bad failed = absurd bad
disk_no_memory (Err f) is failed = absurd (cc)

-- a lack of memory is no I/O error
pub memory_no_disk : {T : Type 0} (r : Result T TreeFault) → IsErrAnd r (λ f. f ≡ Memory) → IsErrOf r Disk → ⊥
memory_no_disk (Ok y) bad failed = absurd bad
memory_no_disk (Err f) is failed = absurd (cc)

-- what holds anyway holds on Ok
pub on_ok : {T E : Type 0} (r : Result T E) (P : Type 0) → P → OnOk r P
on_ok (Ok x) P holds = holds
on_ok (Err e) P holds = tt

-- the counts of a read that fails explain the I/O error that is returned for it
pub read_counted : {A B : Type 0} (old now : List TreeState) (before after : Counts) (e : DiskFault) (r : Result B DiskFault) → IsErrAnd r (λ f. f ≡ e) → OnlyReads {A = A} {E = DiskFault} (record {}) old now before after (Err e) → IsResultExplainedByCounts before after r
read_counted old now before after e (Ok y) bad reads = absurd bad
read_counted old now before after e (Err f) failed reads = record { goes_on = reads.goes_on; cause = reads.disk refl; kept = tt }

-- a read, which is no misuse, and then a call that is none either where it is allowed
pub proper_after_read : (old mid : List TreeState) (can : TreeState → Type 0) (a b d : ℕ) → mid ≡ old → IfObservable old (λ v. b ≡ a) → IfObservable mid (λ v. can v → d ≡ b) → IfObservable old (λ v. can v → d ≡ a)
proper_after_read [] mid can a b d same first last = tt
proper_after_read (v ∷ old) mid can a b d same first last = λ may. (subst (λ (h : List TreeState). IfObservable h (λ v. can v → d ≡ b)) same last) may ∙ first
