-- What the calls of a function that only reads a tree ensure together.
use Rattle.std.proofs.Common.{◌≡◌, ℕ, List, Result, Ok, Err, refl, sym, subst}
use Rattle.std.specs.Prelude.{IfOk, OnOk, IsErrOf}
use Rattle.std.specs.Result.{IsErrAnd}
use Rattle.base_core.specs.Faults.{Counts, CountsOnlyRise, CountsNewFaultWithCause, CountsNoNewFaultOrLackOfMemory}
use Rattle.base_core.specs.Read.{OnlyReads}
use Rattle.base_core.specs.Tree.{TreeState}
use Rattle.base_core.specs.declared.tree.TreeFault.{TreeFault}
use Rattle.base_core.specs.declared.tree.TreeFault.TheVariants.{Disk, Memory}
use Rattle.base_core.proofs.Counting.{readings_none}
use Rattle.path_clashes.proofs.Observed.{observed_always}

-- nothing is said of Ok if the result is an error
pub if_failed : {T E : Type 0} (r : Result T E) (fault : E → Type 0) (P : T → Type 0) → IsErrAnd r fault → IfOk r P
if_failed (Ok x) fault P bad = absurd bad
if_failed (Err e) fault P failed = tt

module _ {A B : Type 0} (old now : List TreeState) (before after : Counts) where
  -- a lack of memory after the reads
  pub reads_then_memory : (x : A) (r : Result B TreeFault) → IsErrAnd r (λ e. e ≡ Memory) → OnlyReads {A = A} {E = TreeFault} Disk old now before after (Ok x) → OnlyReads {A = B} {E = TreeFault} Disk old now before after r
  reads_then_memory x (Ok y) is reads = absurd is
  reads_then_memory x (Err e) is reads = subst (λ (f : TreeFault). OnlyReads {A = B} {E = TreeFault} Disk old now before after (Err f)) (sym is) (record {
    same = reads.same;
    goes_on = reads.goes_on;
    disk = λ failed. absurd (cc);
    kept = tt;
    others = λ other. reads.kept;
    proper = reads.proper;
  })

-- a lack of memory before any read
pub unread_then_memory : {B : Type 0} (history : List TreeState) (counts : Counts) (r : Result B TreeFault) → IsErrAnd r (λ e. e ≡ Memory) → OnlyReads {A = B} {E = TreeFault} Disk history history counts counts r
unread_then_memory history counts r is = reads_then_memory {A = ℕ} history history counts counts 0 r is (readings_none {A = ℕ} {E = TreeFault} Disk history counts 0)

-- a listing of the tree only reads it
pub list_reads : {A : Type 0} (old now : List TreeState) (before after : Counts) (r : Result A TreeFault) → now ≡ old → CountsOnlyRise before after → (IsErrOf r Disk → CountsNewFaultWithCause before after)
    → OnOk r (CountsNoNewFaultOrLackOfMemory before after) → (IsErrOf r Memory → CountsNoNewFaultOrLackOfMemory before after) → after.misuses ≡ before.misuses → OnlyReads {A = A} {E = TreeFault} Disk old now before after r
list_reads old now before after (Ok x) same up disk kept memory proper =
    record { same = same; goes_on = up; disk = disk; kept = kept; others = tt; proper = observed_always old (after.misuses ≡ before.misuses) proper }
list_reads old now before after (Err Disk) same up disk kept memory proper =
    record { same = same; goes_on = up; disk = disk; kept = tt; others = λ other. absurd (other refl); proper = observed_always old (after.misuses ≡ before.misuses) proper }
list_reads old now before after (Err Memory) same up disk kept memory proper =
    record { same = same; goes_on = up; disk = disk; kept = tt; others = λ other. memory refl; proper = observed_always old (after.misuses ≡ before.misuses) proper }
