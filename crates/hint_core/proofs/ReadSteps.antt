-- How a call ends that read the tree before, and what the calls of a function that only reads ensure together.
use Rattle.std.proofs.Common.{◌≡◌, ℕ, List, [], ◌∷◌, Result, Ok, Err, refl}
use Rattle.std.specs.Prelude.{IfOk, IsErrOf, OnOk}
use Rattle.std.specs.Result.{IsErrAnd}
use Rattle.base_core.specs.Calls.{IfObservable}
use Rattle.base_core.specs.Faults.{Counts, CountsNewFaultWithCause, CountsNoNewFaultOrLackOfMemory, CountsOnlyRise}
use Rattle.base_core.specs.Read.{OnlyReads}
use Rattle.base_core.specs.Tree.{TreeState}
use Rattle.base_core.specs.declared.tree.TreeFault.{TreeFault}
use Rattle.base_core.specs.declared.tree.TreeFault.TheVariants as Trees
use Rattle.base_core.proofs.Counting.{readings_none}
use Rattle.hint_core.specs.declared.telling.HintFault.{HintFault}
use Rattle.hint_core.specs.declared.telling.HintFault.TheVariants.{Disk, Memory}
use Rattle.hint_core.specs.Told.{as_hint_fault}

-- a call that failed has no value of which anything is to be said
pub no_value : {T E : Type 0} (P : T → Type 0) (Q : E → Type 0) (r : Result T E) → IsErrAnd r Q → IfOk r P
no_value P Q (Ok x) is = absurd is
no_value P Q (Err fault) is = tt

-- after a read that succeeded, a call fails for another reason than the tree
fault_behind : {A B E : Type 0} (disk : E) (old new : List TreeState) (a b : Counts) (value : A) (fault : E) (r : Result B E) → (fault ≡ disk → ⊥) → IsErrAnd r (λ e. e ≡ fault) → OnlyReads disk old new a b (Ok value) → OnlyReads disk old new a b r
fault_behind disk old new a b value fault (Ok x) apart is h = absurd is
fault_behind disk old new a b value fault (Err e) apart is h = record {
  same = h.same;
  goes_on = h.goes_on;
  disk = λ failed. absurd (apart (let same : fault ≡ disk = cc in same));
  kept = tt;
  others = λ other. h.kept;
  proper = h.proper;
}

-- a lack of memory is no fault of the tree
tree_memory : Trees.Memory ≡ Trees.Disk → ⊥
tree_memory is = cc

-- the same of the faults of a call that explains a refusal
hint_memory : Memory ≡ Disk → ⊥
hint_memory is = cc

-- memory runs out after a read that succeeded
pub out_of_memory : {A B : Type 0} (old new : List TreeState) (a b : Counts) (value : A) (r : Result B TreeFault) → IsErrAnd r (λ e. e ≡ Trees.Memory) → OnlyReads {A = A} {E = TreeFault} Trees.Disk old new a b (Ok value) → OnlyReads {A = B} {E = TreeFault} Trees.Disk old new a b r
out_of_memory old new a b value r is h = fault_behind Trees.Disk old new a b value Trees.Memory r tree_memory is h

-- memory runs out before the tree is read
pub out_of_memory_first : {B : Type 0} (old : List TreeState) (a : Counts) (r : Result B TreeFault) → IsErrAnd r (λ e. e ≡ Trees.Memory) → OnlyReads {A = B} {E = TreeFault} Trees.Disk old old a a r
out_of_memory_first old a r is = out_of_memory {A = ℕ} old old a a 0 r is (readings_none Trees.Disk old a 0)

-- memory runs out before the tree is read, in a call that explains a refusal
pub hint_out_of_memory_first : {B : Type 0} (old : List TreeState) (a : Counts) (r : Result B HintFault) → IsErrAnd r (λ e. e ≡ Memory) → OnlyReads {A = B} {E = HintFault} Disk old old a a r
hint_out_of_memory_first old a r is = fault_behind {A = ℕ} Disk old old a a 0 Memory r hint_memory is (readings_none Disk old a 0)

-- a read fails, and a call that explains a refusal hands its fault on
pub hint_read_failed : {A B : Type 0} (old new : List TreeState) (a b : Counts) (fault : TreeFault) (r : Result B HintFault) → IsErrAnd r (λ e. e ≡ as_hint_fault fault) → OnlyReads {A = A} {E = TreeFault} Trees.Disk old new a b (Err fault) → OnlyReads {A = B} {E = HintFault} Disk old new a b r
hint_read_failed old new a b fault (Ok x) is h = absurd is
hint_read_failed old new a b Trees.Disk (Err e) is h = record {
  same = h.same;
  goes_on = h.goes_on;
  disk = λ failed. h.disk refl;
  kept = tt;
  others = λ other. absurd (other is);
  proper = h.proper;
}
hint_read_failed old new a b Trees.Memory (Err e) is h = record {
  same = h.same;
  goes_on = h.goes_on;
  disk = λ failed. absurd (hint_memory (let same : Memory ≡ Disk = cc in same));
  kept = tt;
  others = λ other. h.others tree_memory;
  proper = h.proper;
}

-- what holds anyway holds if it can be observed
observed : {P : Type 0} (history : List TreeState) → P → IfObservable history (λ v. P)
observed [] p = tt
observed (v ∷ earlier) p = p

-- a listing is a read
pub listing_reads : {T : Type 0} (old new : List TreeState) (a b : Counts) (r : Result T TreeFault) → new ≡ old → CountsOnlyRise a b → (IsErrOf r Trees.Disk → CountsNewFaultWithCause a b) → OnOk r (CountsNoNewFaultOrLackOfMemory a b)
    → (IsErrOf r Trees.Memory → CountsNoNewFaultOrLackOfMemory a b) → b.misuses ≡ a.misuses → OnlyReads {A = T} {E = TreeFault} Trees.Disk old new a b r
listing_reads old new a b (Ok names) same goes_on disk kept memory proper = record { same = same; goes_on = goes_on; disk = disk; kept = kept; others = tt; proper = observed old proper }
listing_reads old new a b (Err Trees.Disk) same goes_on disk kept memory proper = record { same = same; goes_on = goes_on; disk = disk; kept = tt; others = λ other. absurd (other refl); proper = observed old proper }
listing_reads old new a b (Err Trees.Memory) same goes_on disk kept memory proper = record { same = same; goes_on = goes_on; disk = disk; kept = tt; others = λ other. memory refl; proper = observed old proper }
