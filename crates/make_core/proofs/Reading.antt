-- How a call ends that read the tree before.
use Rattle.std.proofs.Common.{◌≡◌, ℕ, List, [], ◌∷◌, Option, Result, Ok, Err, refl, sym, subst}
use Rattle.std.specs.Prelude.{IfErr, IfOk, IsErrOf}
use Rattle.std.specs.Result.{IsErrAnd}
use Rattle.base_core.specs.Calls.{IfObservable}
use Rattle.base_core.specs.Faults.{Counts, CountsNewFaultWithCause, CountsNoNewFaultOrLackOfMemory, CountsOnlyRise}
use Rattle.base_core.specs.Read.{OnlyReads}
use Rattle.base_core.specs.Tree.{TreeState}
use Rattle.base_core.specs.declared.tree.TreeFault.{TreeFault}
use Rattle.base_core.specs.declared.tree.TreeFault.TheVariants as Trees
use Rattle.make_info.specs.Faults.{IsMakeFaultOf}
use Rattle.make_core.specs.Answers.{IsNotDisk, IsOkOrDiskOrMemory}
use Rattle.base_core.specs.declared.cause.Cause.{Cause}
use Rattle.make_core.specs.Kept.{AgreesUnlessMemory, AgreesUnlessMemoryOrDisk, IsRefusedAt}
use Rattle.make_info.specs.declared.fault.MakeFault.{MakeFault}
use Rattle.make_info.specs.declared.fault.MakeFault.TheVariants.{FileMissing, FileBad, InfoBad, TooLarge, Disk, Memory}

-- memory runs out after reads that succeeded
pub out_of_memory : {A B : Type 0} (old new : List TreeState) (a b : Counts) (value : A) (r : Result B MakeFault) → IsErrAnd r (λ e. e ≡ Memory) → OnlyReads {A = A} {E = MakeFault} Disk old new a b (Ok value) → OnlyReads {A = B} {E = MakeFault} Disk old new a b r
out_of_memory old new a b value (Ok x) is h = absurd is
out_of_memory {A} {B} old new a b value (Err e) is h = subst (λ (f : MakeFault). OnlyReads {A = B} {E = MakeFault} Disk old new a b (Err f)) (sym is) (record {
  same = h.same;
  goes_on = h.goes_on;
  disk = λ failed. absurd (cc);
  kept = tt;
  others = λ other. h.kept;
  proper = h.proper;
})

-- a result that agrees with what is wanted unless memory runs out is no fault of the tree
pub not_disk : {A B : Type 0} (view : A → B) (wanted : Result B MakeFault) (r : Result A MakeFault) → AgreesUnlessMemory view r wanted → IsNotDisk r
not_disk view wanted (Ok x) h = tt
not_disk view wanted (Err Disk) h = h
not_disk view wanted (Err Memory) h = tt
not_disk view wanted (Err (FileMissing p)) h = tt
not_disk view wanted (Err (FileBad p c)) h = tt
not_disk view wanted (Err (InfoBad p)) h = tt
not_disk view wanted (Err (TooLarge p q)) h = tt

-- what a read of the tree returned, told as a value of another kind
pub told_as_made : {A B : Type 0} (old new : List TreeState) (a b : Counts) (value : A) (other : B) → OnlyReads {A = A} {E = TreeFault} Trees.Disk old new a b (Ok value) → OnlyReads {A = B} {E = MakeFault} Disk old new a b (Ok other)
told_as_made old new a b value other h = record { same = h.same; goes_on = h.goes_on; disk = λ failed. absurd (cc); kept = h.kept; others = tt; proper = h.proper }

tree_memory : Trees.Memory ≡ Trees.Disk → ⊥
tree_memory is = cc

make_memory : Memory ≡ Disk → ⊥
make_memory is = cc

-- a read of the tree fails, and its fault is handed on as that of what is made
pub read_failed : {A B : Type 0} (old new : List TreeState) (a b : Counts) (fault : TreeFault) (r : Result B MakeFault) → IsErrAnd r (λ e. IsMakeFaultOf fault e) → OnlyReads {A = A} {E = TreeFault} Trees.Disk old new a b (Err fault) → OnlyReads {A = B} {E = MakeFault} Disk old new a b r
read_failed old new a b fault (Ok x) is h = absurd is
read_failed old new a b Trees.Disk (Err e) is h = record { same = h.same; goes_on = h.goes_on; disk = λ failed. h.disk refl; kept = tt; others = λ other. absurd (other is); proper = h.proper }
read_failed old new a b Trees.Memory (Err e) is h = record {
  same = h.same;
  goes_on = h.goes_on;
  disk = λ failed. absurd (make_memory (let same : Memory ≡ Disk = cc in same));
  kept = tt;
  others = λ other. h.others tree_memory;
  proper = h.proper;
}

-- what holds in each state holds if the state can be observed
pub if_observed : (P : TreeState → Type 0) (history : List TreeState) → ((v : TreeState) → P v) → IfObservable history P
if_observed P [] all = tt
if_observed P (v ∷ earlier) all = all v

-- what holds anyway holds if it can be observed
observed : {P : Type 0} (history : List TreeState) → P → IfObservable history (λ v. P)
observed [] p = tt
observed (v ∷ earlier) p = p

-- a listing is a read
pub listing_reads : {T : Type 0} (old new : List TreeState) (a b : Counts) (value : T) → new ≡ old → CountsOnlyRise a b → CountsNoNewFaultOrLackOfMemory a b → b.misuses ≡ a.misuses → OnlyReads {A = T} {E = MakeFault} Disk old new a b (Ok value)
listing_reads old new a b value same goes_on kept proper = record { same = same; goes_on = goes_on; disk = λ failed. absurd (cc); kept = kept; others = tt; proper = observed old proper }

-- a listing that fails is a read that fails
pub listing_failed : {T B : Type 0} (old new : List TreeState) (a b : Counts) (fault : TreeFault) (r : Result B MakeFault) → IsErrAnd r (λ e. IsMakeFaultOf fault e) → new ≡ old → CountsOnlyRise a b → (IsErrOf {T = T} {E = TreeFault} (Err fault) Trees.Disk → CountsNewFaultWithCause a b)
    → (IsErrOf {T = T} {E = TreeFault} (Err fault) Trees.Memory → CountsNoNewFaultOrLackOfMemory a b) → b.misuses ≡ a.misuses → OnlyReads {A = B} {E = MakeFault} Disk old new a b r
listing_failed {T} {B} old new a b fault r is same goes_on disk memory proper = read_failed {A = T} {B = B} old new a b fault r is (reads fault disk memory)
  where
    reads : (f : TreeFault) → (IsErrOf {T = T} {E = TreeFault} (Err f) Trees.Disk → CountsNewFaultWithCause a b) → (IsErrOf {T = T} {E = TreeFault} (Err f) Trees.Memory → CountsNoNewFaultOrLackOfMemory a b) → OnlyReads {A = T} {E = TreeFault} Trees.Disk old new a b (Err f)
    reads Trees.Disk disk memory = record { same = same; goes_on = goes_on; disk = disk; kept = tt; others = λ other. absurd (other refl); proper = observed old proper }
    reads Trees.Memory disk memory = record { same = same; goes_on = goes_on; disk = disk; kept = tt; others = λ other. memory refl; proper = observed old proper }

-- a fault of the tree is a failed read or a lack of memory
pub cut_by_tree : {A : Type 0} (fault : TreeFault) (r : Result A MakeFault) → IsErrAnd r (λ e. IsMakeFaultOf fault e) → IsOkOrDiskOrMemory r
cut_by_tree fault (Ok x) is = absurd is
cut_by_tree {A} Trees.Disk (Err e) is = subst (λ (f : MakeFault). IsOkOrDiskOrMemory {A = A} (Err f)) (sym is) tt
cut_by_tree {A} Trees.Memory (Err e) is = subst (λ (f : MakeFault). IsOkOrDiskOrMemory {A = A} (Err f)) (sym is) tt

-- a call that failed has no value of which anything is to be said
pub no_value : {A E : Type 0} (P : A → Type 0) (Q : E → Type 0) (r : Result A E) → IsErrAnd r Q → IfOk r P
no_value P Q (Ok x) is = absurd is
no_value P Q (Err fault) is = tt

-- if the tree failed or memory ran out, nothing is said of what was wanted
pub agrees_if_tree_failed : {A B : Type 0} (view : A → B) (wanted : Result B MakeFault) (fault : TreeFault) (r : Result A MakeFault) → IsErrAnd r (λ e. IsMakeFaultOf fault e) → AgreesUnlessMemoryOrDisk view r wanted
agrees_if_tree_failed view wanted fault (Ok x) is = absurd is
agrees_if_tree_failed view wanted Trees.Disk (Err e) is = subst (λ (f : MakeFault). AgreesUnlessMemoryOrDisk view (Err f) wanted) (sym is) tt
agrees_if_tree_failed view wanted Trees.Memory (Err e) is = subst (λ (f : MakeFault). AgreesUnlessMemoryOrDisk view (Err f) wanted) (sym is) tt

-- the refusal of a package is handed on
pub refused_on : {A : Type 0} (place : ℕ) (failed : Option Cause) (fault : MakeFault) (r : Result A MakeFault) → IsErrAnd r (λ e. e ≡ fault) → IsRefusedAt place fault failed → IfErr r (λ f. IsRefusedAt place f failed)
refused_on place failed fault (Ok x) is h = tt
refused_on place failed fault (Err e) is h = subst (λ (f : MakeFault). IsRefusedAt place f failed) (sym is) h

-- a lack of memory says nothing of the package
pub refused_memory : {A : Type 0} (place : ℕ) (failed : Option Cause) (r : Result A MakeFault) → IsErrAnd r (λ e. e ≡ Memory) → IfErr r (λ f. IsRefusedAt place f failed)
refused_memory place failed r is = refused_on place failed Memory r is tt
