-- Names that a tree is asked about, one after another, and the calls that only ask.
use Rattle.std.proofs.Common.{◌≡◌, ◌∙◌, ◌<◌, ◌≤◌, ◌+◌, ℕ, List, Some, Result, Ok, Err, arith, below_more, length, slice_get, subst, sym}
use Rattle.std.proofs.lemmas.Option.{slice_get_within}
use Rattle.std.specs.Result.{IsErrAnd}
use Rattle.base_core.specs.Faults.{Counts}
use Rattle.base_core.specs.Read.{OnlyReads}
use Rattle.base_core.specs.Tree.{TreeState}

-- two names in the same place are the same
same_some : (a b : List ℕ) → Some a ≡ Some b → a ≡ b
same_some a b e = cc

-- no index is below the first
pub none_yet : (j : ℕ) → j < 0 → ⊥
none_yet j h = omega arith

-- all names before the next one are accepted, and this one is: all names before the one after it are accepted
pub one_more_accepted : (Accepted : ℕ → List ℕ → Type 0) (names : List (List ℕ)) (i : ℕ) (here : List ℕ) → slice_get names i ≡ Some here → Accepted i here
    → ((j : ℕ) (name : List ℕ) → j < i → slice_get names j ≡ Some name → Accepted j name)
    → (j : ℕ) (name : List ℕ) → j < i + 1 → slice_get names j ≡ Some name → Accepted j name
one_more_accepted Accepted names i here there accepted before j name h is =
    below_more (λ (k : ℕ). (n : List ℕ) → slice_get names k ≡ Some n → Accepted k n) i (λ k below n at. before k n below at)
    (λ n at. subst (λ (z : List ℕ). Accepted i z) (same_some here n (sym there ∙ at)) accepted) j h name is

-- all names before the end are accepted, so that all names are
pub all_accepted : (Accepted : ℕ → List ℕ → Type 0) (names : List (List ℕ)) (end i : ℕ) → end ≡ length names → end ≤ i
    → ((j : ℕ) (name : List ℕ) → j < i → slice_get names j ≡ Some name → Accepted j name)
    → (j : ℕ) (name : List ℕ) → slice_get names j ≡ Some name → Accepted j name
all_accepted Accepted names end i long past before j name is = let within : j < length names = slice_get_within names j name is in before j name (omega arith) is

-- a success is not an error
not_failed : {T E : Type 0} (x : T) (e : E) → Ok x ≡ Err e → ⊥
not_failed x e is = cc

-- calls that only read still do if their success returns another value
pub reads_with_value : {T U E : Type 0} (disk_fault : E) (old new : List TreeState) (before now : Counts) (x : T) (y : U) → OnlyReads disk_fault old new before now (Ok x) → OnlyReads disk_fault old new before now (Ok y)
reads_with_value disk_fault old new before now x y reads = record {
  same = reads.same;
  goes_on = reads.goes_on;
  disk = λ bad. absurd (not_failed y disk_fault bad);
  kept = reads.kept;
  others = tt;
  proper = reads.proper;
}

-- calls that only read still do if their error is returned
pub reads_with_error : {T E : Type 0} (disk_fault : E) (old new : List TreeState) (before now : Counts) (e : E) (r : Result T E) → IsErrAnd r (λ f. f ≡ e) → OnlyReads {A = T} disk_fault old new before now (Err e) → OnlyReads disk_fault old new before now r
reads_with_error disk_fault old new before now e (Ok x) bad reads = absurd bad
reads_with_error {T} disk_fault old new before now e (Err f) is reads = subst (λ z. OnlyReads {A = T} disk_fault old new before now (Err z)) (sym is) reads
