-- What one read of a tree ensures.
use Rattle.std.proofs.Common.{◌≡◌, ◌+◌, ◌≤◌, ℕ, List, [], ◌∷◌, Result, Ok, Err, refl}
use Rattle.std.specs.Prelude.{IfErr, IsErrAnd, IsErrOf, OnErr}
use Rattle.base_core.specs.Calls.{IfObservable, IsCounted}
use Rattle.base_core.specs.Faults.{Counts, CountsNewFaultWithCause, CountsNoNewFaultOrLackOfMemory}
use Rattle.base_core.specs.Tree.{TreeState, CanRead}
use Rattle.base_core.specs.declared.tree.Disk.{Disk}
use Rattle.base_core.proofs.Counting.{goes_on_same, no_fault_same}
use Rattle.pkg_core.specs.Seen.{IsFileOfLength, ReadsFile, tree_fault}
use Rattle.pkg_core.proofs.SeenBytes.{proper_where_long, reads_bad, reads_failed}

-- a call of a tree that returns an error counted a fault
fault_counted : {A : Type 0} (a b : Counts) (d : Disk) (r : Result A Disk) → OnErr r (CountsNewFaultWithCause a b) → IsErrOf r d → CountsNewFaultWithCause a b
fault_counted a b d (Ok value) cause is = absurd (cc)
fault_counted a b d (Err other) cause is = cause

-- a call of a tree has one error only: that the tree failed
no_other_error : {A : Type 0} (a b : Counts) (d : Disk) (r : Result A Disk) → IfErr r (λ other. (other ≡ d → ⊥) → CountsNoNewFaultOrLackOfMemory a b)
no_other_error a b d (Ok value) = tt
no_other_error a b d (Err other) = λ off. absurd (off refl)

-- a read of `n` bytes that end within a file of the length `len` only reads this file
pub read_within : {A : Type 0} (name : List ℕ) (len at n : ℕ) (old new : List TreeState) (a b : Counts) (r : Result A Disk) → at + n ≤ len → new ≡ old → IsCounted (CanRead name at n) old a b r → ReadsFile name len tree_fault old new a b r
read_within name len at n old new a b r fits same counted = record {
  same = same;
  goes_on = counted.goes_on;
  disk = fault_counted a b tree_fault r counted.cause;
  kept = counted.kept;
  others = no_other_error a b tree_fault r;
  proper = proper_where_long old name at n len b.misuses a.misuses counted.proper fits;
}

-- the same of a call whose read failed, and that returns the error `e`
pub failed_within : {A B E : Type 0} (name : List ℕ) (len at n : ℕ) (old new : List TreeState) (a b : Counts) (d : Disk) (e : E) (r : Result B E) → IsErrAnd r (λ other. other ≡ e) → at + n ≤ len → new ≡ old → IsCounted {T = A} {E = Disk} (CanRead name at n) old a b (Err d) → ReadsFile {A = B} {E = E} name len e old new a b r
failed_within {A = A} name len at n old new a b d e r is fits same counted = reads_failed name len e old new a b d r is (read_within {A = A} name len at n old new a b (Err d) fits same counted)

-- the same of a call whose read succeeded, and that returns `value`
pub done_within : {A B E : Type 0} (name : List ℕ) (len at n : ℕ) (old new : List TreeState) (a b : Counts) (done : A) (e : E) (value : B) → at + n ≤ len → new ≡ old → IsCounted {T = A} {E = Disk} (CanRead name at n) old a b (Ok done) → ReadsFile {A = B} {E = E} name len e old new a b (Ok value)
done_within name len at n old new a b done e value fits same counted = record {
  same = same;
  goes_on = counted.goes_on;
  disk = λ failed. absurd (cc);
  kept = counted.kept;
  others = tt;
  proper = proper_where_long old name at n len b.misuses a.misuses counted.proper fits;
}

-- the same of a call that reads nothing
pub nothing_read : {A E : Type 0} (name : List ℕ) (len : ℕ) (e : E) (h : List TreeState) (a : Counts) (value : A) → ReadsFile name len e h h a a (Ok value)
nothing_read name len e h a value = record {
  same = refl;
  goes_on = goes_on_same a;
  disk = λ failed. absurd (cc);
  kept = no_fault_same a;
  others = tt;
  proper = never_misused h;
}
  where
    never_misused : (h : List TreeState) → IfObservable h (λ v. IsFileOfLength name len v → a.misuses ≡ a.misuses)
    never_misused [] = tt
    never_misused (v ∷ earlier) = λ long. refl

-- the same of a call that reads nothing, and returns an error other than `e`
pub nothing_failed : {A E : Type 0} (name : List ℕ) (len : ℕ) (e fault : E) (h : List TreeState) (a : Counts) (r : Result A E) → IsErrAnd r (λ other. other ≡ fault) → (fault ≡ e → ⊥) → ReadsFile {A = A} {E = E} name len e h h a a r
nothing_failed name len e fault h a r is other = reads_bad name len e e h h a a e fault r is other (nothing_read name len e h a e)
