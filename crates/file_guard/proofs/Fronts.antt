-- What is known of a file whose front was read, and of the tree.
use Rattle.std.proofs.Common.{◌≡◌, ◌∙◌, ◌≤◌, ℕ, ◌+◌, Bool, List, [], ◌∷◌, ◌++◌, length, take, take_all, drop, Option, Some, None, Result, Ok, Err, refl, ap, sym, subst, arith}
use Rattle.std.specs.Option.{option_map}
use Rattle.std.specs.Prelude.{IfErr, IfSome, IsErrOf, OnErr}
use Rattle.std.proofs.Math.Seq.{take-add}
use Rattle.base_core.specs.Calls.{IfObservable, IsCounted}
use Rattle.base_core.specs.Faults.{Counts, CountsNewFaultWithCause, CountsNoNewFaultOrLackOfMemory}
use Rattle.base_core.specs.Read.{OnlyReads}
use Rattle.base_core.specs.Tree.{TreeState, CanRead, files_of}
use Rattle.base_core.specs.declared.tree.Disk.{Disk}
use Rattle.file_guard.specs.Listed.{is_as_described}
use Rattle.file_guard.specs.Watching.{IsWatchOfTest}
use Rattle.file_guard.specs.declared.compare.ListedFile.{ListedFile}
use Rattle.file_guard.specs.declared.watch.Watch.{Watch}

-- ---- the file

-- the bytes that were read, and what is to come behind them; where the tree tells its files, they
-- are the first ones of the file under the name
pub record HasRead (history : List TreeState) (name : List ℕ) (for_new for_old : Watch) (new old : Option ListedFile) (at : ℕ) : Type 0 where
  pub bytes : List ℕ
  pub front : IfObservable history (λ v. IfSome (files_of v name) (λ file. bytes ≡ take at file))
  pub due_new : IsWatchOfTest for_new (is_as_described new) bytes
  pub due_old : IsWatchOfTest for_old (is_as_described old) bytes

-- what is known of the file under a name as soon as it is known of each file, where the tree tells
-- it
of_file : (P : List ℕ → Type 0) (found : Option (List ℕ)) → ((bytes : List ℕ) → found ≡ Some bytes → P bytes) → IfSome found P
of_file P None h = tt
of_file P (Some bytes) h = h bytes refl

file_has : (P : List ℕ → Type 0) (found : Option (List ℕ)) (bytes : List ℕ) → found ≡ Some bytes → IfSome found P → P bytes
file_has P found bytes is h = let Q : Option (List ℕ) → Type 0 = λ o. IfSome o P in subst Q is h

nothing_read : (history : List TreeState) (name : List ℕ) → IfObservable history (λ v. IfSome (files_of v name) (λ file. [] ≡ take 0 file))
nothing_read [] name = tt
nothing_read (v ∷ earlier) name = of_file _ (files_of v name) (λ file is. refl)

pub before_first : (history : List TreeState) (name : List ℕ) (for_new for_old : Watch) (new old : Option ListedFile) → IsWatchOfTest for_new (is_as_described new) [] → IsWatchOfTest for_old (is_as_described old) []
    → HasRead history name for_new for_old new old 0
before_first history name for_new for_old new old is_new is_old =
    record { bytes = []; front = nothing_read history name; due_new = is_new; due_old = is_old }

further_front : (history later : List TreeState) (name : List ℕ) (at n : ℕ) (bytes piece : List ℕ) → later ≡ history
    → IfObservable later (λ v. IfSome (files_of v name) (λ file. piece ≡ take n (drop at file)))
    → IfObservable history (λ v. IfSome (files_of v name) (λ file. bytes ≡ take at file))
    → IfObservable history (λ v. IfSome (files_of v name) (λ file. bytes ++ piece ≡ take (at + n) file))
further_front [] later name at n bytes piece same read h = tt
further_front (v ∷ earlier) later name at n bytes piece same read h =
    of_file _ (files_of v name) (λ file is.
    let read_here = subst (λ (states : List TreeState). IfObservable states (λ v. IfSome (files_of v name) (λ file. piece ≡ take n (drop at file)))) same read in
    let piece_is : piece ≡ take n (drop at file) = file_has _ (files_of v name) file is read_here in
    let bytes_are : bytes ≡ take at file = file_has _ (files_of v name) file is h in
    ap (λ (xs : List ℕ). xs ++ piece) bytes_are
    ∙ (ap (λ (xs : List ℕ). take at file ++ xs) piece_is ∙ sym (take-add at n file)))

pub further : (history later : List TreeState) (name : List ℕ) (for_new for_old new_after old_after : Watch) (new old : Option ListedFile) (at n : ℕ) (piece : List ℕ)
    → later ≡ history
    → ((test : List ℕ → Bool) (so_far : List ℕ) → IsWatchOfTest for_new test so_far → IsWatchOfTest new_after test (so_far ++ piece))
    → ((test : List ℕ → Bool) (so_far : List ℕ) → IsWatchOfTest for_old test so_far → IsWatchOfTest old_after test (so_far ++ piece))
    → IfObservable later (λ v. IfSome (files_of v name) (λ file. piece ≡ take n (drop at file)))
    → HasRead history name for_new for_old new old at → HasRead history name new_after old_after new old (at + n)
further history later name for_new for_old new_after old_after new old at n piece same takes_new takes_old read has = record {
  bytes = has.bytes ++ piece;
  front = further_front history later name at n has.bytes piece same read has.front;
  due_new = takes_new (is_as_described new) has.bytes has.due_new;
  due_old = takes_old (is_as_described old) has.bytes has.due_old;
}

-- all bytes of the file
pub all_read : (history : List TreeState) (name : List ℕ) (size at : ℕ) (bytes : List ℕ) → IfObservable history (λ v. Some size ≡ option_map length (files_of v name)) → size ≤ at
    → IfObservable history (λ v. IfSome (files_of v name) (λ file. bytes ≡ take at file)) → IfObservable history (λ v. Some bytes ≡ files_of v name)
all_read [] name size at bytes told le h = tt
all_read (v ∷ earlier) name size at bytes told le h = by_file (files_of v name) told h
  where
    by_file : (found : Option (List ℕ)) → Some size ≡ option_map length found → IfSome found (λ file. bytes ≡ take at file) → Some bytes ≡ found
    by_file None told h = absurd (cc)
    by_file (Some file) told h =
        let long : length file ≡ size = (cc) in
        ap (λ (xs : List ℕ). Some xs) (h ∙ take_all at file (omega arith))

-- ---- the tree

pub can_read_piece : (history : List TreeState) (name : List ℕ) (size at n : ℕ) → IfObservable history (λ v. Some size ≡ option_map length (files_of v name)) → at + n ≤ size → IfObservable history (λ v. CanRead name at n v)
can_read_piece [] name size at n told le = tt
can_read_piece (v ∷ earlier) name size at n told le = by_file (files_of v name) told
  where
    by_file : (found : Option (List ℕ)) → Some size ≡ option_map length found → (bytes : List ℕ) × (found ≡ Some bytes) × (at + n ≤ length bytes)
    by_file None is = absurd (cc)
    by_file (Some bytes) is = (bytes, refl, let long : length bytes ≡ size = (cc) in omega arith)

proper_where : (history : List TreeState) (can : TreeState → Type 0) (P : Type 0) → IfObservable history (λ v. can v → P) → IfObservable history can → IfObservable history (λ v. P)
proper_where [] can P h may = tt
proper_where (v ∷ earlier) can P h may = h may

counted_disk : {A : Type 0} (a b : Counts) (fault : Disk) (r : Result A Disk) → OnErr r (CountsNewFaultWithCause a b) → IsErrOf r fault → CountsNewFaultWithCause a b
counted_disk a b fault (Ok value) cause is = absurd (cc)
counted_disk a b fault (Err other) cause is = cause

no_other : {A : Type 0} (a b : Counts) (fault : Disk) (r : Result A Disk) → IfErr r (λ other. (other ≡ fault → ⊥) → CountsNoNewFaultOrLackOfMemory a b)
no_other a b fault (Ok value) = tt
no_other a b fault (Err other) = λ off. absurd (off refl)

-- one call that may be made
pub read_once : {A : Type 0} (fault : Disk) (can : TreeState → Type 0) (old new : List TreeState) (a b : Counts) (r : Result A Disk) → new ≡ old → IsCounted can old a b r → IfObservable old can → OnlyReads fault old new a b r
read_once fault can old new a b r same counted may = record {
  same = same;
  goes_on = counted.goes_on;
  disk = counted_disk a b fault r counted.cause;
  kept = counted.kept;
  others = no_other a b fault r;
  proper = proper_where old can (b.misuses ≡ a.misuses) counted.proper may;
}

-- the same of a call that gives something else
pub read_again : {A B : Type 0} (fault : Disk) (old new : List TreeState) (a b : Counts) (value : A) (other : B) → OnlyReads {A = A} {E = Disk} fault old new a b (Ok value) → OnlyReads {A = B} {E = Disk} fault old new a b (Ok other)
read_again fault old new a b value other h = record {
  same = h.same;
  goes_on = h.goes_on;
  disk = λ is. absurd (cc);
  kept = h.kept;
  others = tt;
  proper = h.proper;
}
