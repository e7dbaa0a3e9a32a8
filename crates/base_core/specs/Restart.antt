-- The tree after a crash, and what holds at a moment given the earlier ones. The rules are in
-- `docs/crash-safety.md`, "What a crash leaves", and of `HasNameLedToFileNumberedAtLeast` in "Moments".
use Rattle.std.specs.Prelude.{◌≡◌, ◌⊎◌, ◌≤◌, ℕ, true, List, [], ◌∷◌, ◌++◌, Some}
use Rattle.base_core.specs.Crash.{IsCrashImageIfUndoneNewestFirst}
use Rattle.base_core.specs.Tree.{TreeState, files_of}

-- `w` is the state of a tree after a crash of the state `v` that undoes only the newest changes of names: it has one
-- map of names, and each of its files is synced
pub record IsAfterCrashIfUndoneNewestFirst (v w : TreeState) : Type 0 where
  -- the files of `w`, as read, are files that such a crash may leave of `v`
  pub left : IsCrashImageIfUndoneNewestFirst v (files_of w)
  -- no change of names can be undone any more
  pub one_map : w.older ≡ []
  -- each file that a name leads to is synced
  pub synced : (q : List ℕ) (n : ℕ) → w.names q ≡ Some n → (w.files n).synced ≡ true

-- P holds at each moment of a list (the newest first); the arguments of P are the earlier moments and the state at the
-- moment
abbrev pub EachMoment : (List TreeState → TreeState → Type 0) → List TreeState → Type 0
EachMoment P [] = Unit {0}
EachMoment P (v ∷ earlier) = P earlier v × EachMoment P earlier

-- P holds at each moment that was added between the histories `old` and `new`
pub record SinceGivenEarlierAddedMoments (P : List TreeState → TreeState → Type 0)
    (old new : List TreeState) : Type 0 where
  -- the states that were added, the newest first
  pub added : List TreeState
  -- the new history is these states before the old history
  pub is : new ≡ added ++ old
  -- P holds at each added state, together with the states before it
  pub each : EachMoment P added

-- at one of these moments the name, as read, led to a file whose number is at least `made`: a file that was made after
-- the first `made` files
abbrev pub HasNameLedToFileNumberedAtLeast : List ℕ → ℕ → List TreeState → Type 0
HasNameLedToFileNumberedAtLeast name made [] = ⊥
HasNameLedToFileNumberedAtLeast name made (v ∷ earlier) =
    ((n : ℕ) × (v.names name ≡ Some n) × (made ≤ n)) ⊎ HasNameLedToFileNumberedAtLeast name made earlier
