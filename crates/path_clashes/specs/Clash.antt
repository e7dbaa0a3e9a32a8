-- Clashes: pairs of names after a change of which the first is a folder of the second.
-- The rule is in `docs/commands.md`, "What a change does with files", test 2.
use Rattle.std.specs.Prelude.{◌≡◌, ℕ, Bool, true, not, ◌&&◌, ◌||◌, List, bytes_eq, is_some}
use Rattle.base_core.specs.Files.{Files, IsFolderOf}
use Rattle.base_core.specs.ByteOrder.{precedes}

-- how a change treats names: which of them count as written, and which of them it releases
pub record NameChange : Type 0 where
  -- whether a name counts as written by the change
  pub counts_as_written : List ℕ → Bool
  -- whether the change releases a name, that is, removes the file under it
  pub does_release : List ℕ → Bool

-- whether the name is present after the change: it counts as written, or it has one of the files before the change,
-- which the change does not remove
abbrev pub is_present_after_change : NameChange → Files → List ℕ → Bool
is_present_after_change change files name =
    (is_some (files name) && not (change.does_release name)) || change.counts_as_written name

-- a pair of names, of which the first would be a folder of the second
pub record NamePair : Type 0 where
  -- the name that would be a folder
  pub path : List ℕ
  -- the name that would be below the first one
  pub other : List ℕ

-- the pair is a clash of the change, which is made over these files: the first name is a folder of the second, both
-- are present after the change, and at least one of them counts as written
pub record IsClash (change : NameChange) (files : Files) (pair : NamePair) : Type 0 where
  -- the first name is a folder of the second
  pub folder : IsFolderOf pair.path pair.other
  -- the first name is present after the change
  pub path_after : is_present_after_change change files pair.path ≡ true
  -- the second name is present after the change
  pub other_after : is_present_after_change change files pair.other ≡ true
  -- at least one of the two names counts as written
  pub written : (change.counts_as_written pair.path || change.counts_as_written pair.other) ≡ true

-- whether the pair a precedes the pair b: in byte order of the first names, or, if these are equal, of the second ones
abbrev pub is_pair_before_by_first_then_second_name : NamePair → NamePair → Bool
is_pair_before_by_first_then_second_name a b =
    precedes a.path b.path || (bytes_eq a.path b.path && precedes a.other b.other)

-- the pair is the first clash of the change over these files
pub record IsFirstClash (change : NameChange) (files : Files) (pair : NamePair) : Type 0 where
  -- the pair is a clash
  pub is_one : IsClash change files pair
  -- no clash precedes the pair
  pub first : (other : NamePair) → IsClash change files other
      → is_pair_before_by_first_then_second_name other pair ≡ true → ⊥

-- the change has no clash over these files
abbrev pub HasNoClash : NameChange → Files → Type 0
HasNoClash change files = (pair : NamePair) → IsClash change files pair → ⊥
