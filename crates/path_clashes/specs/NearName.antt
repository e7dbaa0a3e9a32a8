-- What is found near one name that counts as written: a folder above it, or a name below it, that makes a clash.
-- No document has a rule for this: it serves the contracts of `src/near.rt` and `clash_near` in
-- `src/clash.rt`. By *IsClash* a clash has a written name, near which it is found.
use Rattle.std.specs.Prelude.{◌≡◌, ◌⊎◌, ◌≤◌, ℕ, Bool, true, false, not, ◌&&◌, if◌then◌else◌, List, [], Option, Some, None, IfSome, bytes_eq, is_some, length}
use Rattle.base_core.specs.Files.{Files, IsFolderOf, no_names}
use Rattle.base_core.specs.ByteOrder.{precedes}
use Rattle.path_clashes.specs.Clash.{IsClash, NameChange, NamePair, is_present_after_change, is_pair_before_by_first_then_second_name}

-- whether the name has a file before the change, which the change does not remove
abbrev pub is_name_present : (List ℕ → Bool) → Files → List ℕ → Bool
is_name_present does_release files name = is_some (files name) && not (does_release name)

-- the name, if the condition `b` is true, otherwise None
abbrev pub name_if_holds : Bool → List ℕ → Option (List ℕ)
name_if_holds b name = if b then Some name else None

-- files that have only the given name, with an empty file; without a name there are no files
abbrev pub files_with_only_name : Option (List ℕ) → Files
files_with_only_name None q = None
files_with_only_name (Some name) q = if bytes_eq q name then Some [] else None

-- ---- folders above the name

-- `folder` is the shortest folder above the name that has at least `len` bytes and is present after the change
pub record IsShortestFolder (change : NameChange) (files : Files) (name : List ℕ) (len : ℕ)
    (folder : List ℕ) : Type 0 where
  -- the folder is above the name
  pub above : IsFolderOf folder name
  -- the folder has at least `len` bytes
  pub long : len ≤ length folder
  -- the folder's name is present after the change
  pub after : is_present_after_change change files folder ≡ true
  -- no shorter folder above the name with at least `len` bytes is present after the change
  pub shortest : (other : List ℕ) → IsFolderOf other name → len ≤ length other
      → is_present_after_change change files other ≡ true → length folder ≤ length other

-- the option is the result of a search for the shortest folder above the name that is present after the change and
-- has at least `len` bytes; None means that there is none
abbrev pub IsShortestFolderOrNone : NameChange → Files → List ℕ → ℕ → Option (List ℕ) → Type 0
IsShortestFolderOrNone change files name len None =
    (other : List ℕ) → IsFolderOf other name → len ≤ length other
    → is_present_after_change change files other ≡ true → ⊥
IsShortestFolderOrNone change files name len (Some folder) =
    IsShortestFolder change files name len folder

-- ---- names below the name

-- `name` is the first name in byte order, below the folder, whose file the change does not remove
pub record IsFirstBelow (does_release : List ℕ → Bool) (files : Files) (folder name : List ℕ)
    : Type 0 where
  -- the name is below the folder
  pub below : IsFolderOf folder name
  -- the name has a file before the change, which the change does not remove
  pub present_files : is_name_present does_release files name ≡ true
  -- no other name below the folder whose file is not removed precedes it
  pub first : (other : List ℕ) → IsFolderOf folder other
      → is_name_present does_release files other ≡ true → precedes other name ≡ false

-- the option is the result of a search for the first name below the folder whose file the change does not remove;
-- None means that the change removes every file below the folder
abbrev pub IsFirstNameBelowOrNone : (List ℕ → Bool) → Files → List ℕ → Option (List ℕ) → Type 0
IsFirstNameBelowOrNone does_release files folder None =
    (other : List ℕ) → IsFolderOf folder other → is_name_present does_release files other ≡ true → ⊥
IsFirstNameBelowOrNone does_release files folder (Some name) = IsFirstBelow does_release files folder name

-- ---- clashes with the name

-- the earlier of two optional pairs; if one of them is absent, it is the other one
abbrev pub earlier_pair : Option NamePair → Option NamePair → Option NamePair
earlier_pair None other = other
earlier_pair (Some one) None = Some one
earlier_pair (Some one) (Some other) =
    if is_pair_before_by_first_then_second_name other one then Some other else Some one

-- if the option has a pair, this is a clash of the change over these files
abbrev pub IsClashIfSome : NameChange → Files → Option NamePair → Type 0
IsClashIfSome change files None = Unit {0}
IsClashIfSome change files (Some pair) = IsClash change files pair

-- the option has a pair, and the pair `other` does not precede it
abbrev pub IsNotBefore : NamePair → Option NamePair → Type 0
IsNotBefore other None = ⊥
IsNotBefore other (Some pair) = is_pair_before_by_first_then_second_name other pair ≡ false

-- if the pair `other` is a clash, `found` has a pair, and `other` does not precede it
abbrev pub IsNoEarlierClash : NameChange → Files → Option NamePair → NamePair → Type 0
IsNoEarlierClash change files found other = IsClash change files other → IsNotBefore other found

-- `found` is the first clash of `name` with a name below it, or with a folder above it that is not also above `before`,
-- the written name before it. If both names are equal, `found` may also be absent.
pub record IsClashNear (change : NameChange) (files : Files) (before name : List ℕ)
    (found : Option NamePair) : Type 0 where
  -- if a pair is found, it is a clash
  pub is_one : IsClashIfSome change files found
  -- each folder above the name is also above `before`, or makes no clash with the name that precedes the found pair
  pub above : (folder : List ℕ) → IsFolderOf folder name → IsFolderOf folder before
      ⊎ IsNoEarlierClash change files found (record { path = folder; other = name })
  -- `before` is the same name, or no name below it makes a clash with it that precedes the found pair
  pub below : (other : List ℕ) → is_name_present change.does_release files other ≡ true
      → (before ≡ name)
      ⊎ IsNoEarlierClash change files found (record { path = name; other = other })

-- ---- over a tree whose files are not observable

-- over the files of some tree the pair is a clash. Its first name counts as written, or is a folder above `name` that
-- is not above `before`, the written name before it
pub record IsNewClashOverSomeFiles (change : NameChange) (before name : List ℕ)
    (pair : NamePair) : Type 0 where
  -- the files of some tree
  pub files : Files
  -- the pair is a clash over these files
  pub is : IsClash change files pair
  -- the first name of the pair counts as written; or it is not above `before`, and the second one is `name`
  pub fresh : (change.counts_as_written pair.path ≡ true)
      ⊎ ((IsFolderOf pair.path before → ⊥) × (pair.other ≡ name))

-- What is found near `name` over any tree, even one that is not observable. A found pair is a clash over some files.
-- No clash of `name` with a written folder above it precedes the pair, unless this folder is above `before` too, the
-- written name before it.
pub record MayBeClashNear (change : NameChange) (before name : List ℕ)
    (found : Option NamePair) : Type 0 where
  -- A found pair is a clash over some files. Its first name counts as written, or the pair is new at `name`
  -- (*IsNewClashOverSomeFiles*).
  pub one : IfSome found (IsNewClashOverSomeFiles change before name)
  -- each folder above `name` is also above `before`; or, with written names alone, it makes no clash with `name` that
  -- precedes the found pair
  pub above : (folder : List ℕ) → IsFolderOf folder name → IsFolderOf folder before
      ⊎ IsNoEarlierClash change no_names found (record { path = folder; other = name })
