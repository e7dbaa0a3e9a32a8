-- A table of names: entries, each a name and the number of its file, in the byte order of the names. The contracts of
-- `src/table.rt` use these definitions. Names and folders are those of `docs/crash-safety.md`, "A tree at one moment".
use Rattle.std.specs.Prelude.{◌≡◌, ◌≢◌, ◌↔◌, ℕ, ◌<◌, ◌≤◌, if◌then◌else◌, false, List, [], ◌∷◌, ◌++◌, map, Option, Some, None, IsSome, AllPairs, Contains, length}
use Rattle.std.specs.List.{HoldsAt, AllWithin}
use Rattle.std.specs.Ordering.{nat_cmp}
use Rattle.std.specs.Str.{bytes_eq}
use Rattle.std.specs.Cmp.Lexicographic.{slice_cmp}
use Rattle.std.specs.declared.cmp.Ordering.TheVariants.{Less, Greater}
use Rattle.base_core.specs.Files.{IsFolderOf}
use Rattle.tree_memory.specs.declared.table.NameAndFile.{NameAndFile}

-- the entries are a table: each name is less, in byte order, than all names after it, so that none is repeated
abbrev pub IsSortedNameTable : List NameAndFile → Type 0
IsSortedNameTable entries = AllPairs (λ a b. slice_cmp nat_cmp a.name b.name ≡ Less) entries

-- the names of a table, in its order
abbrev pub names_of : List NameAndFile → List (List ℕ)
names_of entries = map (λ e. e.name) entries

-- the number of the file to which a name leads, or None if the name is not in the table
abbrev pub lookup : List NameAndFile → List ℕ → Option ℕ
lookup [] q = None
lookup (e ∷ es) q = if bytes_eq q e.name then Some e.file else lookup es q

-- the entry at the place `i` of a table, counted from 0, has this name
pub record IsNameAtPlace (entries : List NameAndFile) (i : ℕ) (name : List ℕ) : Type 0 where
  -- the place is one of the table
  pub within : i < length entries
  -- the entry at this place has this name
  pub here : HoldsAt (λ e. e.name ≡ name) entries i

-- this name is absent from a table, and its entry would be inserted at the place `i`, counted from 0
pub record IsInsertionPlace (entries : List NameAndFile) (i : ℕ) (name : List ℕ) : Type 0 where
  -- the place is one of the table, or the end of the table
  pub within : i ≤ length entries
  -- each entry before this place has a name that is less, in byte order
  pub before : AllWithin (λ e. slice_cmp nat_cmp e.name name ≡ Less) entries 0 i
  -- each entry from this place on has a name that is greater, in byte order
  pub behind : AllWithin (λ e. slice_cmp nat_cmp e.name name ≡ Greater) entries i (length entries)

-- the names below this folder begin, or would begin, at the place `i` of a table, counted from 0; 47 is the byte `/`,
-- which follows the folder's name in a name below it
pub record IsStartOfFolder (entries : List NameAndFile) (i : ℕ) (folder : List ℕ) : Type 0 where
  -- the place is one of the table, or the end of the table
  pub within : i ≤ length entries
  -- each entry before this place has a name less than the folder's name and a `/`, in byte order
  pub before : AllWithin (λ e. slice_cmp nat_cmp e.name (folder ++ 47 ∷ []) ≡ Less) entries 0 i
  -- no entry from this place on has a name less than the folder's name and a `/`
  pub behind : AllWithin (λ e. slice_cmp nat_cmp e.name (folder ++ 47 ∷ []) ≢ Less) entries i
      (length entries)

-- `names` are exactly the names of a table that are below this folder, at any depth, in byte order
pub record AreTableNamesBelow (entries : List NameAndFile) (folder : List ℕ)
    (names : List (List ℕ)) : Type 0 where
  -- the names are in byte order, each once
  pub rising : AllPairs (λ a b. slice_cmp nat_cmp a b ≡ Less) names
  -- a name is among these names exactly if it is in the table and below the folder
  pub each : (q : List ℕ) → Contains names q ↔ (IsSome (lookup entries q) × IsFolderOf folder q)

-- ---- whether a name fits beside the names of a table, with one of them (`but`) left out

-- some folder of this name is a name of the table other than `but`
abbrev pub HasFolderOtherThan : List NameAndFile → List ℕ → List ℕ → Type 0
HasFolderOtherThan entries name but =
    (folder : List ℕ) × IsFolderOf folder name
    × (IsSome (lookup entries folder) × (bytes_eq folder but ≡ false))

-- some name of the table other than `but` is below this folder
abbrev pub HasNameBelowOtherThan : List NameAndFile → List ℕ → List ℕ → Type 0
HasNameBelowOtherThan entries folder but =
    (name : List ℕ) × IsFolderOf folder name
    × (IsSome (lookup entries name) × (bytes_eq name but ≡ false))

-- no name of the table, other than `but`, is a folder of `name` or is below `name`. `but` is the name that a rename
-- removes; otherwise it is `name` itself
pub record MakesNoFolderOfAnother (entries : List NameAndFile) (name but : List ℕ) : Type 0 where
  -- no folder of this name is a name of the table other than `but`
  pub above : HasFolderOtherThan entries name but → ⊥
  -- no name of the table other than `but` is below this name
  pub below : HasNameBelowOtherThan entries name but → ⊥
