-- The listing of a folder. The rules are in `docs/crash-safety.md`, "A tree at one moment" ("Each
-- state that a tree shows is *whole*") and "What each call does" (`list`).
use Rattle.std.specs.Prelude.{◌≡◌, ◌↔◌, ℕ, List, Option, IsSome, All, AllPairs, Contains}
use Rattle.std.specs.Ordering.{nat_cmp}
use Rattle.std.specs.Cmp.Lexicographic.{slice_cmp}
use Rattle.std.specs.declared.cmp.Ordering.TheVariants.{Less}
use Rattle.base_core.specs.Files.{IsFolderOf}
use Rattle.base_core.specs.Name.{IsName}
use Rattle.base_core.specs.Tree.{TreeState}

-- the names are in byte order, each once
abbrev pub AreSortedDistinctTexts : List (List ℕ) → Type 0
AreSortedDistinctTexts names = AllPairs (λ a b. slice_cmp nat_cmp a b ≡ Less) names

-- `names` are exactly the names that are present in the map, in byte order
pub record IsSortedListOfAllNamesInMap {X : Type 0} (map : List ℕ → Option X)
    (names : List (List ℕ)) : Type 0 where
  -- the names are in byte order, each once
  pub rising : AreSortedDistinctTexts names
  -- the list has exactly the present names
  pub each : (q : List ℕ) → Contains names q ↔ IsSome (map q)

-- `names` are the listing of a folder in the state `v`: exactly the present names below the folder, at any depth, in
-- byte order
pub record IsSortedListingOfFolder (folder : List ℕ) (v : TreeState) (names : List (List ℕ)) : Type 0 where
  -- the names are in byte order, each once
  pub rising : AreSortedDistinctTexts names
  -- the list has exactly the present names below the folder
  pub each : (q : List ℕ) → Contains names q ↔ (IsSome (v.names q) × IsFolderOf folder q)

-- `name` is a valid name below the folder, at any depth
pub record IsValidNameBelowFolder (folder name : List ℕ) : Type 0 where
  -- the bytes are a valid name
  pub named : IsName name
  -- the folder is above this name, at any distance
  pub below : IsFolderOf folder name

-- `names` are valid names below the folder, in byte order, each once. Nothing is said of which names a tree has
pub record AreSortedAndEachBelowFolder (folder : List ℕ) (names : List (List ℕ)) : Type 0 where
  -- the names are in byte order, each once
  pub rising : AreSortedDistinctTexts names
  -- each is a valid name below the folder
  pub each : All (IsValidNameBelowFolder folder) names
