-- Files by their names, and maps from names. The rules are in `docs/crash-safety.md`, "A tree at
-- one moment".
use Rattle.std.specs.Prelude.{◌≡◌, ℕ, ◌<◌, ◌^◌, true, if◌then◌else◌, List, ◌++◌, ◌∷◌, length, Option, Some, None, IsSome, All}
use Rattle.std.specs.Str.{bytes_eq}
use Rattle.std.specs.List.{list_any}
use Rattle.base_core.specs.Name.{IsName}

-- the bytes of the file under each name, or None if the name is absent
abbrev pub Files : Type 0
Files = List ℕ → Option (List ℕ)

-- a map of names: the number of the file that each name leads to, or None if it leads to none
abbrev pub NameMap : Type 0
NameMap = List ℕ → Option ℕ

-- the map in which the name leads to `x`; each other name leads where it led
abbrev pub put_name : {X : Type 0} → (List ℕ → Option X) → List ℕ → X → List ℕ → Option X
put_name map name x q = if bytes_eq q name then Some x else map q

-- the map in which the name leads to nothing; each other name leads where it led
abbrev pub drop_name : {X : Type 0} → (List ℕ → Option X) → List ℕ → List ℕ → Option X
drop_name map name q = if bytes_eq q name then None else map q

-- the map in which the name `to` leads to `x`, and `from` to nothing; each other name leads where it led
abbrev pub move_name : {X : Type 0} → (List ℕ → Option X) → List ℕ → List ℕ → X → List ℕ → Option X
move_name map from to x = put_name (drop_name map from) to x

-- the map in which no name is present
abbrev pub no_names : {X : Type 0} → List ℕ → Option X
no_names q = None

-- each name that is present in the map is in the list `names`, so finitely many are present
abbrev pub HasOnlyNamesAmong : {X : Type 0} → List (List ℕ) → (List ℕ → Option X) → Type 0
HasOnlyNamesAmong names map = (q : List ℕ) → IsSome (map q) → list_any (bytes_eq q) names ≡ true

-- each key that is present in the map is a valid name: the path of a file below the root
abbrev pub AreNames : {X : Type 0} → (List ℕ → Option X) → Type 0
AreNames map = (q : List ℕ) → IsSome (map q) → IsName q

-- `folder` is a folder of `name`, at any depth: `name` begins with `folder` and a slash (47)
abbrev pub IsFolderOf : List ℕ → List ℕ → Type 0
IsFolderOf folder name = (rest : List ℕ) × (name ≡ folder ++ 47 ∷ rest)

-- no name that is present in the map is a folder of another, as in a file system
abbrev pub HasNoFileAsFolder : {X : Type 0} → (List ℕ → Option X) → Type 0
HasNoFileAsFolder map = (p q : List ℕ) → IsFolderOf p q → IsSome (map p) → IsSome (map q) → ⊥

-- the content of a file: bytes (numbers below 256), fewer than 2 ^ 64
pub record AreFileBytes (bytes : List ℕ) : Type 0 where
  -- each is a byte
  pub each : All (λ b. b < 256) bytes
  -- the length of the file is below 2 ^ 64
  pub few : length bytes < 2 ^ 64

-- each file is under a name, and has bytes that a file may have
pub record HaveValidNamesAndBytes (files : Files) : Type 0 where
  -- each present file is under a valid name
  pub named : AreNames files
  -- each present file has bytes that a file may have
  pub each : (q bytes : List ℕ) → files q ≡ Some bytes → AreFileBytes bytes
