-- When no name occurs twice in a container, stated independently of the search for repeated names. The kinds of names
-- are in the table of `docs/formats.md`, "Names that stand twice".
use Rattle.std.specs.Prelude.{◌⊎◌, ℕ, List, [], ◌∷◌, ◌++◌, map}
use Rattle.std.specs.List.{flat_map}
use Rattle.adb_view.specs.Plain.{Plain}
use Rattle.adb_view.specs.FieldIndexes.{IDB_PACKAGES_INDEX, INTENT_REMOVALS_INDEX, INTENT_WRITES_INDEX}
use Rattle.adb_view.specs.Values.{text_in}
use Rattle.adb_view.specs.declared.tables.Which.{Which}
use Rattle.adb_view.specs.declared.tables.Which.TheVariants.{Package, Idb, Intent}
use Rattle.adb_fields.specs.FirstPair.{IsIn}
use Rattle.adb_fields.specs.Repeated.{entries_of_field_at_index, files_in, folders_in, name_of, package_name, paths_of_package_files}

-- no name occurs twice in the list
abbrev pub AreDistinctNames : List (List ℕ) → Type 0
AreDistinctNames [] = Unit {0}
AreDistinctNames (name ∷ names) = (¬ IsIn name names) × AreDistinctNames names

-- in each of these lists no name occurs twice; two lists may have the same name
abbrev pub EachHasDistinctNames : List (List (List ℕ)) → Type 0
EachHasDistinctNames [] = Unit {0}
EachHasDistinctNames (names ∷ lists) = AreDistinctNames names × EachHasDistinctNames lists

-- a name is in one of the lists
abbrev pub IsInOneOf : List ℕ → List (List (List ℕ)) → Type 0
IsInOneOf name [] = ⊥
IsInOneOf name (names ∷ lists) = IsIn name names ⊎ IsInOneOf name lists

-- no name is in two of these lists; one list may have a name twice
abbrev pub ShareNoName : List (List (List ℕ)) → Type 0
ShareNoName [] = Unit {0}
ShareNoName (names ∷ lists) = ((name : List ℕ) → IsIn name names → ¬ IsInOneOf name lists)
    × ShareNoName lists

-- no package lists a folder twice, and no folder lists a file twice
pub record HaveNoRepeatInside (packages : List Plain) : Type 0 where
  -- no package lists a folder twice
  pub folders : EachHasDistinctNames (map (λ pkg. map name_of (folders_in pkg)) packages)
  -- no folder of a package lists a file twice
  pub files : EachHasDistinctNames
      (flat_map (λ pkg. map (λ folder. map name_of (files_in folder)) (folders_in pkg)) packages)

-- no two packages have the same name, and no two packages list the same path
pub record HaveNoRepeatBetween (packages : List Plain) : Type 0 where
  -- no two packages have the same name
  pub packages_once : AreDistinctNames (map package_name packages)
  -- no two packages list the same path
  pub paths_once : ShareNoName (map paths_of_package_files packages)

-- no name that must not repeat occurs twice in the value of a container, whose root has the table `which`. For tables
-- other than those of packages, databases and intents nothing is demanded
abbrev pub HasNoForbiddenRepeatedName : Which → Plain → Type 0
HasNoForbiddenRepeatedName Package v = HaveNoRepeatInside (v ∷ [])
HasNoForbiddenRepeatedName Idb v = HaveNoRepeatInside (entries_of_field_at_index IDB_PACKAGES_INDEX v)
    × HaveNoRepeatBetween (entries_of_field_at_index IDB_PACKAGES_INDEX v)
HasNoForbiddenRepeatedName Intent v =
    AreDistinctNames (map text_in (entries_of_field_at_index INTENT_REMOVALS_INDEX v)
    ++ map text_in (entries_of_field_at_index INTENT_WRITES_INDEX v))
HasNoForbiddenRepeatedName which v = Unit {0}
