-- Small lists and containers, and what is reported of them.
use Rattle.std.proofs.Common.{◌≡◌, ℕ, List, [], ◌∷◌, Option, Some, None, refl, codes}
use Rattle.base_core.specs.declared.cause.Cause.TheVariants.{Repeated}
use Rattle.adb_view.specs.Plain.{Plain, null, blob, arr, obj, none, more}
use Rattle.adb_fields.specs.Pairs.{least_pair_of_equal_names}
use Rattle.adb_fields.specs.Repeated.{least_positions_of_name_twice_in_list, least_positions_of_name_twice_in_one_list, least_pair_of_lists_sharing_a_name, repeated_fault}
use Rattle.adb_fields.specs.declared.pairs.Pair.{Pair}
use Rattle.adb_view.specs.declared.tables.Which.TheVariants.{Package, Index, Idb, Intent}

abbrev pair : ℕ → ℕ → Option Pair
pair i j = Some (record { first = i; second = j })

-- ---- lists of names

each_once : least_positions_of_name_twice_in_list (codes "a" ∷ codes "b" ∷ codes "ab" ∷ []) ≡ None
unfolding least_pair_of_equal_names
each_once = refl

first_and_third : least_positions_of_name_twice_in_list (codes "a" ∷ codes "b" ∷ codes "a" ∷ []) ≡ pair 1 3
unfolding least_pair_of_equal_names
first_and_third = refl

-- of two pairs the one that ends first
least_second : least_positions_of_name_twice_in_list (codes "a" ∷ codes "b" ∷ codes "b" ∷ codes "a" ∷ []) ≡ pair 2 3
unfolding least_pair_of_equal_names
least_second = refl

three_times : least_positions_of_name_twice_in_list (codes "b" ∷ codes "a" ∷ codes "a" ∷ codes "a" ∷ []) ≡ pair 2 3
unfolding least_pair_of_equal_names
three_times = refl

empty_names : least_positions_of_name_twice_in_list ([] ∷ [] ∷ []) ≡ pair 1 2
unfolding least_pair_of_equal_names
empty_names = refl

-- over all lists, and not the first list that has one
in_the_second_list : least_positions_of_name_twice_in_one_list ((codes "a" ∷ codes "b" ∷ codes "a" ∷ []) ∷ (codes "c" ∷ codes "c" ∷ []) ∷ []) ≡ pair 1 2
unfolding least_pair_of_equal_names
in_the_second_list = refl

in_different_lists : least_positions_of_name_twice_in_one_list ((codes "a" ∷ []) ∷ (codes "a" ∷ []) ∷ []) ≡ None
unfolding least_pair_of_equal_names
in_different_lists = refl

-- twice in one list is not in two
in_one_list : least_pair_of_lists_sharing_a_name ((codes "a" ∷ codes "a" ∷ []) ∷ (codes "b" ∷ []) ∷ []) ≡ None
unfolding least_pair_of_equal_names
in_one_list = refl

-- two pairs end at one list: the one that begins first
least_first : least_pair_of_lists_sharing_a_name ((codes "a" ∷ []) ∷ (codes "b" ∷ []) ∷ (codes "b" ∷ codes "a" ∷ []) ∷ []) ≡ pair 1 3
unfolding least_pair_of_equal_names
least_first = refl

-- ---- containers

abbrev two : Plain → Plain → Plain
two v w = arr (more v (more w none))

abbrev named : List ℕ → Plain
named name = obj (more (blob name) none)

-- a folder with files
abbrev folder : List ℕ → Plain → Plain
folder name files = obj (more (blob name) (more null (more files none)))

-- a package with folders
abbrev holds : List ℕ → Plain → Plain
holds name folders = obj (more (named name) (more folders none))

two_root_folders : repeated_fault Package (holds (codes "a") (two null null)) ≡ Some (Repeated 501 1 2)
unfolding repeated_fault least_pair_of_equal_names
two_root_folders = refl

two_files : repeated_fault Package (holds (codes "a") (two (folder (codes "u") null) (folder (codes "v") (two (named (codes "f")) (named (codes "f")))))) ≡ Some (Repeated 401 1 2)
unfolding repeated_fault least_pair_of_equal_names
two_files = refl

-- folders are reported before files
folders_and_files : repeated_fault Package (holds (codes "a") (two (folder (codes "u") (two (named (codes "f")) (named (codes "f")))) (folder (codes "u") null))) ≡ Some (Repeated 501 1 2)
unfolding repeated_fault least_pair_of_equal_names
folders_and_files = refl

one_file_in_two_folders : repeated_fault Package (holds (codes "a") (two (folder (codes "u") (two (named (codes "f")) (named (codes "g")))) (folder (codes "v") (two (named (codes "f")) (named (codes "g")))))) ≡ None
unfolding repeated_fault least_pair_of_equal_names
one_file_in_two_folders = refl

abbrev lists_one : List ℕ → List ℕ → List ℕ → Plain
lists_one name dir file = holds name (arr (more (folder dir (arr (more (named file) none))) none))

abbrev database : Plain → Plain
database packages = obj (more packages none)

two_packages : repeated_fault Idb (database (two (lists_one (codes "a") (codes "u") (codes "f")) (lists_one (codes "a") (codes "u") (codes "f")))) ≡ Some (Repeated 901 1 2)
unfolding repeated_fault least_pair_of_equal_names
two_packages = refl

one_path_in_two_packages : repeated_fault Idb (database (two (lists_one (codes "a") (codes "u") (codes "f")) (lists_one (codes "b") (codes "u") (codes "f")))) ≡ Some (Repeated 401 1 2)
unfolding repeated_fault least_pair_of_equal_names
one_path_in_two_packages = refl

other_paths : repeated_fault Idb (database (two (lists_one (codes "a") (codes "u") (codes "f")) (lists_one (codes "b") (codes "v") (codes "f")))) ≡ None
unfolding repeated_fault least_pair_of_equal_names
other_paths = refl

-- an index may list a name twice
two_of_an_index : repeated_fault Index (obj (more null (more (two (named (codes "a")) (named (codes "a"))) none))) ≡ None
unfolding repeated_fault
two_of_an_index = refl

removed_and_written : repeated_fault Intent (obj (more (arr (more (blob (codes "a")) none)) (more (two (blob (codes "b")) (blob (codes "a"))) none))) ≡ Some (Repeated 1002 1 3)
unfolding repeated_fault least_pair_of_equal_names
removed_and_written = refl
