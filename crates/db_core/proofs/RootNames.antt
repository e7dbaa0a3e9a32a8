-- No name stands twice in a new database.
use Rattle.std.proofs.Common.{◌≡◌, inl, inr, ℕ, suc, Bool, true, false, List, [], ◌∷◌, ◌++◌, map, drop, AllPairs, Option, refl, ap, sym, subst, ◌∙◌, arith}
use Rattle.std.specs.Prelude.{unwrap_or}
use Rattle.std.specs.List.{flat_map}
use Rattle.std.specs.declared.cmp.Ordering.TheVariants.{Less}
use Rattle.base_core.proofs.Numbers.{not_first}
use Rattle.base_core.proofs.Listed.{at_index}
use Rattle.base_core.proofs.Rising.{not_itself, order}
use Rattle.adb_view.specs.Plain.{Plain, Plains, int, blob}
use Rattle.adb_view.specs.Values.{entries_in, entry_at_index, int_in, text_in}
use Rattle.adb_view.specs.declared.tables.Which.TheVariants.{Idb}
use Rattle.adb_copy.specs.adb_fields.FirstPair.{IsIn}
use Rattle.adb_copy.specs.adb_fields.Once.{EachHasDistinctNames, AreDistinctNames, HasNoForbiddenRepeatedName, HaveNoRepeatBetween, HaveNoRepeatInside}
use Rattle.adb_copy.specs.adb_fields.Repeated.{files_in, folders_in, list_of, name_of, package_name}
use Rattle.adb_copy.specs.Zeros.{info_without_zeros_with_id_and_file_size, with_value_set_at_index, without_zeros}
use Rattle.adb_view.proofs.ValueEntries.{entries_arr, nth_obj, text_blob}
use Rattle.adb_copy.proofs.WithoutZeros.{text_zeros}
use Rattle.adb_copy.proofs.Zeros.{at_other, nth_zeros}
use Rattle.db_core.specs.Members.{AreMembersInNameOrder, Member, listings_of_members, member_name}
use Rattle.db_core.specs.NewDatabase.{database_value, folder_file_count, folder_in_new_database, folders_in_new_database, info_in_new_database, member_file_count, owned_entries_without_zeros, package_in_new_database, packages_in_new_database}
use Rattle.db_core.specs.OwnedListings.{owned_listings}
use Rattle.db_core.specs.OwnedListings.{HaveAtMostOneOwnerForEachPath}
use Rattle.db_core.proofs.OneOwner.{owned_apart}
use Rattle.db_core.proofs.OwnedPaths.{name_zeros}
use Rattle.db_core.proofs.ReadBack.{packages_in}
use Rattle.db_core.proofs.RootParts.{EachIn, fields_of_folder, fields_of_package}
use Rattle.db_core.proofs.SoundPackages.{MayEnter}

-- ---- the parts of what is written

pub folder_name : (d : Plain) (flags : List Bool) → name_of (folder_in_new_database d flags) ≡ name_of d
folder_name d flags = ap text_in (nth_obj (fields_of_folder d flags) 0) ∙ text_blob (name_of d)

pub folder_files : (d : Plain) (flags : List Bool) → entries_in (entry_at_index (folder_in_new_database d flags) 2) ≡ owned_entries_without_zeros (files_in d) flags
folder_files d flags =
    ap entries_in (nth_obj (fields_of_folder d flags) 2)
    ∙ entries_arr (owned_entries_without_zeros (files_in d) flags)

pub package_info : (m : Member) (flags : List Bool) → entry_at_index (package_in_new_database m flags) 0 ≡ info_in_new_database m.id (entry_at_index m.pkg 0)
package_info m flags = nth_obj (fields_of_package m flags) 0

pub package_folders : (m : Member) (flags : List Bool) → entries_in (entry_at_index (package_in_new_database m flags) 1) ≡ folders_in_new_database (folders_in m.pkg) flags
package_folders m flags = ap entries_in (nth_obj (fields_of_package m flags) 1) ∙ entries_arr (folders_in_new_database (folders_in m.pkg) flags)

-- a field of an information but its hash and its size
pub info_entry : (id : Option (List ℕ)) (info : Plain) (i : ℕ) → (2 ≡ i → ⊥) → (12 ≡ i → ⊥) → entry_at_index (info_in_new_database id info) i ≡ without_zeros (entry_at_index info i)
unfolding info_without_zeros_with_id_and_file_size without_zeros
info_entry id info i a b =
    let hash : Plain = blob (unwrap_or id (text_in (entry_at_index info 2))) in
    let size : Plain = int (int_in (entry_at_index info 12)) in
    let vs : Plains = with_value_set_at_index 12 size (with_value_set_at_index 2 hash (entries_in info)) in
    nth_obj _ i ∙ (nth_zeros vs i ∙ ap without_zeros (at_other 12 i size (with_value_set_at_index 2 hash (entries_in info)) b ∙ at_other 2 i hash (entries_in info) a))

pub package_named : (m : Member) (flags : List Bool) → package_name (package_in_new_database m flags) ≡ member_name m
package_named m flags =
    ap name_of (package_info m flags)
    ∙ (ap text_in (info_entry m.id (entry_at_index m.pkg 0) 0 (not_first 1) (not_first 11)) ∙ text_zeros (entry_at_index (entry_at_index m.pkg 0) 0))

-- ---- names in a folder

still_in : (name : List ℕ) (files : List Plain) (flags : List Bool) → IsIn name (map name_of (list_of (owned_entries_without_zeros files flags))) → IsIn name (map name_of files)
still_in name [] flags h = absurd h
still_in name (f ∷ files) [] h = absurd h
still_in name (f ∷ files) (true ∷ flags) (inl is) = inl (is ∙ name_zeros f)
still_in name (f ∷ files) (true ∷ flags) (inr h) = inr (still_in name files flags h)
still_in name (f ∷ files) (false ∷ flags) h = inr (still_in name files flags h)

owned_distinct : (files : List Plain) (flags : List Bool) → AreDistinctNames (map name_of files) → AreDistinctNames (map name_of (list_of (owned_entries_without_zeros files flags)))
owned_distinct [] flags h = tt
owned_distinct (f ∷ files) [] h = tt
owned_distinct (f ∷ files) (true ∷ flags) h =
    (λ here. h.0 (subst (λ (name : List ℕ). IsIn name (map name_of files)) (name_zeros f) (still_in (name_of (without_zeros f)) files flags here)), owned_distinct files flags h.1)
owned_distinct (f ∷ files) (false ∷ flags) h = owned_distinct files flags h.1

-- ---- names in a package

names_kept : (ds : List Plain) (flags : List Bool) → map name_of (list_of (folders_in_new_database ds flags)) ≡ map name_of ds
names_kept [] flags = refl
names_kept (d ∷ ds) flags = λ j. folder_name d flags j ∷ names_kept ds (drop (folder_file_count d) flags) j

abbrev file_names : Plain → List (List ℕ)
file_names folder = map name_of (files_in folder)

files_distinct : (ds : List Plain) (flags : List Bool) → EachHasDistinctNames (map file_names ds) → EachHasDistinctNames (map file_names (list_of (folders_in_new_database ds flags)))
files_distinct [] flags h = tt
files_distinct (d ∷ ds) flags h = (
  subst (λ (vs : Plains). AreDistinctNames (map name_of (list_of vs))) (sym (folder_files d flags)) (owned_distinct (files_in d) flags h.0),
  files_distinct ds (drop (folder_file_count d) flags) h.1,
)

-- ---- names in all packages

all_distinct : (xs ys : List (List (List ℕ))) → EachHasDistinctNames xs → EachHasDistinctNames ys → EachHasDistinctNames (xs ++ ys)
all_distinct [] ys a b = b
all_distinct (x ∷ xs) ys a b = (a.0, all_distinct xs ys a.1 b)

folders_inside : (members : List Member) (flags : List Bool) → EachIn (λ (m : Member). MayEnter m.pkg) members
    → EachHasDistinctNames (map (λ pkg. map name_of (folders_in pkg)) (list_of (packages_in_new_database members flags)))
folders_inside [] flags h = tt
folders_inside (m ∷ members) flags h =
    let names : map name_of (folders_in (package_in_new_database m flags)) ≡ map name_of (folders_in m.pkg) = ap (λ (vs : Plains). map name_of (list_of vs)) (package_folders m flags) ∙ names_kept (folders_in m.pkg) flags in
    (subst AreDistinctNames (sym names) h.0.folders_once, folders_inside members (drop (member_file_count m) flags) h.1)

files_inside : (members : List Member) (flags : List Bool) → EachIn (λ (m : Member). MayEnter m.pkg) members
    → EachHasDistinctNames (flat_map (λ pkg. map file_names (folders_in pkg)) (list_of (packages_in_new_database members flags)))
files_inside [] flags h = tt
files_inside (m ∷ members) flags h =
    all_distinct (map file_names (folders_in (package_in_new_database m flags))) _
    (subst (λ (vs : Plains). EachHasDistinctNames (map file_names (list_of vs))) (sym (package_folders m flags)) (files_distinct (folders_in m.pkg) flags h.0.files_once))
    (files_inside members (drop (member_file_count m) flags) h.1)

package_names : (members : List Member) (flags : List Bool) → map package_name (list_of (packages_in_new_database members flags)) ≡ map member_name members
package_names [] flags = refl
package_names (m ∷ members) flags = λ j. package_named m flags j ∷ package_names members (drop (member_file_count m) flags) j

-- ---- names in order are distinct

rising_distinct : (xs : List (List ℕ)) → AllPairs (λ a b. order a b ≡ Less) xs → AreDistinctNames xs
rising_distinct [] pairs = tt
rising_distinct (x ∷ xs) pairs = (
  λ here. (let (i, lt, is) = at_index x xs here in not_itself x (subst (λ (z : List ℕ). order x z ≡ Less) is (pairs 0 (suc i) x (omega arith) (omega arith)))),
  rising_distinct xs (λ i j d before below. pairs (suc i) (suc j) d (omega arith) (omega arith)),
)

-- ---- the database

pub names_once : (members : List Member) (flags : List Bool) → EachIn (λ (m : Member). MayEnter m.pkg) members → AreMembersInNameOrder members → HaveAtMostOneOwnerForEachPath (owned_listings (listings_of_members members) flags)
    → HasNoForbiddenRepeatedName Idb (database_value members flags)
names_once members flags enter order owned =
    let packages : List Plain = list_of (packages_in_new_database members flags) in
    subst (λ (ps : List Plain). HaveNoRepeatInside ps × HaveNoRepeatBetween ps) (sym (packages_in members flags)) (
      record { folders = folders_inside members flags enter; files = files_inside members flags enter },
      record {
        packages_once = subst AreDistinctNames (sym (package_names members flags)) (rising_distinct (map member_name members) order);
        paths_once = owned_apart members flags owned;
      },
    )
