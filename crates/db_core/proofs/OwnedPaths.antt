-- The database lists the files that are owned, and no others.
use Rattle.std.proofs.Common.{◌≡◌, ℕ, ◌+◌, Bool, true, false, List, [], ◌∷◌, ◌++◌, map, drop, length, refl, ap, sym, ◌∙◌}
use Rattle.std.proofs.lemmas.List.{map-append}
use Rattle.std.specs.List.{flat_map}
use Rattle.adb_view.specs.Plain.{Plain, Plains, none, more, array_or_null, blob_or_null}
use Rattle.adb_view.specs.Values.{entries_in, entry_at_index, int_in, text_in}
use Rattle.adb_copy.specs.adb_fields.Paths.{path_of}
use Rattle.adb_copy.specs.adb_fields.Repeated.{files_in, folders_in, list_of, name_of, paths_of_package_files, paths_of_folder_files}
use Rattle.adb_copy.specs.Zeros.{int_or_null, without_zeros}
use Rattle.adb_view.proofs.ValueEntries.{entries_arr, nth_obj, text_blob}
use Rattle.adb_copy.proofs.WithoutZeros.{text_zeros}
use Rattle.adb_copy.proofs.Entries.{entry_zeros}
use Rattle.db_core.specs.Members.{Listing, Member, listings_of_member, listings_of_members_from, listings_from_member_folder_file_places, listings_in_folders_from, listings_of_members}
use Rattle.db_core.specs.NewDatabase.{folder_file_count, folder_in_new_database, folders_in_new_database, info_in_new_database, member_file_count, owned_entries_without_zeros, package_in_new_database, packages_in_new_database}
use Rattle.db_core.specs.OwnedListings.{owned_listings, owned_paths}
use Rattle.db_core.proofs.Listed.{in_folder, in_folders}

-- ---- a name without zeros

pub name_zeros : (v : Plain) → name_of (without_zeros v) ≡ name_of v
name_zeros v = ap text_in (entry_zeros v 0) ∙ text_zeros (entry_at_index v 0)

-- ---- listings and their flags

none_owned : (ls : List Listing) → owned_listings ls [] ≡ []
none_owned [] = refl
none_owned (l ∷ ls) = refl

pub owned_joined : (ls others : List Listing) (flags : List Bool) → owned_listings (ls ++ others) flags ≡ owned_listings ls flags ++ owned_listings others (drop (length ls) flags)
owned_joined [] others flags = refl
owned_joined (l ∷ ls) others [] = sym (none_owned others)
owned_joined (l ∷ ls) others (true ∷ flags) = ap (λ r. l ∷ r) (owned_joined ls others flags)
owned_joined (l ∷ ls) others (false ∷ flags) = owned_joined ls others flags

abbrev pub paths_of : List Listing → List Bool → List (List ℕ)
paths_of ls flags = map (λ l. l.path) (owned_listings ls flags)

paths_joined : (ls others : List Listing) (n : ℕ) (flags : List Bool) → length ls ≡ n → paths_of (ls ++ others) flags ≡ paths_of ls flags ++ paths_of others (drop n flags)
paths_joined ls others n flags e =
    ap (map (λ l. l.path)) (owned_joined ls others flags)
    ∙ (map-append (λ l. l.path) (owned_listings ls flags) (owned_listings others (drop (length ls) flags))
    ∙ ap (λ k. paths_of ls flags ++ paths_of others (drop k flags)) e)

-- ---- folders

files_owned : (m : Member) (place folder i : ℕ) (above : List ℕ) (files : List Plain) (flags : List Bool)
    → map (λ file. path_of above (name_of file)) (list_of (owned_entries_without_zeros files flags)) ≡ paths_of (listings_from_member_folder_file_places m place folder i above files) flags
files_owned m place folder i above [] flags = refl
files_owned m place folder i above (f ∷ files) [] = refl
files_owned m place folder i above (f ∷ files) (true ∷ flags) = λ j. path_of above (name_zeros f j) ∷ files_owned m place folder (i + 1) above files flags j
files_owned m place folder i above (f ∷ files) (false ∷ flags) = files_owned m place folder (i + 1) above files flags

folder_owned : (m : Member) (place i : ℕ) (d : Plain) (flags : List Bool) → paths_of_folder_files (folder_in_new_database d flags) ≡ paths_of (listings_from_member_folder_file_places m place i 1 (name_of d) (files_in d)) flags
folder_owned m place i d flags =
    let fields : Plains = more (blob_or_null (name_of d)) (more (without_zeros (entry_at_index d 1)) (more (array_or_null (owned_entries_without_zeros (files_in d) flags)) none)) in
    let name : name_of (folder_in_new_database d flags) ≡ name_of d = ap text_in (nth_obj fields 0) ∙ text_blob (name_of d) in
    let files : files_in (folder_in_new_database d flags) ≡ list_of (owned_entries_without_zeros (files_in d) flags) = ap (λ v. list_of (entries_in v)) (nth_obj fields 2) ∙ ap list_of (entries_arr (owned_entries_without_zeros (files_in d) flags)) in
    (λ j. map (λ file. path_of (name j) (name_of file)) (files j)) ∙ files_owned m place i 1 (name_of d) (files_in d) flags

folders_owned : (m : Member) (place i : ℕ) (ds : List Plain) (flags : List Bool) → flat_map paths_of_folder_files (list_of (folders_in_new_database ds flags)) ≡ paths_of (listings_in_folders_from m place i ds) flags
folders_owned m place i [] flags = refl
folders_owned m place i (d ∷ ds) flags =
    (λ j. folder_owned m place i d flags j ++ folders_owned m place (i + 1) ds (drop (folder_file_count d) flags) j)
    ∙ sym (paths_joined (listings_from_member_folder_file_places m place i 1 (name_of d) (files_in d)) (listings_in_folders_from m place (i + 1) ds) (folder_file_count d) flags (in_folder m place i 1 (name_of d) (files_in d)))

-- ---- packages

pub package_owned : (m : Member) (place : ℕ) (flags : List Bool) → paths_of_package_files (package_in_new_database m flags) ≡ paths_of (listings_of_member place m) flags
package_owned m place flags =
    let folders : folders_in (package_in_new_database m flags) ≡ list_of (folders_in_new_database (folders_in m.pkg) flags) =
    ap (λ v. list_of (entries_in v)) (nth_obj (more (info_in_new_database m.id (entry_at_index m.pkg 0)) (more (array_or_null (folders_in_new_database (folders_in m.pkg) flags))
    (more (without_zeros (entry_at_index m.pkg 2)) (more (without_zeros (entry_at_index m.pkg 3)) (more (int_or_null (int_in (entry_at_index m.pkg 4))) none))))) 1)
    ∙ ap list_of (entries_arr (folders_in_new_database (folders_in m.pkg) flags)) in
    ap (flat_map paths_of_folder_files) folders ∙ folders_owned m place 1 (folders_in m.pkg) flags

pub members_owned : (place : ℕ) (members : List Member) (flags : List Bool) → flat_map paths_of_package_files (list_of (packages_in_new_database members flags)) ≡ paths_of (listings_of_members_from place members) flags
members_owned place [] flags = refl
members_owned place (m ∷ members) flags =
    (λ j. package_owned m place flags j ++ members_owned (place + 1) members (drop (member_file_count m) flags) j)
    ∙ sym (paths_joined (listings_of_member place m) (listings_of_members_from (place + 1) members) (member_file_count m) flags (in_folders m place 1 (folders_in m.pkg)))

pub all_owned_listed : (members : List Member) (flags : List Bool) → flat_map paths_of_package_files (list_of (packages_in_new_database members flags)) ≡ owned_paths members flags
unfolding listings_of_members
all_owned_listed members flags = members_owned 0 members flags
