-- What a new database says of each file is what its owner says of it.
use Rattle.std.proofs.Common.{◌≡◌, ℕ, ◌+◌, Bool, true, false, List, [], ◌∷◌, ◌++◌, map, drop, length, refl, ap, sym, ◌∙◌}
use Rattle.std.proofs.lemmas.List.{map-append}
use Rattle.std.specs.List.{flat_map}
use Rattle.adb_view.specs.Plain.{Plain}
use Rattle.adb_copy.specs.adb_fields.Repeated.{files_in, folders_in, list_of, name_of}
use Rattle.adb_copy.specs.Zeros.{without_zeros}
use Rattle.db_core.specs.Members.{Listing, Member, listings_of_member, listings_of_members_from, listings_from_member_folder_file_places, listings_in_folders_from, listings_of_members, member_of_kept}
use Rattle.db_core.specs.OwnedListings.{owned_listings}
use Rattle.db_core.specs.NewDatabase.{folder_file_count, folders_in_new_database, member_file_count, owned_entries_without_zeros, package_in_new_database, packages_in_new_database}
use Rattle.db_core.proofs.Listed.{in_folder, in_folders}
use Rattle.db_core.proofs.OwnedPaths.{owned_joined}
use Rattle.db_core.proofs.RootNames.{folder_files, package_folders}

-- the entries of the files of a package, folder by folder
abbrev pub entries_of : Plain → List Plain
entries_of pkg = flat_map files_in (folders_in pkg)

-- ---- what members list

listed_in_folder : (m : Member) (place folder i : ℕ) (above : List ℕ) (files : List Plain) → map (λ l. l.entry) (listings_from_member_folder_file_places m place folder i above files) ≡ files
listed_in_folder m place folder i above [] = refl
listed_in_folder m place folder i above (f ∷ files) = ap (λ r. f ∷ r) (listed_in_folder m place folder (i + 1) above files)

listed_in_folders : (m : Member) (place i : ℕ) (ds : List Plain) → map (λ l. l.entry) (listings_in_folders_from m place i ds) ≡ flat_map files_in ds
listed_in_folders m place i [] = refl
listed_in_folders m place i (d ∷ ds) =
    map-append (λ l. l.entry) (listings_from_member_folder_file_places m place i 1 (name_of d) (files_in d)) (listings_in_folders_from m place (i + 1) ds)
    ∙ (λ j. listed_in_folder m place i 1 (name_of d) (files_in d) j ++ listed_in_folders m place (i + 1) ds j)

listed_from : (place : ℕ) (pkgs : List Plain) → map (λ l. l.entry) (listings_of_members_from place (map member_of_kept pkgs)) ≡ flat_map entries_of pkgs
listed_from place [] = refl
listed_from place (v ∷ pkgs) =
    map-append (λ l. l.entry) (listings_of_member place (member_of_kept v)) (listings_of_members_from (place + 1) (map member_of_kept pkgs))
    ∙ (λ j. listed_in_folders (member_of_kept v) place 1 (folders_in v) j ++ listed_from (place + 1) pkgs j)

-- ---- what they own

abbrev owned_of : List Listing → List Bool → List Plain
owned_of ls flags = map (λ l. without_zeros l.entry) (owned_listings ls flags)

joined : (ls others : List Listing) (n : ℕ) (flags : List Bool) → length ls ≡ n → owned_of (ls ++ others) flags ≡ owned_of ls flags ++ owned_of others (drop n flags)
joined ls others n flags e =
    ap (map (λ l. without_zeros l.entry)) (owned_joined ls others flags)
    ∙ (map-append (λ l. without_zeros l.entry) (owned_listings ls flags) (owned_listings others (drop (length ls) flags))
    ∙ ap (λ k. owned_of ls flags ++ owned_of others (drop k flags)) e)

files_owned : (m : Member) (place folder i : ℕ) (above : List ℕ) (files : List Plain) (flags : List Bool)
    → list_of (owned_entries_without_zeros files flags) ≡ owned_of (listings_from_member_folder_file_places m place folder i above files) flags
files_owned m place folder i above [] flags = refl
files_owned m place folder i above (f ∷ files) [] = refl
files_owned m place folder i above (f ∷ files) (true ∷ flags) = ap (λ r. without_zeros f ∷ r) (files_owned m place folder (i + 1) above files flags)
files_owned m place folder i above (f ∷ files) (false ∷ flags) = files_owned m place folder (i + 1) above files flags

folders_owned : (m : Member) (place i : ℕ) (ds : List Plain) (flags : List Bool) → flat_map files_in (list_of (folders_in_new_database ds flags)) ≡ owned_of (listings_in_folders_from m place i ds) flags
folders_owned m place i [] flags = refl
folders_owned m place i (d ∷ ds) flags =
    (λ j. (ap list_of (folder_files d flags) ∙ files_owned m place i 1 (name_of d) (files_in d) flags) j ++ folders_owned m place (i + 1) ds (drop (folder_file_count d) flags) j)
    ∙ sym (joined (listings_from_member_folder_file_places m place i 1 (name_of d) (files_in d)) (listings_in_folders_from m place (i + 1) ds) (folder_file_count d) flags (in_folder m place i 1 (name_of d) (files_in d)))

package_owned : (m : Member) (place : ℕ) (flags : List Bool) → entries_of (package_in_new_database m flags) ≡ owned_of (listings_of_member place m) flags
package_owned m place flags = ap (λ vs. flat_map files_in (list_of vs)) (package_folders m flags) ∙ folders_owned m place 1 (folders_in m.pkg) flags

members_owned : (place : ℕ) (members : List Member) (flags : List Bool) → flat_map entries_of (list_of (packages_in_new_database members flags)) ≡ owned_of (listings_of_members_from place members) flags
members_owned place [] flags = refl
members_owned place (m ∷ members) flags =
    (λ j. package_owned m place flags j ++ members_owned (place + 1) members (drop (member_file_count m) flags) j)
    ∙ sym (joined (listings_of_member place m) (listings_of_members_from (place + 1) members) (member_file_count m) flags (in_folders m place 1 (folders_in m.pkg)))

pub entries_kept : (members : List Member) (flags : List Bool)
    → map (λ l. l.entry) (listings_of_members (map member_of_kept (list_of (packages_in_new_database members flags)))) ≡ map (λ l. without_zeros l.entry) (owned_listings (listings_of_members members) flags)
unfolding listings_of_members
entries_kept members flags = listed_from 0 (list_of (packages_in_new_database members flags)) ∙ members_owned 0 members flags
