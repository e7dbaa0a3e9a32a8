-- The records of a database's files are its listings, by path and entry.
use Rattle.std.proofs.Common.{◌≡◌, ℕ, ◌+◌, List, [], ◌∷◌, ◌++◌, map, All, refl, ap, sym, ◌∙◌, subst}
use Rattle.std.specs.List.{flat_map}
use Rattle.std.proofs.lemmas.List.{map-append}
use Rattle.std.proofs.lemmas.List.Elements.{All-map}
use Rattle.std.proofs.lemmas.List.Sorted.{All-permutation}
use Rattle.adb_view.specs.Plain.{Plain}
use Rattle.path_clashes.specs.adb_fields.Repeated.{files_in, folders_in, name_of}
use Rattle.base_core.specs.Name.{IsName}
use Rattle.db_core.specs.Members.{Listing, Member, listings_of_member, listings_of_members_from, listings_from_member_folder_file_places, listings_in_folders_from, listings_of_members, member_of_kept, members_of_kept}
use Rattle.base_core.specs.Sorted.{sorted_by}
use Rattle.base_core.proofs.Sorting.{sorted_same}
use Rattle.audit_core.specs.Records.{PathAndEntry, database_records, file_record, folder_records, package_records, record_path_cmp, records_by_path}

-- the record of a listing
abbrev pub listing_record : Listing → PathAndEntry
listing_record l = record { path = l.path; entry = l.entry }

in_folder : (m : Member) (place folder i : ℕ) (above : List ℕ) (entries : List Plain) → map listing_record (listings_from_member_folder_file_places m place folder i above entries) ≡ map (file_record above) entries
in_folder m place folder i above [] = refl
in_folder m place folder i above (entry ∷ entries) = ap (λ rs. file_record above entry ∷ rs) (in_folder m place folder (i + 1) above entries)

in_folders : (m : Member) (place i : ℕ) (folders : List Plain) → map listing_record (listings_in_folders_from m place i folders) ≡ flat_map folder_records folders
in_folders m place i [] = refl
in_folders m place i (folder ∷ folders) =
    map-append listing_record (listings_from_member_folder_file_places m place i 1 (name_of folder) (files_in folder)) (listings_in_folders_from m place (i + 1) folders)
    ∙ (ap (λ rs. rs ++ map listing_record (listings_in_folders_from m place (i + 1) folders)) (in_folder m place i 1 (name_of folder) (files_in folder))
    ∙ ap (λ rs. folder_records folder ++ rs) (in_folders m place (i + 1) folders))

of_packages : (place : ℕ) (packages : List Plain) → map listing_record (listings_of_members_from place (map member_of_kept packages)) ≡ flat_map package_records packages
of_packages place [] = refl
of_packages place (pkg ∷ packages) =
    map-append listing_record (listings_of_member place (member_of_kept pkg)) (listings_of_members_from (place + 1) (map member_of_kept packages))
    ∙ (ap (λ rs. rs ++ map listing_record (listings_of_members_from (place + 1) (map member_of_kept packages))) (in_folders (member_of_kept pkg) place 1 (folders_in pkg))
    ∙ ap (λ rs. package_records pkg ++ rs) (of_packages (place + 1) packages))

pub records_are_listings : (packages : List Plain) → map listing_record (listings_of_members (members_of_kept packages)) ≡ database_records packages
unfolding listings_of_members
records_are_listings packages = of_packages 0 packages

-- the paths of the records are names, where those of the listings are
pub records_have_names : (packages : List Plain) (rs : List PathAndEntry) → rs ≡ records_by_path packages → All (λ l. IsName l.path) (listings_of_members (members_of_kept packages)) → All (λ r. IsName r.path) rs
unfolding records_by_path
records_have_names packages rs are named =
    subst (All (λ r. IsName r.path)) (sym are)
    (All-permutation (λ r. IsName r.path) (database_records packages) (sorted_by record_path_cmp (database_records packages)) (sorted_same record_path_cmp (database_records packages))
    (subst (All (λ r. IsName r.path)) (records_are_listings packages) (All-map (λ r. IsName r.path) listing_record (listings_of_members (members_of_kept packages)) named)))
