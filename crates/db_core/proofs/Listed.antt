-- How many files members list.
use Rattle.std.proofs.Common.{◌≡◌, ℕ, suc, zero, ◌+◌, ◌<◌, List, [], ◌∷◌, length, Some, refl, ap, ◌∙◌, arith, length-append}
use Rattle.std.specs.Prelude.{slice_get}
use Rattle.adb_view.specs.Plain.{Plain}
use Rattle.adb_copy.specs.adb_fields.Repeated.{files_in, name_of}
use Rattle.db_core.specs.Members.{Member, listings_from_member_folder_file_places, listings_in_folders_from}
use Rattle.db_core.specs.NewDatabase.{folder_file_count, total_of}

pub in_folder : (m : Member) (place folder i : ℕ) (above : List ℕ) (entries : List Plain) → length (listings_from_member_folder_file_places m place folder i above entries) ≡ length entries
in_folder m place folder i above [] = refl
in_folder m place folder i above (e ∷ entries) = ap suc (in_folder m place folder (i + 1) above entries)

pub in_folders : (m : Member) (place i : ℕ) (folders : List Plain) → length (listings_in_folders_from m place i folders) ≡ total_of folder_file_count folders
in_folders m place i [] = refl
in_folders m place i (d ∷ folders) =
    length-append (listings_from_member_folder_file_places m place i 1 (name_of d) (files_in d)) (listings_in_folders_from m place (i + 1) folders)
    ∙ (λ j. in_folder m place i 1 (name_of d) (files_in d) j + in_folders m place (i + 1) folders j)

-- ---- a member at each place

pub member_there : (members : List Member) (i : ℕ) → i < length members → (m : Member) × (slice_get members i ≡ Some m)
member_there [] i h = absurd (omega arith)
member_there (m ∷ members) zero h = (m, refl)
member_there (m ∷ members) (suc i) h = member_there members i (omega arith)
