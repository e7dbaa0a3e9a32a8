-- The fields of folders and files that a text database lists, and the letters of their lines.
use Rattle.std.proofs.Common.{◌≡◌, ◌∙◌, ℕ, List, [], ◌∷◌, map, Some, refl, ap}
use Rattle.std.specs.Prelude.{codes, option_map}
use Rattle.change_outcome.specs.adb_fields.Repeated.{list_of}
use Rattle.adb_view.proofs.ValueEntries.{entries_arr, nth_obj}
use Rattle.adb_view.specs.Plain.{Plain, Plains, blob_or_null, int}
use Rattle.adb_view.specs.Values.{entries_in}
use Rattle.adb_view.specs.declared.tables.Which.TheVariants.{Acl, Dir, File, Package}
use Rattle.change_outcome.specs.make_info.Values.{plains_of_list}
use Rattle.make_core.proofs.PackageFiles.{list-plains}
use Rattle.definition_laws.specs.making.NamedFields.{entries_of_field_named, field_named}
use Rattle.change_outcome.specs.v2_core.Database.{array_or_null_of_list, listed_access_value, listed_file_value, listed_folder_value, listed_hash_value, record_value}
use Rattle.change_outcome.specs.v2_core.Records.{ListedFile, ListedFolder, Record}
use Rattle.change_outcome.specs.v2_core.Accesses.{Access, access_in}
use Rattle.change_outcome.specs.v2_core.InfoValues.{sha1_in_text}
use Rattle.change_outcome.specs.v2_core.Lines.{file_access_line, file_hash_line, file_line_if_one_part, folder_access_line, folder_line_if_path, record_line_or_skipped_if_letter_unknown, record_line_of}
use Rattle.definition_laws.specs.answers.TextLetters.{letter_line}
use Rattle.definition_laws.proofs.answers.DroppedLines.{file_parts}
use Rattle.definition_laws.proofs.answers.RecordFields.{package_parts}

-- ---- letters

pub folder_letter : (name : List ℕ) → record_line_of (letter_line (codes "F") name) ≡ folder_line_if_path name
unfolding record_line_or_skipped_if_letter_unknown
folder_letter name = refl

pub folder_access_letter : (value : List ℕ) → record_line_of (letter_line (codes "M") value) ≡ option_map folder_access_line (access_in value)
unfolding record_line_or_skipped_if_letter_unknown
folder_access_letter value = refl

pub file_letter : (name : List ℕ) → record_line_of (letter_line (codes "R") name) ≡ file_line_if_one_part name
unfolding record_line_or_skipped_if_letter_unknown
file_letter name = refl

pub file_access_letter : (value : List ℕ) → record_line_of (letter_line (codes "a") value) ≡ option_map file_access_line (access_in value)
unfolding record_line_or_skipped_if_letter_unknown
file_access_letter value = refl

pub hash_letter : (value : List ℕ) → record_line_of (letter_line (codes "Z") value) ≡ option_map file_hash_line (sha1_in_text value)
unfolding record_line_or_skipped_if_letter_unknown
hash_letter value = refl

-- ---- fields

abbrev folder_parts : ListedFolder → Plains
folder_parts f =
    plains_of_list (blob_or_null f.name ∷ listed_access_value f.access ∷ array_or_null_of_list (map listed_file_value f.files) ∷ [])

abbrev access_parts : Access → Plains
access_parts a = plains_of_list (int a.mode ∷ blob_or_null a.user ∷ blob_or_null a.group ∷ [])

entries_are : (v : Plain) (vs : List Plain) → v ≡ array_or_null_of_list vs → list_of (entries_in v) ≡ vs
entries_are v vs e = ap (λ (u : Plain). list_of (entries_in u)) e ∙ ap list_of (entries_arr (plains_of_list vs)) ∙ list-plains vs

pub folders_are : (r : Record) → entries_of_field_named Package (codes "paths") (record_value r) ≡ map listed_folder_value r.folders
folders_are r = entries_are _ (map listed_folder_value r.folders) (nth_obj (package_parts r) 1)

pub folder_is : (f : ListedFolder) → (field_named Dir (codes "name") (listed_folder_value f) ≡ blob_or_null f.name)
    × (field_named Dir (codes "acl") (listed_folder_value f) ≡ listed_access_value f.access)
    × (entries_of_field_named Dir (codes "files") (listed_folder_value f) ≡ map listed_file_value f.files)
folder_is f = (nth_obj (folder_parts f) 0, nth_obj (folder_parts f) 1, entries_are _ (map listed_file_value f.files) (nth_obj (folder_parts f) 2))

pub file_is : (f : ListedFile) → (field_named File (codes "name") (listed_file_value f) ≡ blob_or_null f.name)
    × (field_named File (codes "acl") (listed_file_value f) ≡ listed_access_value f.access)
    × (field_named File (codes "hashes") (listed_file_value f) ≡ listed_hash_value f.hash)
file_is f = (nth_obj (file_parts f) 0, nth_obj (file_parts f) 1, nth_obj (file_parts f) 4)

pub access_is : (a : Access) → (field_named Acl (codes "mode") (listed_access_value (Some a)) ≡ int a.mode)
    × (field_named Acl (codes "user") (listed_access_value (Some a)) ≡ blob_or_null a.user)
    × (field_named Acl (codes "group") (listed_access_value (Some a)) ≡ blob_or_null a.group)
access_is a = (nth_obj (access_parts a) 0, nth_obj (access_parts a) 1, nth_obj (access_parts a) 2)
