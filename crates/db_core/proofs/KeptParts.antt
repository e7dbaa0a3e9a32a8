-- What a package keeps in a new database, and that no integer in it is 0.
use Rattle.std.proofs.Common.{◌≡◌, ◌≢◌, ℕ, Bool, true, false, List, [], ◌∷◌, map, drop, Ok, refl, ap, sym, ◌∙◌, arith}
use Rattle.std.specs.Prelude.{unwrap_or}
use Rattle.adb_view.specs.Plain.{Plain, int, blob, obj, Plains, none, more, array_or_null, blob_or_null, trimmed_object_or_null}
use Rattle.adb_view.specs.Values.{entries_in, entry_at_index, int_in, text_in}
use Rattle.adb_view.specs.declared.tables.Which.TheVariants.{Idb}
use Rattle.adb_copy.specs.adb_fields.Repeated.{entries_of_field_at_index, files_in, folders_in, list_of, name_of}
use Rattle.adb_sound.specs.adb_schema.Soundness.{payload_in, root_value_of_payload}
use Rattle.adb_sound.specs.adb_schema.declared.read.TheConstants.{IDB_WORD}
use Rattle.adb_sound.specs.adb_write.Canonical.{payload_or_counts_at_overflow}
use Rattle.adb_sound.specs.Root.{IsValidRootValueOfTable}
use Rattle.adb_copy.specs.Zeros.{all_without_zeros, info_without_zeros_with_id_and_file_size, int_or_null, with_value_set_at_index, without_zeros}
use Rattle.adb_view.proofs.ValueEntries.{nth_obj}
use Rattle.adb_copy.proofs.WithoutZeros.{int_zeros, text_zeros}
use Rattle.adb_copy.proofs.Zeros.{at_other, at_same, nth_zeros, zeros_arr, zeros_obj, zeros_twice}
use Rattle.db_core.specs.Members.{Member, members_of_kept}
use Rattle.adb_view.specs.FieldIndexes.{INFO_FILE_SIZE_INDEX, INFO_HASHES_INDEX}
use Rattle.db_core.specs.Packages.{installed_id}
use Rattle.db_core.specs.Information.{file_size_in_info_of_package}
use Rattle.db_core.specs.NewDatabase.{database_file_of_payload_unless_too_large, database_of, database_value, values_by_successive_flags, folder_file_count, folder_in_new_database, folders_in_new_database, info_in_new_database, member_file_count, owned_entries_without_zeros, package_in_new_database, packages_in_new_database}
use Rattle.db_core.specs.Unchanged.{set_flags_of_all_listed_files}
use Rattle.db_core.proofs.ReadBack.{Back, is_file}
use Rattle.db_core.proofs.RootNames.{info_entry, package_folders, package_info}
use Rattle.db_core.proofs.RootParts.{fields_of_folder, fields_of_package}
use Rattle.db_core.proofs.Unchanged.{database_same}

-- ---- information

apart : (n : ℕ) → n ≡ 12 → n ≢ 2
apart n e f = omega (arith, e, f)

pub hashes_after : (m : Member) (flags : List Bool) → installed_id (package_in_new_database m flags) ≡ unwrap_or m.id (installed_id m.pkg)
unfolding info_without_zeros_with_id_and_file_size without_zeros
hashes_after m flags =
    let info : Plain = entry_at_index m.pkg 0 in
    let hash : Plain = blob (unwrap_or m.id (text_in (entry_at_index info 2))) in
    let size : Plain = int (int_in (entry_at_index info 12)) in
    let vs : Plains = with_value_set_at_index 12 size (with_value_set_at_index 2 hash (entries_in info)) in
    ap (λ v. text_in (entry_at_index v 2)) (package_info m flags)
    ∙ (ap text_in (nth_obj (all_without_zeros vs) 2 ∙ (nth_zeros vs 2 ∙ ap without_zeros (at_other 12 2 size (with_value_set_at_index 2 hash (entries_in info)) (apart 12 refl) ∙ at_same 2 hash (entries_in info))))
    ∙ text_zeros hash)

pub size_after : (m : Member) (flags : List Bool) → file_size_in_info_of_package (package_in_new_database m flags) ≡ file_size_in_info_of_package m.pkg
unfolding info_without_zeros_with_id_and_file_size without_zeros
size_after m flags =
    let info : Plain = entry_at_index m.pkg 0 in
    let hash : Plain = blob (unwrap_or m.id (text_in (entry_at_index info 2))) in
    let size : Plain = int (int_in (entry_at_index info 12)) in
    let vs : Plains = with_value_set_at_index 12 size (with_value_set_at_index 2 hash (entries_in info)) in
    ap (λ v. int_in (entry_at_index v 12)) (package_info m flags)
    ∙ (ap int_in (nth_obj (all_without_zeros vs) 12 ∙ (nth_zeros vs 12 ∙ ap without_zeros (at_same 12 size (with_value_set_at_index 2 hash (entries_in info)))))
    ∙ int_zeros size)

pub others_after : (m : Member) (flags : List Bool) (i : ℕ) → i ≢ INFO_HASHES_INDEX → i ≢ INFO_FILE_SIZE_INDEX → entry_at_index (entry_at_index (package_in_new_database m flags) 0) i ≡ without_zeros (entry_at_index (entry_at_index m.pkg 0) i)
others_after m flags i a b = ap (λ v. entry_at_index v i) (package_info m flags) ∙ info_entry m.id (entry_at_index m.pkg 0) i (λ e. a (sym e)) (λ e. b (sym e))

-- ---- folders

each_part : {A : Type 0} (f g : Plain → A) → ((d : Plain) (flags : List Bool) → f (folder_in_new_database d flags) ≡ g d) → (ds : List Plain) (flags : List Bool) → map f (list_of (folders_in_new_database ds flags)) ≡ map g ds
each_part f g h [] flags = refl
each_part f g h (d ∷ ds) flags = λ j. h d flags j ∷ each_part f g h ds (drop (folder_file_count d) flags) j

pub folder_parts : {A : Type 0} (f g : Plain → A) → ((d : Plain) (flags : List Bool) → f (folder_in_new_database d flags) ≡ g d) → (m : Member) (flags : List Bool) → map f (folders_in (package_in_new_database m flags)) ≡ map g (folders_in m.pkg)
folder_parts f g h m flags = ap (λ vs. map f (list_of vs)) (package_folders m flags) ∙ each_part f g h (folders_in m.pkg) flags

pub folder_acl : (d : Plain) (flags : List Bool) → entry_at_index (folder_in_new_database d flags) 1 ≡ without_zeros (entry_at_index d 1)
folder_acl d flags = nth_obj (fields_of_folder d flags) 1

-- ---- scripts, triggers and priority

pub scripts_after : (m : Member) (flags : List Bool) → entry_at_index (package_in_new_database m flags) 2 ≡ without_zeros (entry_at_index m.pkg 2)
scripts_after m flags = nth_obj (fields_of_package m flags) 2

pub triggers_after : (m : Member) (flags : List Bool) → entry_at_index (package_in_new_database m flags) 3 ≡ without_zeros (entry_at_index m.pkg 3)
triggers_after m flags = nth_obj (fields_of_package m flags) 3

pub priority_after : (m : Member) (flags : List Bool) → int_in (entry_at_index (package_in_new_database m flags) 4) ≡ int_in (entry_at_index m.pkg 4)
unfolding without_zeros
priority_after m flags = ap int_in (nth_obj (fields_of_package m flags) 4) ∙ int_zeros (int (int_in (entry_at_index m.pkg 4)))

-- ---- no integer is 0

owned_free : (ds : List Plain) (flags : List Bool) → all_without_zeros (owned_entries_without_zeros ds flags) ≡ owned_entries_without_zeros ds flags
unfolding without_zeros
owned_free [] flags = refl
owned_free (d ∷ ds) [] = refl
owned_free (d ∷ ds) (true ∷ flags) = λ j. more (zeros_twice d j) (owned_free ds flags j)
owned_free (d ∷ ds) (false ∷ flags) = owned_free ds flags

each_free : {X : Type 0} (count : X → ℕ) (value : X → List Bool → Plain) → ((x : X) (flags : List Bool) → without_zeros (value x flags) ≡ value x flags)
    → (xs : List X) (flags : List Bool) → all_without_zeros (values_by_successive_flags count value xs flags) ≡ values_by_successive_flags count value xs flags
unfolding without_zeros
each_free count value h [] flags = refl
each_free count value h (x ∷ xs) flags = λ j. more (h x flags j) (each_free count value h xs (drop (count x) flags) j)

folder_free : (d : Plain) (flags : List Bool) → without_zeros (folder_in_new_database d flags) ≡ folder_in_new_database d flags
unfolding without_zeros
folder_free d flags =
    zeros_obj (more (blob_or_null (name_of d)) (more (without_zeros (entry_at_index d 1)) (more (array_or_null (owned_entries_without_zeros (files_in d) flags)) none)))
    ∙ (λ j. trimmed_object_or_null (more (zeros_twice (blob (name_of d)) j) (more (zeros_twice (entry_at_index d 1) j)
    (more ((zeros_arr (owned_entries_without_zeros (files_in d) flags) ∙ ap array_or_null (owned_free (files_in d) flags)) j) none))))

package_free : (m : Member) (flags : List Bool) → without_zeros (package_in_new_database m flags) ≡ package_in_new_database m flags
unfolding without_zeros info_without_zeros_with_id_and_file_size
package_free m flags =
    let info : Plain = entry_at_index m.pkg 0 in
    let with_id : Plains = with_value_set_at_index 12 (int (int_in (entry_at_index info 12))) (with_value_set_at_index 2 (blob (unwrap_or m.id (text_in (entry_at_index info 2)))) (entries_in info)) in
    zeros_obj (more (info_in_new_database m.id info) (more (array_or_null (folders_in_new_database (folders_in m.pkg) flags)) (more (without_zeros (entry_at_index m.pkg 2)) (more (without_zeros (entry_at_index m.pkg 3)) (more (int_or_null (int_in (entry_at_index m.pkg 4))) none)))))
    ∙ (λ j. trimmed_object_or_null (more (zeros_twice (obj with_id) j)
    (more ((zeros_arr (folders_in_new_database (folders_in m.pkg) flags) ∙ ap array_or_null (each_free folder_file_count folder_in_new_database folder_free (folders_in m.pkg) flags)) j)
    (more (zeros_twice (entry_at_index m.pkg 2) j) (more (zeros_twice (entry_at_index m.pkg 3) j) (more (zeros_twice (int (int_in (entry_at_index m.pkg 4))) j) none))))))

database_free : (members : List Member) (flags : List Bool) → without_zeros (database_value members flags) ≡ database_value members flags
unfolding without_zeros database_value
database_free members flags =
    zeros_obj (more (array_or_null (packages_in_new_database members flags)) none)
    ∙ (λ j. trimmed_object_or_null (more ((zeros_arr (packages_in_new_database members flags) ∙ ap array_or_null (each_free member_file_count package_in_new_database package_free members flags)) j) none))

-- ---- written again

pub written_again : Back → (members : List Member) (flags : List Bool) (bytes : List ℕ) → IsValidRootValueOfTable Idb (database_value members flags) → database_of members flags ≡ Ok bytes
    → database_of (members_of_kept (entries_of_field_at_index 0 (root_value_of_payload Idb (payload_in bytes)))) (set_flags_of_all_listed_files (members_of_kept (entries_of_field_at_index 0 (root_value_of_payload Idb (payload_in bytes))))) ≡ Ok bytes
unfolding database_of
written_again law members flags bytes root h =
    let v : Plain = database_value members flags in
    let back : root_value_of_payload Idb (payload_in bytes) ≡ v = ap (λ (file : List ℕ). root_value_of_payload Idb (payload_in file)) (sym (is_file members flags bytes h)) ∙ law Idb IDB_WORD v refl root in
    (λ j. database_of (members_of_kept (entries_of_field_at_index 0 (back j))) (set_flags_of_all_listed_files (members_of_kept (entries_of_field_at_index 0 (back j)))))
    ∙ (ap (λ u. database_file_of_payload_unless_too_large (payload_or_counts_at_overflow u)) (database_same v root.shaped ∙ database_free members flags) ∙ h)
