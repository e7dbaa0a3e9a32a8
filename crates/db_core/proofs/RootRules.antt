-- Each text and number of a new database keeps the rule of its field.
use Rattle.std.proofs.Common.{◌≡◌, ℕ, Bool, true, false, not, List, [], ◌∷◌, ◌++◌, map, drop, length, Option, Some, None, ap, sym, subst, ◌∙◌, arith}
use Rattle.std.specs.Prelude.{unwrap_or}
use Rattle.std.specs.List.{flat_map}
use Rattle.version_core.specs.Order.{is_version}
use Rattle.dep_core.specs.Dependency.{is_dependency_name_by_bytes_and_length, is_package_name}
use Rattle.dep_core.specs.Value.{is_match_number, is_version_or_empty}
use Rattle.adb_view.specs.Plain.{Plain, int, blob, Plains, none, more, array_or_null}
use Rattle.adb_view.specs.Shaped.{Each, HasShape, IsArrayOrNullOf}
use Rattle.adb_view.specs.Schema.{shape_of, shapes_of, table}
use Rattle.adb_view.specs.Values.{entries_in, entry_at_index, int_in, text_in}
use Rattle.adb_view.specs.declared.tables.Kind.TheVariants.{Obj}
use Rattle.adb_view.specs.declared.tables.Which.TheVariants as Tables
use Rattle.adb_copy.specs.adb_fields.Paths.{path_of}
use Rattle.adb_copy.specs.adb_fields.Repeated.{files_in, folders_in, list_of, name_of, paths_of_package_files, paths_of_folder_files}
use Rattle.adb_sound.specs.adb_schema.Reserved.{is_reserved}
use Rattle.adb_sound.specs.adb_schema.Rules.{is_digest_length_or_none, is_valid_file_name_in_folder, is_folder_name, is_link_target_or_none}
use Rattle.adb_sound.specs.adb_schema.SoundValues.{ObeysTextAndNumberRulesOfFileInFolder, ObeysTextAndNumberRulesOfFolder, ObeysTextAndNumberRulesOfInformation, ObeysTextAndNumberRulesOfPackage, ObeysTextAndNumberRulesOfDependency, ObeysTextAndNumberRulesOfTable}
use Rattle.adb_copy.specs.Zeros.{all_without_zeros, info_without_zeros_with_id_and_file_size, with_value_set_at_index, without_zeros}
use Rattle.adb_copy.proofs.Shapes.{entries_shape, nth_shape}
use Rattle.adb_view.proofs.ValueEntries.{entries_arr, nth_obj}
use Rattle.adb_copy.proofs.WithoutZeros.{int_zeros, text_zeros}
use Rattle.adb_copy.proofs.Zeros.{at_other, at_same, nth_zeros, zeros_array}
use Rattle.adb_copy.proofs.Entries.{entry_zeros}
use Rattle.db_core.specs.Members.{Member}
use Rattle.db_core.specs.NewDatabase.{database_value, folder_file_count, folder_in_new_database, folders_in_new_database, info_in_new_database, member_file_count, owned_entries_without_zeros, package_in_new_database, packages_in_new_database}
use Rattle.db_core.specs.OwnedListings.{owned_paths}
use Rattle.db_core.specs.SoundMembers.{AreMembersOfSoundContainers, IsPackageOfSoundContainer, NoneReserved}
use Rattle.db_core.proofs.OwnedPaths.{all_owned_listed, name_zeros}
use Rattle.db_core.proofs.RootNames.{folder_files, folder_name, info_entry, package_folders, package_info}
use Rattle.db_core.proofs.SoundPackages.{IsFileUnder, IsFolderAnywhere, MayEnter, digest_or_none, member_enters}

-- ---- an information

zeros_dependency : (v : Plain) → ObeysTextAndNumberRulesOfDependency v → ObeysTextAndNumberRulesOfDependency (without_zeros v)
zeros_dependency v h = record {
  name = ap is_dependency_name_by_bytes_and_length (ap text_in (entry_zeros v 0) ∙ text_zeros (entry_at_index v 0)) ∙ h.name;
  version = ap is_version_or_empty (ap text_in (entry_zeros v 1) ∙ text_zeros (entry_at_index v 1)) ∙ h.version;
  matching = ap is_match_number (ap int_in (entry_zeros v 2) ∙ int_zeros (entry_at_index v 2)) ∙ h.matching;
}

each_zeros : (P : Plain → Type 0) → ((v : Plain) → P v → P (without_zeros v)) → (vs : Plains) → Each P vs → Each P (all_without_zeros vs)
unfolding without_zeros
each_zeros P f none h = tt
each_zeros P f (more v vs) h = (f v h.0, each_zeros P f vs h.1)

array_zeros : (P : Plain → Type 0) (v : Plain) → IsArrayOrNullOf P v → entries_in (without_zeros v) ≡ all_without_zeros (entries_in v)
array_zeros P v h = ap entries_in (zeros_array P v h) ∙ entries_arr (all_without_zeros (entries_in v))

hash_after : (id : Option (List ℕ)) (info : Plain) → text_in (entry_at_index (info_in_new_database id info) 2) ≡ unwrap_or id (text_in (entry_at_index info 2))
unfolding info_without_zeros_with_id_and_file_size without_zeros
hash_after id info =
    let hash : Plain = blob (unwrap_or id (text_in (entry_at_index info 2))) in
    let size : Plain = int (int_in (entry_at_index info 12)) in
    let vs : Plains = with_value_set_at_index 12 size (with_value_set_at_index 2 hash (entries_in info)) in
    ap text_in (nth_obj (all_without_zeros vs) 2 ∙ (nth_zeros vs 2 ∙ ap without_zeros (at_other 12 2 size (with_value_set_at_index 2 hash (entries_in info)) (λ e. omega (arith, e)) ∙ at_same 2 hash (entries_in info))))
    ∙ text_zeros hash

hash_kept : (pkg info : Plain) (id : Option (List ℕ)) → IsPackageOfSoundContainer pkg id → is_digest_length_or_none (length (text_in (entry_at_index info 2))) ≡ true
    → is_digest_length_or_none (length (unwrap_or id (text_in (entry_at_index info 2)))) ≡ true
hash_kept pkg info None h e = e
hash_kept pkg info (Some id) h e = digest_or_none (length id) h.digest

module _ (id : Option (List ℕ)) (info : Plain) (shape : HasShape (shape_of (Obj Tables.PkgInfo)) info) where
  text_kept : (i : ℕ) → (2 ≡ i → ⊥) → (12 ≡ i → ⊥) → text_in (entry_at_index (info_in_new_database id info) i) ≡ text_in (entry_at_index info i)
  text_kept i a b = ap text_in (info_entry id info i a b) ∙ text_zeros (entry_at_index info i)

  list_kept : (i : ℕ) → (2 ≡ i → ⊥) → (12 ≡ i → ⊥) → IsArrayOrNullOf (HasShape (shape_of (Obj Tables.Dep))) (entry_at_index info i) → Each ObeysTextAndNumberRulesOfDependency (entries_in (entry_at_index info i))
      → Each ObeysTextAndNumberRulesOfDependency (entries_in (entry_at_index (info_in_new_database id info) i))
  list_kept i a b array h =
      subst (Each ObeysTextAndNumberRulesOfDependency) (sym (ap entries_in (info_entry id info i a b) ∙ array_zeros (HasShape (shape_of (Obj Tables.Dep))) (entry_at_index info i) array))
      (each_zeros ObeysTextAndNumberRulesOfDependency zeros_dependency (entries_in (entry_at_index info i)) h)

  dependencies : (i : ℕ) → Type 0
  dependencies i = IsArrayOrNullOf (HasShape (shape_of (Obj Tables.Dep))) (entry_at_index info i)

  pub info_kept : (pkg : Plain) → IsPackageOfSoundContainer pkg id → ObeysTextAndNumberRulesOfInformation Tables.Idb info → ObeysTextAndNumberRulesOfInformation Tables.Idb (info_in_new_database id info)
  unfolding shape_of HasShape
  info_kept pkg from h =
      let fields = entries_shape 3 (shapes_of (table Tables.PkgInfo)) info shape in
      record {
        name = ap is_package_name (text_kept 0 (λ e. omega (arith, e)) (λ e. omega (arith, e))) ∙ h.name;
        version = ap is_version (text_kept 1 (λ e. omega (arith, e)) (λ e. omega (arith, e))) ∙ h.version;
        hash = ap (λ (t : List ℕ). is_digest_length_or_none (length t)) (hash_after id info) ∙ hash_kept pkg info id from h.hash;
        depends = list_kept 14 (λ e. omega (arith, e)) (λ e. omega (arith, e)) (nth_shape (shapes_of (table Tables.PkgInfo)) (entries_in info) 14 fields) h.depends;
        provides = list_kept 15 (λ e. omega (arith, e)) (λ e. omega (arith, e)) (nth_shape (shapes_of (table Tables.PkgInfo)) (entries_in info) 15 fields) h.provides;
        replaces = list_kept 16 (λ e. omega (arith, e)) (λ e. omega (arith, e)) (nth_shape (shapes_of (table Tables.PkgInfo)) (entries_in info) 16 fields) h.replaces;
        install_if = list_kept 17 (λ e. omega (arith, e)) (λ e. omega (arith, e)) (nth_shape (shapes_of (table Tables.PkgInfo)) (entries_in info) 17 fields) h.install_if;
        recommends = list_kept 18 (λ e. omega (arith, e)) (λ e. omega (arith, e)) (nth_shape (shapes_of (table Tables.PkgInfo)) (entries_in info) 18 fields) h.recommends;
      }

-- ---- paths that none reserves

free_front : (xs ys : List (List ℕ)) → NoneReserved (xs ++ ys) → NoneReserved xs
free_front [] ys h = tt
free_front (x ∷ xs) ys h = (h.0, free_front xs ys h.1)

free_back : (xs ys : List (List ℕ)) → NoneReserved (xs ++ ys) → NoneReserved ys
free_back [] ys h = h
free_back (x ∷ xs) ys h = free_back xs ys h.1

-- ---- files and folders

file_kept : (above : List ℕ) (v : Plain) → IsFileUnder above v → is_reserved (path_of above (name_of (without_zeros v))) ≡ false → ObeysTextAndNumberRulesOfFileInFolder Tables.Idb above (without_zeros v)
file_kept above v h free = record {
  name = ap (is_valid_file_name_in_folder above) (name_zeros v) ∙ h.name;
  listed = ap not free;
  hash = ap (λ (t : List ℕ). is_digest_length_or_none (length t)) (ap text_in (entry_zeros v 4) ∙ text_zeros (entry_at_index v 4)) ∙ h.hash;
  target = ap is_link_target_or_none (ap text_in (entry_zeros v 5) ∙ text_zeros (entry_at_index v 5)) ∙ h.target;
}

files_kept : (above : List ℕ) (vs : Plains) (flags : List Bool) → Each (IsFileUnder above) vs → NoneReserved (map (λ file. path_of above (name_of file)) (list_of (owned_entries_without_zeros (list_of vs) flags)))
    → Each (ObeysTextAndNumberRulesOfFileInFolder Tables.Idb above) (owned_entries_without_zeros (list_of vs) flags)
files_kept above none flags h free = tt
files_kept above (more v vs) [] h free = tt
files_kept above (more v vs) (true ∷ flags) h free = (file_kept above v h.0 free.0, files_kept above vs flags h.1 free.1)
files_kept above (more v vs) (false ∷ flags) h free = files_kept above vs flags h.1 free

folder_kept : (d : Plain) (flags : List Bool) → IsFolderAnywhere d → NoneReserved (paths_of_folder_files (folder_in_new_database d flags)) → ObeysTextAndNumberRulesOfFolder Tables.Idb (folder_in_new_database d flags)
folder_kept d flags h free =
    let owned : Plains = owned_entries_without_zeros (files_in d) flags in
    let paths : NoneReserved (map (λ file. path_of (name_of d) (name_of file)) (list_of owned)) =
    subst (λ (above : List ℕ). NoneReserved (map (λ file. path_of above (name_of file)) (list_of owned))) (folder_name d flags)
    (subst (λ (vs : Plains). NoneReserved (map (λ file. path_of (name_of (folder_in_new_database d flags)) (name_of file)) (list_of vs))) (folder_files d flags) free) in
    let files : Each (ObeysTextAndNumberRulesOfFileInFolder Tables.Idb (name_of d)) owned = files_kept (name_of d) (entries_in (entry_at_index d 2)) flags h.files paths in
    record {
      name = ap is_folder_name (folder_name d flags) ∙ h.name;
      files = subst (λ (above : List ℕ). Each (ObeysTextAndNumberRulesOfFileInFolder Tables.Idb above) (entries_in (entry_at_index (folder_in_new_database d flags) 2))) (sym (folder_name d flags))
          (subst (Each (ObeysTextAndNumberRulesOfFileInFolder Tables.Idb (name_of d))) (sym (folder_files d flags)) files);
    }

folders_kept : (vs : Plains) (flags : List Bool) → Each IsFolderAnywhere vs → NoneReserved (flat_map paths_of_folder_files (list_of (folders_in_new_database (list_of vs) flags))) → Each (ObeysTextAndNumberRulesOfFolder Tables.Idb) (folders_in_new_database (list_of vs) flags)
folders_kept none flags h free = tt
folders_kept (more d ds) flags h free =
    let others : List (List ℕ) = flat_map paths_of_folder_files (list_of (folders_in_new_database (list_of ds) (drop (folder_file_count d) flags))) in (
      folder_kept d flags h.0 (free_front (paths_of_folder_files (folder_in_new_database d flags)) others free),
      folders_kept ds (drop (folder_file_count d) flags) h.1 (free_back (paths_of_folder_files (folder_in_new_database d flags)) others free),
    )

-- ---- packages

package_kept : (m : Member) (flags : List Bool) → IsPackageOfSoundContainer m.pkg m.id → NoneReserved (paths_of_package_files (package_in_new_database m flags)) → ObeysTextAndNumberRulesOfPackage Tables.Idb (package_in_new_database m flags)
unfolding shape_of HasShape
package_kept m flags from free =
    let h : MayEnter m.pkg = member_enters m.pkg m.id from in
    let info : HasShape (shape_of (Obj Tables.PkgInfo)) (entry_at_index m.pkg 0) =
    nth_shape (shapes_of (table Tables.Package)) (entries_in m.pkg) 0 (entries_shape 7 (shapes_of (table Tables.Package)) m.pkg h.shape) in
    let paths : NoneReserved (flat_map paths_of_folder_files (list_of (folders_in_new_database (folders_in m.pkg) flags))) =
    subst (λ (vs : Plains). NoneReserved (flat_map paths_of_folder_files (list_of vs))) (package_folders m flags) free in
    record {
      info = subst (ObeysTextAndNumberRulesOfInformation Tables.Idb) (sym (package_info m flags)) (info_kept m.id (entry_at_index m.pkg 0) info m.pkg from h.info);
      folders = subst (Each (ObeysTextAndNumberRulesOfFolder Tables.Idb)) (sym (package_folders m flags)) (folders_kept (entries_in (entry_at_index m.pkg 1)) flags h.folders paths);
    }

packages_kept : (members : List Member) (flags : List Bool) → AreMembersOfSoundContainers members → NoneReserved (flat_map paths_of_package_files (list_of (packages_in_new_database members flags))) → Each (ObeysTextAndNumberRulesOfPackage Tables.Idb) (packages_in_new_database members flags)
packages_kept [] flags h free = tt
packages_kept (m ∷ members) flags h free =
    let others : List (List ℕ) = flat_map paths_of_package_files (list_of (packages_in_new_database members (drop (member_file_count m) flags))) in (
      package_kept m flags h.0 (free_front (paths_of_package_files (package_in_new_database m flags)) others free),
      packages_kept members (drop (member_file_count m) flags) h.1 (free_back (paths_of_package_files (package_in_new_database m flags)) others free),
    )

-- ---- the database

pub rules_kept : (members : List Member) (flags : List Bool) → AreMembersOfSoundContainers members → NoneReserved (owned_paths members flags) → ObeysTextAndNumberRulesOfTable Tables.Idb (database_value members flags)
unfolding database_value
rules_kept members flags h free =
    subst (Each (ObeysTextAndNumberRulesOfPackage Tables.Idb)) (sym (ap entries_in (nth_obj (more (array_or_null (packages_in_new_database members flags)) none) 0) ∙ entries_arr (packages_in_new_database members flags)))
    (packages_kept members flags h (subst NoneReserved (sym (all_owned_listed members flags)) free))
