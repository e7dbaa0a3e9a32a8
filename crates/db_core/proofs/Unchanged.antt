-- Where nothing changes, the value is written as it was, without zeros.
use Rattle.std.proofs.Common.{◌≡◌, ℕ, suc, zero, ◌-◌, ◌≤◌, Bool, true, List, [], ◌∷◌, map, drop, replicate, None, Ok, refl, ap, sym, ◌∙◌, subst, arith}
use Rattle.adb_view.specs.Plain.{Plain, null, int, blob, arr, obj, Plains, none, more, blob_or_null, array_or_null, trimmed_object_or_null}
use Rattle.adb_view.specs.Shaped.{Each, HasShape, IsArrayOrNullOf}
use Rattle.adb_view.specs.Schema.{shape_of, shapes_of, table}
use Rattle.adb_view.specs.Values.{count_of, entries_in, entry_at_index, int_in, text_in}
use Rattle.adb_view.specs.declared.tables.Kind.TheVariants as Kinds
use Rattle.adb_view.specs.declared.tables.Which.TheVariants as Tables
use Rattle.adb_copy.specs.adb_fields.Repeated.{entries_of_field_at_index, files_in, folders_in, list_of, name_of}
use Rattle.adb_copy.proofs.adb_fields.NameLists.{count-listed}
use Rattle.adb_sound.specs.adb_schema.declared.read.TheConstants.{IDB_WORD}
use Rattle.adb_sound.specs.adb_write.Canonical.{payload_or_counts_at_overflow}
use Rattle.adb_sound.specs.adb_write.File.{file_of}
use Rattle.adb_copy.specs.Zeros.{all_without_zeros, int_or_null, without_zeros}
use Rattle.adb_copy.proofs.Fields.{INFO, info_written, object_written}
use Rattle.adb_copy.proofs.Shapes.{entries_shape, nth_shape}
use Rattle.adb_copy.proofs.Zeros.{zeros_array}
use Rattle.db_core.specs.Members.{Member, member_of_kept, members_of_kept}
use Rattle.db_core.specs.NewDatabase.{database_file_of_payload_unless_too_large, database_of, database_value, values_by_successive_flags, folder_file_count, folder_in_new_database, folders_in_new_database, info_in_new_database, member_file_count, owned_entries_without_zeros, package_in_new_database, packages_in_new_database, total_of}
use Rattle.db_core.specs.Unchanged.{set_flags_of_all_listed_files}

-- ---- flags that are all set

drop_set : (k m : ℕ) → k ≤ m → drop k (replicate m true) ≡ replicate (m - k) true
drop_set zero m h = let e : m ≡ m - zero = omega arith in ap (λ n. replicate n true) e
drop_set (suc k) zero h = absurd (omega arith)
drop_set (suc k) (suc m) h =
    let e : m - k ≡ suc m - suc k = omega arith in
    drop_set k m (omega arith) ∙ ap (λ n. replicate n true) e

owned_all : (vs : Plains) (m : ℕ) → count_of vs ≤ m → owned_entries_without_zeros (list_of vs) (replicate m true) ≡ all_without_zeros vs
unfolding without_zeros
owned_all none m h = refl
owned_all (more v vs) zero h = absurd (omega arith)
owned_all (more v vs) (suc m) h = ap (more (without_zeros v)) (owned_all vs m (omega arith))

-- an array that holds arrays of flags: each element is written as it was
each_all : {X : Type 0} (count : X → ℕ) (value : X → List Bool → Plain) (made : Plain → X) (P : Plain → Type 0)
    → ((v : Plain) (m : ℕ) → P v → count (made v) ≤ m → value (made v) (replicate m true) ≡ without_zeros v)
    → (vs : Plains) (m : ℕ) → Each P vs → total_of count (map made (list_of vs)) ≤ m
    → values_by_successive_flags count value (map made (list_of vs)) (replicate m true) ≡ all_without_zeros vs
unfolding without_zeros
each_all count value made P same none m each h = refl
each_all count value made P same (more v vs) m each h =
    let rest : drop (count (made v)) (replicate m true) ≡ replicate (m - count (made v)) true = drop_set (count (made v)) m (omega arith) in
    (λ j. more (same v m each.0 (omega arith) j) (values_by_successive_flags count value (map made (list_of vs)) (rest j)))
    ∙ ap (more (without_zeros v)) (each_all count value made P same vs (m - count (made v)) each.1 (omega arith))

map_same : (vs : List Plain) → map (λ v. v) vs ≡ vs
map_same [] = refl
map_same (v ∷ vs) = ap (λ r. v ∷ r) (map_same vs)

-- ---- folders

pub array_entries : (P : Plain → Type 0) (v : Plain) → IsArrayOrNullOf P v → Each P (entries_in v)
array_entries P null h = tt
array_entries P (int n) h = absurd h
array_entries P (blob b) h = absurd h
array_entries P (arr vs) h = h
array_entries P (obj vs) h = absurd h

folder_same : (v : Plain) (m : ℕ) → HasShape (shape_of (Kinds.Obj Tables.Dir)) v → folder_file_count v ≤ m → folder_in_new_database v (replicate m true) ≡ without_zeros v
unfolding shape_of HasShape
folder_same v m h enough =
    let files : IsArrayOrNullOf (HasShape (shape_of (Kinds.Obj Tables.File))) (entry_at_index v 2) = nth_shape (shapes_of (table Tables.Dir)) (entries_in v) 2 (entries_shape 5 (shapes_of (table Tables.Dir)) v h) in
    let owned : owned_entries_without_zeros (files_in v) (replicate m true) ≡ all_without_zeros (entries_in (entry_at_index v 2)) =
    owned_all (entries_in (entry_at_index v 2)) m (omega (arith, enough, count-listed (entries_in (entry_at_index v 2)))) in
    ap (λ fs. trimmed_object_or_null (more (blob_or_null (name_of v)) (more (without_zeros (entry_at_index v 1)) (more fs none))))
    (ap array_or_null owned ∙ sym (zeros_array (HasShape (shape_of (Kinds.Obj Tables.File))) (entry_at_index v 2) files))
    ∙ object_written 5 (shapes_of (table Tables.Dir)) v h

-- ---- packages

info_same : (info : Plain) → HasShape (shape_of (Kinds.Obj Tables.PkgInfo)) info → info_in_new_database None info ≡ without_zeros info
unfolding shape_of
info_same info h =
    info_written info (text_in (entry_at_index info 2)) (int_in (entry_at_index info 12)) h _ _ _ _ _ _ _ _ _ _ _ _ _ _ _ _ _ _ _ _
    refl refl refl refl refl refl refl refl refl refl refl refl refl refl refl refl refl refl refl refl
    ∙ object_written 3 INFO info h

package_same : (v : Plain) (m : ℕ) → HasShape (shape_of (Kinds.Obj Tables.Package)) v → member_file_count (member_of_kept v) ≤ m → package_in_new_database (member_of_kept v) (replicate m true) ≡ without_zeros v
unfolding shape_of HasShape
package_same v m h enough =
    let fields = entries_shape 7 (shapes_of (table Tables.Package)) v h in
    let info : HasShape (shape_of (Kinds.Obj Tables.PkgInfo)) (entry_at_index v 0) = nth_shape (shapes_of (table Tables.Package)) (entries_in v) 0 fields in
    let folders : IsArrayOrNullOf (HasShape (shape_of (Kinds.Obj Tables.Dir))) (entry_at_index v 1) = nth_shape (shapes_of (table Tables.Package)) (entries_in v) 1 fields in
    let listed : List Plain = folders_in v in
    let all : folders_in_new_database listed (replicate m true) ≡ all_without_zeros (entries_in (entry_at_index v 1)) =
    ap (λ ds. folders_in_new_database ds (replicate m true)) (sym (map_same listed))
    ∙ each_all folder_file_count folder_in_new_database (λ d. d) (HasShape (shape_of (Kinds.Obj Tables.Dir))) folder_same (entries_in (entry_at_index v 1)) m (array_entries (HasShape (shape_of (Kinds.Obj Tables.Dir))) (entry_at_index v 1) folders)
    (subst (λ ds. total_of folder_file_count ds ≤ m) (sym (map_same listed)) enough) in
    (λ j. trimmed_object_or_null (more (info_same (entry_at_index v 0) info j)
    (more ((ap array_or_null all ∙ sym (zeros_array (HasShape (shape_of (Kinds.Obj Tables.Dir))) (entry_at_index v 1) folders)) j)
    (more (without_zeros (entry_at_index v 2)) (more (without_zeros (entry_at_index v 3)) (more (int_or_null (int_in (entry_at_index v 4))) none))))))
    ∙ object_written 7 (shapes_of (table Tables.Package)) v h

-- ---- the database

pub database_same : (v : Plain) → HasShape (shape_of (Kinds.Obj Tables.Idb)) v → database_value (members_of_kept (entries_of_field_at_index 0 v)) (set_flags_of_all_listed_files (members_of_kept (entries_of_field_at_index 0 v))) ≡ without_zeros v
unfolding shape_of HasShape database_value
database_same v h =
    let packages : IsArrayOrNullOf (HasShape (shape_of (Kinds.Obj Tables.Package))) (entry_at_index v 0) = nth_shape (shapes_of (table Tables.Idb)) (entries_in v) 0 (entries_shape 9 (shapes_of (table Tables.Idb)) v h) in
    let members : List Member = members_of_kept (entries_of_field_at_index 0 v) in
    let all : packages_in_new_database members (set_flags_of_all_listed_files members) ≡ all_without_zeros (entries_in (entry_at_index v 0)) =
    each_all member_file_count package_in_new_database member_of_kept (HasShape (shape_of (Kinds.Obj Tables.Package))) package_same (entries_in (entry_at_index v 0)) (total_of member_file_count members)
    (array_entries (HasShape (shape_of (Kinds.Obj Tables.Package))) (entry_at_index v 0) packages) (omega arith) in
    ap (λ ps. trimmed_object_or_null (more ps none)) (ap array_or_null all ∙ sym (zeros_array (HasShape (shape_of (Kinds.Obj Tables.Package))) (entry_at_index v 0) packages))
    ∙ object_written 9 (shapes_of (table Tables.Idb)) v h

pub bytes_same : (v : Plain) (payload : List ℕ) → HasShape (shape_of (Kinds.Obj Tables.Idb)) v → without_zeros v ≡ v → payload_or_counts_at_overflow v ≡ Ok payload
    → database_of (members_of_kept (entries_of_field_at_index 0 v)) (set_flags_of_all_listed_files (members_of_kept (entries_of_field_at_index 0 v))) ≡ Ok (file_of IDB_WORD payload)
unfolding database_of
bytes_same v payload h free canonical = ap (λ u. database_file_of_payload_unless_too_large (payload_or_counts_at_overflow u)) (database_same v h ∙ free) ∙ ap database_file_of_payload_unless_too_large canonical
