-- The value of a new database is normal and has its shape, part by part.
use Rattle.std.proofs.Common.{ℕ, Bool, true, false, List, [], ◌∷◌, drop, Option}
use Rattle.std.specs.Prelude.{unwrap_or}
use Rattle.adb_view.specs.Plain.{Plain, Plains, int, blob, none, more, array_or_null, blob_or_null, IsNormal, AreNormal}
use Rattle.adb_view.specs.Shaped.{Each, HasShape, IsArrayOrNullOf, HaveShapes}
use Rattle.adb_view.specs.Schema.{shape_of, shapes_of, table}
use Rattle.adb_view.specs.Values.{entries_in, entry_at_index, int_in, text_in}
use Rattle.adb_view.specs.declared.tables.Kind.TheVariants.{Obj, TextArr}
use Rattle.adb_view.specs.declared.tables.Which.TheVariants as Tables
use Rattle.adb_copy.specs.adb_fields.Repeated.{files_in, folders_in, list_of, name_of}
use Rattle.adb_copy.specs.Zeros.{info_without_zeros_with_id_and_file_size, int_or_null, without_zeros}
use Rattle.adb_copy.proofs.Fields.{INFO}
use Rattle.adb_view.proofs.FoundShapes.{arr_value_shape, blob_value_text, obj_value_shape}
use Rattle.adb_view.proofs.Normal.{arr_normal, blob_value_normal, obj_normal}
use Rattle.adb_copy.proofs.Shapes.{entries_shape, nth_shape}
use Rattle.adb_copy.proofs.WithoutZeros.{HasInts, HaveInts, each_ints, entries_ints, int_normal, int_shape, nth_ints, placed_normal, placed_shape, read_small, zeros_normal, zeros_shape}
use Rattle.db_core.specs.Members.{Member}
use Rattle.db_core.specs.NewDatabase.{database_value, values_by_successive_flags, folder_file_count, folder_in_new_database, folders_in_new_database, info_in_new_database, member_file_count, owned_entries_without_zeros, package_in_new_database, packages_in_new_database}
use Rattle.db_core.specs.SoundMembers.{AreMembersOfSoundContainers}
use Rattle.db_core.proofs.SoundPackages.{MayEnter, member_enters}
use Rattle.db_core.proofs.Unchanged.{array_entries}

-- ---- lists

abbrev pub EachIn : {X : Type 0} → (X → Type 0) → List X → Type 0
EachIn P [] = Unit {0}
EachIn P (x ∷ xs) = P x × EachIn P xs

pub each_listed : (P : Plain → Type 0) (vs : Plains) → Each P vs → EachIn P (list_of vs)
each_listed P none h = tt
each_listed P (more v vs) h = (h.0, each_listed P vs h.1)

pub each_made : {X : Type 0} (count : X → ℕ) (value : X → List Bool → Plain) (P : X → Type 0) (Q : Plain → Type 0) → ((x : X) (flags : List Bool) → P x → Q (value x flags))
    → (xs : List X) (flags : List Bool) → EachIn P xs → Each Q (values_by_successive_flags count value xs flags)
each_made count value P Q f [] flags h = tt
each_made count value P Q f (x ∷ xs) flags h = (f x flags h.0, each_made count value P Q f xs (drop (count x) flags) h.1)

each_owned : (P Q : Plain → Type 0) → ((v : Plain) → P v → Q (without_zeros v)) → (vs : Plains) (flags : List Bool) → Each P vs → Each Q (owned_entries_without_zeros (list_of vs) flags)
each_owned P Q f none flags h = tt
each_owned P Q f (more v vs) [] h = tt
each_owned P Q f (more v vs) (true ∷ flags) h = (f v h.0, each_owned P Q f vs flags h.1)
each_owned P Q f (more v vs) (false ∷ flags) h = each_owned P Q f vs flags h.1

all_normal : (vs : Plains) → Each IsNormal vs → AreNormal vs
unfolding AreNormal
all_normal none h = tt
all_normal (more v vs) h = (h.0, all_normal vs h.1)

pub members_enter : (members : List Member) → AreMembersOfSoundContainers members → EachIn (λ (m : Member). MayEnter m.pkg) members
members_enter [] h = tt
members_enter (m ∷ members) h = (member_enters m.pkg m.id h.0, members_enter members h.1)

-- ---- what is written of a folder, of a package and of a database

abbrev pub fields_of_folder : Plain → List Bool → Plains
fields_of_folder d flags = more (blob_or_null (name_of d)) (more (without_zeros (entry_at_index d 1)) (more (array_or_null (owned_entries_without_zeros (files_in d) flags)) none))

abbrev pub fields_of_package : Member → List Bool → Plains
fields_of_package m flags = more (info_in_new_database m.id (entry_at_index m.pkg 0)) (more (array_or_null (folders_in_new_database (folders_in m.pkg) flags))
    (more (without_zeros (entry_at_index m.pkg 2)) (more (without_zeros (entry_at_index m.pkg 3)) (more (int_or_null (int_in (entry_at_index m.pkg 4))) none))))

abbrev pub fields_of_database : List Member → List Bool → Plains
fields_of_database members flags = more (array_or_null (packages_in_new_database members flags)) none

-- ---- normal

info_normal : (id : Option (List ℕ)) (info : Plain) → HasInts info → IsNormal (info_in_new_database id info)
unfolding info_without_zeros_with_id_and_file_size HasInts
info_normal id info h = placed_normal 12 2 (int (int_in (entry_at_index info 12))) (blob (unwrap_or id (text_in (entry_at_index info 2)))) (entries_in info)
    (read_small (entry_at_index info 12) (nth_ints (entries_in info) 12 (entries_ints info h))) tt (entries_ints info h)

folder_normal : (d : Plain) (flags : List Bool) → HasInts d → IsNormal (folder_in_new_database d flags)
unfolding AreNormal
folder_normal d flags h =
    let vs : Plains = entries_in (entry_at_index d 2) in
    let fields : HaveInts (entries_in d) = entries_ints d h in
    let files = all_normal (owned_entries_without_zeros (list_of vs) flags) (each_owned HasInts IsNormal zeros_normal vs flags (each_ints vs (entries_ints (entry_at_index d 2) (nth_ints (entries_in d) 2 fields)))) in
    obj_normal (fields_of_folder d flags) (blob_value_normal (name_of d), (zeros_normal (entry_at_index d 1) (nth_ints (entries_in d) 1 fields), (arr_normal _ files, tt)))

package_normal : (m : Member) (flags : List Bool) → HasInts m.pkg → IsNormal (package_in_new_database m flags)
unfolding AreNormal
package_normal m flags h =
    let vs : Plains = entries_in m.pkg in
    let fields : HaveInts vs = entries_ints m.pkg h in
    let listed : Plains = entries_in (entry_at_index m.pkg 1) in
    let folders = all_normal (folders_in_new_database (folders_in m.pkg) flags)
    (each_made folder_file_count folder_in_new_database HasInts IsNormal folder_normal (folders_in m.pkg) flags (each_listed HasInts listed (each_ints listed (entries_ints (entry_at_index m.pkg 1) (nth_ints vs 1 fields))))) in
    obj_normal (fields_of_package m flags) (
      info_normal m.id (entry_at_index m.pkg 0) (nth_ints vs 0 fields),
      (
        arr_normal _ folders,
        (
          zeros_normal (entry_at_index m.pkg 2) (nth_ints vs 2 fields),
          (
            zeros_normal (entry_at_index m.pkg 3) (nth_ints vs 3 fields),
            (int_normal _ (read_small (entry_at_index m.pkg 4) (nth_ints vs 4 fields)), tt),
          ),
        ),
      ),
    )

pub database_normal : (members : List Member) (flags : List Bool) → EachIn (λ (m : Member). MayEnter m.pkg) members → IsNormal (database_value members flags)
unfolding AreNormal database_value
database_normal members flags h =
    obj_normal (fields_of_database members flags) (
      arr_normal _ (all_normal (packages_in_new_database members flags)
          (each_made member_file_count package_in_new_database (λ (m : Member). MayEnter m.pkg) IsNormal (λ m fs e. package_normal m fs e.ints) members flags h)),
      tt,
    )

-- ---- of its shape

info_shape : (id : Option (List ℕ)) (info : Plain) → HasShape (shape_of (Obj Tables.PkgInfo)) info → HasShape (shape_of (Obj Tables.PkgInfo)) (info_in_new_database id info)
unfolding info_without_zeros_with_id_and_file_size HasShape shape_of
info_shape id info h = placed_shape 3 INFO 12 2 (int (int_in (entry_at_index info 12))) (blob (unwrap_or id (text_in (entry_at_index info 2)))) (entries_in info) tt tt tt tt (entries_shape 3 INFO info h)

folder_shape : (d : Plain) (flags : List Bool) → HasShape (shape_of (Obj Tables.Dir)) d → HasShape (shape_of (Obj Tables.Dir)) (folder_in_new_database d flags)
unfolding shape_of HasShape HaveShapes
folder_shape d flags h =
    let fields = entries_shape 5 (shapes_of (table Tables.Dir)) d h in
    let acl : HasShape (shape_of (Obj Tables.Acl)) (entry_at_index d 1) = nth_shape (shapes_of (table Tables.Dir)) (entries_in d) 1 fields in
    let files : IsArrayOrNullOf (HasShape (shape_of (Obj Tables.File))) (entry_at_index d 2) = nth_shape (shapes_of (table Tables.Dir)) (entries_in d) 2 fields in
    let owned = each_owned (HasShape (shape_of (Obj Tables.File))) (HasShape (shape_of (Obj Tables.File))) (zeros_shape (shape_of (Obj Tables.File))) (entries_in (entry_at_index d 2)) flags
    (array_entries (HasShape (shape_of (Obj Tables.File))) (entry_at_index d 2) files) in
    obj_value_shape 5 (shapes_of (table Tables.Dir)) (fields_of_folder d flags) (blob_value_text (name_of d), (zeros_shape (shape_of (Obj Tables.Acl)) (entry_at_index d 1) acl, (arr_value_shape (shape_of (Obj Tables.File)) _ owned, tt)))

package_shape : (m : Member) (flags : List Bool) → HasShape (shape_of (Obj Tables.Package)) m.pkg → HasShape (shape_of (Obj Tables.Package)) (package_in_new_database m flags)
unfolding shape_of HasShape HaveShapes
package_shape m flags h =
    let v : Plain = m.pkg in
    let fields = entries_shape 7 (shapes_of (table Tables.Package)) v h in
    let info : HasShape (shape_of (Obj Tables.PkgInfo)) (entry_at_index v 0) = nth_shape (shapes_of (table Tables.Package)) (entries_in v) 0 fields in
    let listed : IsArrayOrNullOf (HasShape (shape_of (Obj Tables.Dir))) (entry_at_index v 1) = nth_shape (shapes_of (table Tables.Package)) (entries_in v) 1 fields in
    let scripts : HasShape (shape_of (Obj Tables.Scripts)) (entry_at_index v 2) = nth_shape (shapes_of (table Tables.Package)) (entries_in v) 2 fields in
    let triggers : HasShape (shape_of TextArr) (entry_at_index v 3) = nth_shape (shapes_of (table Tables.Package)) (entries_in v) 3 fields in
    let folders = each_made folder_file_count folder_in_new_database (HasShape (shape_of (Obj Tables.Dir))) (HasShape (shape_of (Obj Tables.Dir))) folder_shape (folders_in v) flags
    (each_listed (HasShape (shape_of (Obj Tables.Dir))) (entries_in (entry_at_index v 1)) (array_entries (HasShape (shape_of (Obj Tables.Dir))) (entry_at_index v 1) listed)) in
    obj_value_shape 7 (shapes_of (table Tables.Package)) (fields_of_package m flags) (
      info_shape m.id (entry_at_index v 0) info,
      (
        arr_value_shape (shape_of (Obj Tables.Dir)) _ folders,
        (zeros_shape (shape_of (Obj Tables.Scripts)) (entry_at_index v 2) scripts, (zeros_shape (shape_of TextArr) (entry_at_index v 3) triggers, (int_shape (int_in (entry_at_index v 4)), tt))),
      ),
    )

pub database_shape : (members : List Member) (flags : List Bool) → EachIn (λ (m : Member). MayEnter m.pkg) members → HasShape (shape_of (Obj Tables.Idb)) (database_value members flags)
unfolding shape_of HasShape HaveShapes database_value
database_shape members flags h =
    let packages = each_made member_file_count package_in_new_database (λ (m : Member). MayEnter m.pkg) (HasShape (shape_of (Obj Tables.Package))) (λ m fs e. package_shape m fs e.shape) members flags h in
    obj_value_shape 9 (shapes_of (table Tables.Idb)) (fields_of_database members flags) (arr_value_shape (shape_of (Obj Tables.Package)) _ packages, tt)
