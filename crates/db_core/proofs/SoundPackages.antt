-- What is known of a package of a sound container, be it a package or a database.
use Rattle.std.proofs.Common.{◌≡◌, ℕ, Bool, true, false, if◌then◌else◌, List, [], ◌∷◌, ◌++◌, map, length, Option, Some, None, refl, sym, subst, inl, inr}
use Rattle.std.specs.Prelude.{◌<◌, All}
use Rattle.std.specs.List.{flat_map}
use Rattle.std.proofs.lemmas.Bool.{or_right}
use Rattle.adb_view.specs.Plain.{Plain, Plains, none, more, IsNormal}
use Rattle.adb_view.specs.Shaped.{Each, HasShape, IsArrayOrNullOf}
use Rattle.adb_view.specs.Schema.{shape_of, shapes_of, table}
use Rattle.adb_view.specs.Values.{entries_in, entry_at_index, text_in}
use Rattle.adb_view.specs.declared.tables.Kind.TheVariants.{Obj}
use Rattle.adb_view.specs.declared.tables.Which.{Which}
use Rattle.adb_view.specs.declared.tables.Which.TheVariants as Tables
use Rattle.adb_copy.specs.adb_fields.FirstPair.{IsIn}
use Rattle.adb_copy.specs.adb_fields.Once.{EachHasDistinctNames, AreDistinctNames, HaveNoRepeatInside}
use Rattle.adb_copy.specs.adb_fields.Repeated.{entries_of_field_at_index, files_in, folders_in, list_of, name_of}
use Rattle.adb_copy.proofs.adb_fields.Distinct.{distinct_front}
use Rattle.adb_sound.specs.adb_schema.Rules.{is_digest_length, is_digest_length_or_none, is_valid_file_name_in_folder, is_folder_name, is_link_target_or_none}
use Rattle.adb_sound.specs.adb_schema.SoundValues.{ObeysTextAndNumberRulesOfFileInFolder, ObeysTextAndNumberRulesOfFolder, ObeysTextAndNumberRulesOfInformation, ObeysTextAndNumberRulesOfPackage}
use Rattle.adb_sound.specs.adb_schema.Texts.{is_file_with_contents, is_file_hash_needed_unless_in_database}
use Rattle.adb_sound.specs.adb_schema.SoundContainers.{IsSoundContainerExceptContents, IsSoundValue}
use Rattle.adb_sound.specs.adb_schema.Soundness.{payload_in, root_value_of_payload}
use Rattle.adb_copy.proofs.Shapes.{entries_shape, nth_shape}
use Rattle.db_core.specs.SoundMembers.{IsPackageOfSoundContainer, IsOfSoundDatabase, IsSoundPackageAndDigest}
use Rattle.db_core.proofs.Unchanged.{array_entries}
use Rattle.adb_copy.proofs.WithoutZeros.{HasInts, each_ints, entries_ints, normal_ints, nth_ints}

-- a file of a folder with this name, in whichever container it stands
pub record IsFileUnder (folder : List ℕ) (v : Plain) : Type 0 where
  pub name : is_valid_file_name_in_folder folder (name_of v) ≡ true
  pub hash : is_digest_length_or_none (length (text_in (entry_at_index v 4))) ≡ true
  pub target : is_link_target_or_none (text_in (entry_at_index v 5)) ≡ true

pub record IsFolderAnywhere (v : Plain) : Type 0 where
  pub name : is_folder_name (name_of v) ≡ true
  pub files : Each (IsFileUnder (name_of v)) (entries_in (entry_at_index v 2))

pub record MayEnter (pkg : Plain) : Type 0 where
  pub ints : HasInts pkg
  pub shape : HasShape (shape_of (Obj Tables.Package)) pkg
  pub info : ObeysTextAndNumberRulesOfInformation Tables.Idb (entry_at_index pkg 0)
  pub folders : Each IsFolderAnywhere (entries_in (entry_at_index pkg 1))
  pub folders_once : AreDistinctNames (map name_of (folders_in pkg))
  pub files_once : EachHasDistinctNames (map (λ folder. map name_of (files_in folder)) (folders_in pkg))

-- ---- lists

pub each_map : (P Q : Plain → Type 0) → ((v : Plain) → P v → Q v) → (vs : Plains) → Each P vs → Each Q vs
each_map P Q f none h = tt
each_map P Q f (more v vs) h = (f v h.0, each_map P Q f vs h.1)

each_in : (P : Plain → Type 0) (v : Plain) (vs : Plains) → Each P vs → IsIn v (list_of vs) → P v
each_in P v none h here = absurd here
each_in P v (more u us) h (inl is) = subst P (sym is) h.0
each_in P v (more u us) h (inr here) = each_in P v us h.1 here

distinct_back : (xs ys : List (List (List ℕ))) → EachHasDistinctNames (xs ++ ys) → EachHasDistinctNames ys
distinct_back [] ys h = h
distinct_back (x ∷ xs) ys h = distinct_back xs ys h.1

one_distinct : (f : Plain → List (List ℕ)) (v : Plain) (vs : List Plain) → EachHasDistinctNames (map f vs) → IsIn v vs → AreDistinctNames (f v)
one_distinct f v [] h here = absurd here
one_distinct f v (u ∷ us) h (inl is) = subst (λ w. AreDistinctNames (f w)) (sym is) h.0
one_distinct f v (u ∷ us) h (inr here) = one_distinct f v us h.1 here

those_distinct : (f : Plain → List (List (List ℕ))) (v : Plain) (vs : List Plain) → EachHasDistinctNames (flat_map f vs) → IsIn v vs → EachHasDistinctNames (f v)
those_distinct f v [] h here = absurd here
those_distinct f v (u ∷ us) h (inl is) = subst (λ w. EachHasDistinctNames (f w)) (sym is) (distinct_front (f u) (flat_map f us) h)
those_distinct f v (u ∷ us) h (inr here) = those_distinct f v us (distinct_back (f u) (flat_map f us) h) here

-- ---- the rules, whichever table is at the root

hash_or_none : (needed : Bool) (n : ℕ) → (if needed then is_digest_length n else is_digest_length_or_none n) ≡ true → is_digest_length_or_none n ≡ true
hash_or_none true n e = or_right _ (is_digest_length n) e
hash_or_none false n e = e

pub digest_or_none : (n : ℕ) → is_digest_length n ≡ true → is_digest_length_or_none n ≡ true
digest_or_none n e = or_right _ (is_digest_length n) e

file_under : (root : Which) (folder : List ℕ) (v : Plain) → ObeysTextAndNumberRulesOfFileInFolder root folder v → IsFileUnder folder v
file_under root folder v h = record {
  name = h.name;
  hash = hash_or_none (is_file_hash_needed_unless_in_database root (is_file_with_contents v)) (length (text_in (entry_at_index v 4))) h.hash;
  target = h.target;
}

folder_anywhere : (root : Which) (v : Plain) → ObeysTextAndNumberRulesOfFolder root v → IsFolderAnywhere v
folder_anywhere root v h = record { name = h.name; files = each_map (ObeysTextAndNumberRulesOfFileInFolder root (name_of v)) (IsFileUnder (name_of v)) (file_under root (name_of v)) (entries_in (entry_at_index v 2)) h.files }

-- an information has the same rules in a package and in a database
of_package : (v : Plain) → ObeysTextAndNumberRulesOfInformation Tables.Package v → ObeysTextAndNumberRulesOfInformation Tables.Idb v
of_package v h = record {
  name = h.name;
  version = h.version;
  hash = h.hash;
  depends = h.depends;
  provides = h.provides;
  replaces = h.replaces;
  install_if = h.install_if;
  recommends = h.recommends;
}

-- ---- by the container

package_enters : (pkg : Plain) (id : List ℕ) → IsSoundPackageAndDigest pkg id → MayEnter pkg
package_enters pkg id h =
    let rules : ObeysTextAndNumberRulesOfPackage Tables.Package pkg = h.sound.rules in
    let once : HaveNoRepeatInside (pkg ∷ []) = h.sound.once in
    record {
      ints = normal_ints pkg h.normal;
      shape = h.sound.shape;
      info = of_package (entry_at_index pkg 0) rules.info;
      folders = each_map (ObeysTextAndNumberRulesOfFolder Tables.Package) IsFolderAnywhere (folder_anywhere Tables.Package) (entries_in (entry_at_index pkg 1)) rules.folders;
      folders_once = once.folders.0;
      files_once = those_distinct (λ p. map (λ folder. map name_of (files_in folder)) (folders_in p)) pkg (pkg ∷ []) once.files (inl refl);
    }

database_enters : (pkg : Plain) → IsOfSoundDatabase pkg → MayEnter pkg
unfolding shape_of HasShape
database_enters pkg h =
    let vs : Plains = entries_in (entry_at_index h.database 0) in
    let packages : IsArrayOrNullOf (HasShape (shape_of (Obj Tables.Package))) (entry_at_index h.database 0) =
    nth_shape (shapes_of (table Tables.Idb)) (entries_in h.database) 0 (entries_shape 9 (shapes_of (table Tables.Idb)) h.database h.sound.shape) in
    let rules : ObeysTextAndNumberRulesOfPackage Tables.Idb pkg = each_in (ObeysTextAndNumberRulesOfPackage Tables.Idb) pkg vs h.sound.rules h.listed in
    let once : HaveNoRepeatInside (entries_of_field_at_index 0 h.database) = h.sound.once.0 in
    record {
      ints = each_in HasInts pkg vs (each_ints vs (entries_ints (entry_at_index h.database 0) (nth_ints (entries_in h.database) 0 (entries_ints h.database (normal_ints h.database h.normal))))) h.listed;
      shape = each_in (HasShape (shape_of (Obj Tables.Package))) pkg vs (array_entries (HasShape (shape_of (Obj Tables.Package))) (entry_at_index h.database 0) packages) h.listed;
      info = rules.info;
      folders = each_map (ObeysTextAndNumberRulesOfFolder Tables.Idb) IsFolderAnywhere (folder_anywhere Tables.Idb) (entries_in (entry_at_index pkg 1)) rules.folders;
      folders_once = one_distinct (λ p. map name_of (folders_in p)) pkg (entries_of_field_at_index 0 h.database) once.folders h.listed;
      files_once = those_distinct (λ p. map (λ folder. map name_of (files_in folder)) (folders_in p)) pkg (entries_of_field_at_index 0 h.database) once.files h.listed;
    }

pub member_enters : (pkg : Plain) (id : Option (List ℕ)) → IsPackageOfSoundContainer pkg id → MayEnter pkg
member_enters pkg None h = database_enters pkg h
member_enters pkg (Some id) h = package_enters pkg id h

-- ---- what sound containers hold

abbrev pub Holds : Type 0
Holds = (which : Which) (file : List ℕ) → IsSoundContainerExceptContents which file → IsSoundValue which (root_value_of_payload which (payload_in file))

abbrev pub HoldsNormal : Type 0
HoldsNormal = (which : Which) (file : List ℕ) → IsSoundContainerExceptContents which file → All (λ b. b < 256) (payload_in file) → IsNormal (root_value_of_payload which (payload_in file))

pub may_be_kept : Holds → HoldsNormal → (file : List ℕ) (pkg : Plain) → IsSoundContainerExceptContents Tables.Idb file → All (λ b. b < 256) (payload_in file) → IsIn pkg (entries_of_field_at_index 0 (root_value_of_payload Tables.Idb (payload_in file))) → IsPackageOfSoundContainer pkg None
may_be_kept holds normal file pkg sound bytes listed = record { database = root_value_of_payload Tables.Idb (payload_in file); sound = holds Tables.Idb file sound; normal = normal Tables.Idb file sound bytes; listed = listed }

pub may_come : Holds → HoldsNormal → (file id : List ℕ) → IsSoundContainerExceptContents Tables.Package file → All (λ b. b < 256) (payload_in file) → is_digest_length (length id) ≡ true
    → IsPackageOfSoundContainer (root_value_of_payload Tables.Package (payload_in file)) (Some id)
may_come holds normal file id sound bytes digest = record { sound = holds Tables.Package file sound; normal = normal Tables.Package file sound bytes; digest = digest }
