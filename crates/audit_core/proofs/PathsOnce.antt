-- No path stands twice in a sound database.
use Rattle.std.proofs.Common.{◌≡◌, inl, inr, ℕ, Bool, true, false, List, [], ◌∷◌, ◌++◌, map, refl, ap, sym, ◌∙◌, subst, true≢false}
use Rattle.std.specs.Prelude.{◌==◌, ◌||◌, not, nat_le, length}
use Rattle.std.specs.List.{flat_map, list_any}
use Rattle.std.proofs.lemmas.List.{map-append}
use Rattle.std.proofs.lemmas.Bool.{not-true}
use Rattle.std.proofs.Math.Bool.{or-true}
use Rattle.base_core.proofs.Booleans.{both_second, both_first}
use Rattle.path_clashes.specs.adb_fields.FirstPair.{IsIn}
use Rattle.path_clashes.specs.adb_fields.Once.{EachHasDistinctNames, ShareNoName, AreDistinctNames, IsInOneOf}
use Rattle.path_clashes.specs.adb_fields.Paths.{path_of}
use Rattle.path_clashes.specs.adb_fields.Repeated.{entries_of_field_at_index, files_in, folders_in, list_of, name_of, paths_of_package_files, paths_of_folder_files}
use Rattle.path_clashes.proofs.adb_fields.Members.{from-flat_map, from-map, in-map}
use Rattle.path_clashes.proofs.adb_fields.Distinct.{distinct_front}
use Rattle.db_core.specs.adb_schema.Rules.{is_valid_file_name_in_folder, is_one_part}
use Rattle.db_core.specs.adb_schema.SoundContainers.{IsSoundValue}
use Rattle.db_core.specs.adb_schema.SoundValues.{ObeysTextAndNumberRulesOfFileInFolder, ObeysTextAndNumberRulesOfFolder, ObeysTextAndNumberRulesOfPackage}
use Rattle.adb_view.specs.FieldIndexes.{DIR_FILES_INDEX, IDB_PACKAGES_INDEX, PACKAGE_PATHS_INDEX}
use Rattle.adb_view.specs.Plain.{Plain, Plains, more, none}
use Rattle.adb_view.specs.Shaped.{Each}
use Rattle.adb_view.specs.Values.{entries_in, entry_at_index}
use Rattle.adb_view.specs.declared.tables.Which.TheVariants.{Idb}
use Rattle.audit_core.specs.Records.{PathAndEntry, database_records, file_record, folder_records, package_records}

-- ---- names that stand once in lists one after the other

pub distinct_both : (xs ys : List (List ℕ)) → AreDistinctNames xs → AreDistinctNames ys → ((q : List ℕ) → IsIn q xs → IsIn q ys → ⊥) → AreDistinctNames (xs ++ ys)
distinct_both [] ys dx dy apart = dy
distinct_both (x ∷ xs) ys dx dy apart = (new xs dx.0, distinct_both xs ys dx.1 dy (λ q h k. apart q (inr h) k))
  where
    new : (zs : List (List ℕ)) → (IsIn x zs → ⊥) → IsIn x (zs ++ ys) → ⊥
    new [] not_in here = apart x (inl refl) here
    new (z ∷ zs) not_in (inl is) = not_in (inl is)
    new (z ∷ zs) not_in (inr here) = new zs (λ h. not_in (inr h)) here

-- names that a function tells apart
distinct_map : (f : List ℕ → List ℕ) → (names : List (List ℕ)) → ((a b : List ℕ) → IsIn a names → IsIn b names → f a ≡ f b → a ≡ b) → AreDistinctNames names → AreDistinctNames (map f names)
distinct_map f [] apart d = tt
distinct_map f (name ∷ names) apart d = (
  λ here. (let found = from-map f (f name) names here in
      d.0 (subst (λ (q : List ℕ). IsIn q names) (sym (apart name found.0 (inl refl) (inr found.1) found.2)) found.1)),
  distinct_map f names (λ a b h k e. apart a b (inr h) (inr k) e) d.1,
)

-- ---- paths of two files

abbrev is_slash : ℕ → Bool
is_slash b = b == 47

-- a file's name has no slash
no_slash : (folder name : List ℕ) → is_valid_file_name_in_folder folder name ≡ true → list_any is_slash name ≡ false
no_slash folder name h = not-true (list_any is_slash name) (both_second _ (not (list_any is_slash name)) (both_first (is_one_part name) (nat_le (length (path_of folder name)) 1024) h))

slash_after : (xs ys : List ℕ) → list_any is_slash (xs ++ 47 ∷ ys) ≡ true
slash_after [] ys = refl
slash_after (x ∷ xs) ys = ap (λ b. is_slash x || b) (slash_after xs ys) ∙ or-true (is_slash x)

abbrev tail_of : List ℕ → List ℕ
tail_of [] = []
tail_of (x ∷ xs) = xs

abbrev head_of : List ℕ → ℕ
head_of [] = 0
head_of (x ∷ xs) = x

same_front : (xs ys n m : List ℕ) → list_any is_slash n ≡ false → list_any is_slash m ≡ false → xs ++ 47 ∷ n ≡ ys ++ 47 ∷ m → (xs ≡ ys) × (n ≡ m)
same_front [] [] n m sn sm e = (refl, ap tail_of e)
same_front [] (y ∷ ys) n m sn sm e = absurd (true≢false (sym (slash_after ys m) ∙ (ap (list_any is_slash) (sym (ap tail_of e)) ∙ sn)))
same_front (x ∷ xs) [] n m sn sm e = absurd (true≢false (sym (slash_after xs n) ∙ (ap (list_any is_slash) (ap tail_of e) ∙ sm)))
same_front (x ∷ xs) (y ∷ ys) n m sn sm e =
    let rest = same_front xs ys n m sn sm (ap tail_of e) in
    (ap (λ z. z ∷ xs) (ap head_of e) ∙ ap (λ zs. y ∷ zs) rest.0, rest.1)

pub same_path : (f g n m : List ℕ) → list_any is_slash n ≡ false → list_any is_slash m ≡ false → path_of f n ≡ path_of g m → (f ≡ g) × (n ≡ m)
same_path [] [] n m sn sm e = (refl, e)
same_path [] (y ∷ g) n m sn sm e = absurd (true≢false (sym (slash_after (y ∷ g) m) ∙ (ap (list_any is_slash) (sym e) ∙ sn)))
same_path (x ∷ f) [] n m sn sm e = absurd (true≢false (sym (slash_after (x ∷ f) n) ∙ (ap (list_any is_slash) e ∙ sm)))
same_path (x ∷ f) (y ∷ g) n m sn sm e = same_front (x ∷ f) (y ∷ g) n m sn sm e

-- ---- one folder

each_in : (P : Plain → Type 0) (v : Plain) (vs : Plains) → Each P vs → IsIn v (list_of vs) → P v
each_in P v none h here = absurd here
each_in P v (more w vs) h (inl is) = subst P (sym is) h.0
each_in P v (more w vs) h (inr here) = each_in P v vs h.1 here

-- each file of a folder has a name without a slash
abbrev AreParts : Plain → Type 0
AreParts folder = (file : Plain) → IsIn file (files_in folder) → list_any is_slash (name_of file) ≡ false

parts_of_folder : (folder : Plain) → ObeysTextAndNumberRulesOfFolder Idb folder → AreParts folder
parts_of_folder folder is file here =
    no_slash (name_of folder) (name_of file) (each_in (ObeysTextAndNumberRulesOfFileInFolder Idb (name_of folder)) file (entries_in (entry_at_index folder DIR_FILES_INDEX)) is.files here).name

map_twice : (f : List ℕ → List ℕ) (files : List Plain) → map f (map name_of files) ≡ map (λ file. f (name_of file)) files
map_twice f [] = refl
map_twice f (file ∷ files) = ap (λ rest. f (name_of file) ∷ rest) (map_twice f files)

folder_once : (folder : Plain) → AreParts folder → AreDistinctNames (map name_of (files_in folder)) → AreDistinctNames (paths_of_folder_files folder)
folder_once folder parts d =
    subst AreDistinctNames (map_twice (path_of (name_of folder)) (files_in folder))
    (distinct_map (path_of (name_of folder)) (map name_of (files_in folder)) (λ a b h k e.
    (let one = from-map name_of a (files_in folder) h in
    let other = from-map name_of b (files_in folder) k in
    (same_path (name_of folder) (name_of folder) a b (ap (list_any is_slash) one.2 ∙ parts one.0 one.1) (ap (list_any is_slash) other.2 ∙ parts other.0 other.1) e).1)) d)

-- ---- the folders of a package

folders_once : (folders : List Plain) → ((folder : Plain) → IsIn folder folders → AreParts folder) → AreDistinctNames (map name_of folders) → EachHasDistinctNames (map (λ folder. map name_of (files_in folder)) folders)
    → AreDistinctNames (flat_map paths_of_folder_files folders)
folders_once [] parts names files = tt
folders_once (folder ∷ folders) parts names files =
    distinct_both (paths_of_folder_files folder) (flat_map paths_of_folder_files folders) (folder_once folder (parts folder (inl refl)) files.0)
    (folders_once folders (λ f h. parts f (inr h)) names.1 files.1)
    (λ q h k.
    (let here = from-map (λ file. path_of (name_of folder) (name_of file)) q (files_in folder) h in
    let there = from-flat_map paths_of_folder_files q folders k in
    let file = from-map (λ file. path_of (name_of there.0) (name_of file)) q (files_in there.0) there.2 in
    let same = same_path (name_of folder) (name_of there.0) (name_of here.0) (name_of file.0) (parts folder (inl refl) here.0 here.1) (parts there.0 (inr there.1) file.0 file.1) (sym here.2 ∙ file.2) in
    names.0 (subst (λ (name : List ℕ). IsIn name (map name_of folders)) (sym same.0) (in-map name_of there.0 folders there.1))))

-- ---- the packages of a database

distinct_after : (xs ys : List (List (List ℕ))) → EachHasDistinctNames (xs ++ ys) → EachHasDistinctNames ys
distinct_after [] ys h = h
distinct_after (x ∷ xs) ys h = distinct_after xs ys h.1

in_one_of : (q : List ℕ) (pkg : Plain) (packages : List Plain) → IsIn pkg packages → IsIn q (paths_of_package_files pkg) → IsInOneOf q (map paths_of_package_files packages)
in_one_of q pkg [] here lists = absurd here
in_one_of q pkg (p ∷ packages) (inl is) lists = inl (subst (λ (v : Plain). IsIn q (paths_of_package_files v)) is lists)
in_one_of q pkg (p ∷ packages) (inr here) lists = inr (in_one_of q pkg packages here lists)

packages_once : (packages : List Plain) → ((pkg : Plain) → IsIn pkg packages → ObeysTextAndNumberRulesOfPackage Idb pkg) → EachHasDistinctNames (map (λ pkg. map name_of (folders_in pkg)) packages)
    → EachHasDistinctNames (flat_map (λ pkg. map (λ folder. map name_of (files_in folder)) (folders_in pkg)) packages) → ShareNoName (map paths_of_package_files packages)
    → AreDistinctNames (flat_map paths_of_package_files packages)
packages_once [] rules folders files apart = tt
packages_once (pkg ∷ packages) rules folders files apart =
    let files_of : Plain → List (List (List ℕ)) = λ pkg. map (λ folder. map name_of (files_in folder)) (folders_in pkg) in
    distinct_both (paths_of_package_files pkg) (flat_map paths_of_package_files packages)
    (folders_once (folders_in pkg)
    (λ folder h. parts_of_folder folder (each_in (ObeysTextAndNumberRulesOfFolder Idb) folder (entries_in (entry_at_index pkg PACKAGE_PATHS_INDEX)) (rules pkg (inl refl)).folders h))
    folders.0 (distinct_front (files_of pkg) (flat_map files_of packages) files))
    (packages_once packages (λ p h. rules p (inr h)) folders.1 (distinct_after (files_of pkg) (flat_map files_of packages) files) apart.1)
    (λ q h k. (let found = from-flat_map paths_of_package_files q packages k in apart.0 q h (in_one_of q found.0 packages found.1 found.2)))

pub database_once : (database : Plain) → IsSoundValue Idb database → AreDistinctNames (flat_map paths_of_package_files (entries_of_field_at_index IDB_PACKAGES_INDEX database))
database_once database sound =
    packages_once (entries_of_field_at_index IDB_PACKAGES_INDEX database) (λ pkg h. each_in (ObeysTextAndNumberRulesOfPackage Idb) pkg (entries_in (entry_at_index database IDB_PACKAGES_INDEX)) sound.rules h)
    sound.once.0.folders sound.once.0.files sound.once.1.paths_once

-- ---- the paths of records

folder_paths : (folder : Plain) → map (λ r. r.path) (folder_records folder) ≡ paths_of_folder_files folder
folder_paths folder = go (files_in folder)
  where
    go : (files : List Plain) → map (λ r. r.path) (map (file_record (name_of folder)) files) ≡ map (λ file. path_of (name_of folder) (name_of file)) files
    go [] = refl
    go (file ∷ files) = ap (λ rest. path_of (name_of folder) (name_of file) ∷ rest) (go files)

package_paths : (folders : List Plain) → map (λ r. r.path) (flat_map folder_records folders) ≡ flat_map paths_of_folder_files folders
package_paths [] = refl
package_paths (folder ∷ folders) =
    map-append (λ (r : PathAndEntry). r.path) (folder_records folder) (flat_map folder_records folders)
    ∙ (ap (λ paths. paths ++ map (λ r. r.path) (flat_map folder_records folders)) (folder_paths folder)
    ∙ ap (λ paths. paths_of_folder_files folder ++ paths) (package_paths folders))

pub record_paths : (packages : List Plain) → map (λ r. r.path) (database_records packages) ≡ flat_map paths_of_package_files packages
record_paths [] = refl
record_paths (pkg ∷ packages) =
    map-append (λ (r : PathAndEntry). r.path) (package_records pkg) (database_records packages)
    ∙ (ap (λ paths. paths ++ map (λ r. r.path) (database_records packages)) (package_paths (folders_in pkg))
    ∙ ap (λ paths. paths_of_package_files pkg ++ paths) (record_paths packages))
