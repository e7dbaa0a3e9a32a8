-- The values of files and of folders, whatever their bytes, and what they say of contents.
use Rattle.std.proofs.Common.{◌≡◌, ℕ, zero, suc, ◌-◌, ◌^◌, ◌<◌, ◌≤◌, Bool, true, false, not, ◌&&◌, ◌==◌, eqb, ltb, nat_lt, if◌then◌else◌, List, [], ◌∷◌, length, take, map, codes, bytes_eq, refl, ap, sym, subst, ◌∙◌, arith, lit<, Option}
use Rattle.std.specs.Str.{is_utf8}
use Rattle.std.proofs.lemmas.Bool.{and_parts, eq-eqb, lt-ltb, ltb-false, ltb-true, ne_eqb, not-true, and_from}
use Rattle.std.proofs.lemmas.List.{length-drop, take_all}
use Rattle.std.proofs.lemmas.Slice.Eq.{bytes_eq-Decides}
use Rattle.sha2.specs.Sha256.{sha256}
use Rattle.sha2.proofs.Facts256.{length-sha256}
use Rattle.adb_view.specs.Plain.{Plain, null, int, Plains, none, more, number, text, blob_or_null, array_or_null, trimmed_object_or_null}
use Rattle.adb_view.specs.Shaped.{Each}
use Rattle.adb_copy.specs.adb_fields.Repeated.{files_in, folders_in, list_of}
use Rattle.pkg_core.specs.adb_schema.Rules.{is_digest_length, is_digest_length_or_none, is_valid_file_name_in_folder, is_folder_name, is_link_target_or_none}
use Rattle.adb_view.specs.Schema.{shape_of, shapes_of, table}
use Rattle.pkg_core.specs.adb_schema.Texts.{Surroundings, is_file_hash_length, is_allowed_number_of_field, surroundings_of_fields, surroundings_of_root, is_allowed_text_of_field}
use Rattle.adb_view.specs.Values.{entries_in, entry_at_index, int_in, text_in}
use Rattle.adb_view.specs.declared.tables.Which.TheVariants.{Acl, File, Dir, Scripts, PkgInfo, Package}
use Rattle.adb_view.specs.declared.tables.Kind.TheVariants.{Obj}
use Rattle.command_core.specs.Values.{script_types}
use Rattle.package_files.specs.Package.{SourceFileNameAndBytes, SourceFolder, Script, access_value, kind_of_file, value_of_kind, value_of_file, value_of_folder, hash_of_kind, is_link_file, link_text, value_of_package, script_bytes_of_field, value_of_scripts, size_of_kind, target_of_kind}
use Rattle.make_info.specs.Values.{number_or_null, plains_of_list, size_or_null_if_zero}
use Rattle.package_files.specs.declared.file.FileKind.{FileKind}
use Rattle.package_files.specs.declared.file.FileKind.TheVariants.{Link, Regular}
use Rattle.adb_view.proofs.ValueEntries.{entries_arr, nth_obj, text_blob}
use Rattle.make_core.proofs.GoodValues.{IsGood, arr_good, hash_good, null_array, null_number, number_good, obj_good, text_good}
use Rattle.make_core.proofs.Zeros.{inside_same}

-- ---- what bytes are

-- a link leads to a text, and a regular file is smaller than 2 ^ 64 and has a SHA-256
abbrev pub IsGoodKind : FileKind → Type 0
IsGoodKind (Link target) = (rest : List ℕ) × (target ≡ 0 ∷ 160 ∷ rest) × (is_link_target_or_none (0 ∷ 160 ∷ rest) ≡ true)
IsGoodKind (Regular size digest) = (size < 2 ^ 64) × (length digest ≡ 32)

after_mark : (bytes : List ℕ) → take 10 bytes ≡ codes "!<symlink>" → (length bytes == 10) ≡ false → 0 < length (link_text bytes)
after_mark bytes mark other = by_length (ltb (length bytes) 11) refl
  where
    by_length : (b : Bool) → ltb (length bytes) 11 ≡ b → 0 < length (link_text bytes)
    by_length true e =
        let short : length bytes < 11 = ltb-true (length bytes) 11 e in
        let whole : take 10 bytes ≡ bytes = take_all 10 bytes (omega arith) in
        let ten : length bytes ≡ 10 = ap length (sym whole ∙ mark) in
        let same : (length bytes == 10) ≡ true = eq-eqb (length bytes) 10 ten in
        absurd (cc (other, same))
    by_length false e =
        let long : 11 ≤ length bytes = ltb-false (length bytes) 11 e in
        let rest : length (link_text bytes) ≡ length bytes - 10 = length-drop 10 bytes in
        omega (arith, long, rest)

link_target : (bytes : List ℕ) → is_link_file bytes ≡ true → is_link_target_or_none (0 ∷ 160 ∷ link_text bytes) ≡ true
unfolding is_link_file
link_target bytes e =
    let a = and_parts (bytes_eq (take 10 bytes) (codes "!<symlink>") && not (length bytes == 10)) (is_utf8 (link_text bytes)) e in
    let b = and_parts (bytes_eq (take 10 bytes) (codes "!<symlink>")) (not (length bytes == 10)) a.0 in
    let mark = (bytes_eq-Decides (take 10 bytes) (codes "!<symlink>")).0 b.0 in
    and_from (nat_lt 0 (length (link_text bytes))) (is_utf8 (link_text bytes)) (lt-ltb 0 (length (link_text bytes)) (after_mark bytes mark (not-true _ b.1))) a.1

pub good_kind : (bytes : List ℕ) → size_of_kind (kind_of_file bytes) < 2 ^ 64 → IsGoodKind (kind_of_file bytes)
unfolding kind_of_file
good_kind bytes = by_link (is_link_file bytes) refl
  where
    by_link : (b : Bool) → is_link_file bytes ≡ b → size_of_kind (if b then Link (0 ∷ 160 ∷ link_text bytes) else Regular (length bytes) (sha256 bytes)) < 2 ^ 64
        → IsGoodKind (if b then Link (0 ∷ 160 ∷ link_text bytes) else Regular (length bytes) (sha256 bytes))
    by_link true e small = (link_text bytes, refl, link_target bytes e)
    by_link false e small = (small, length-sha256 bytes)

-- ---- numbers, and rights

size-suc : (n : ℕ) → size_or_null_if_zero (suc n) ≡ int (suc n)
size-suc n =
    let e : eqb (suc n) 0 ≡ false = ne_eqb (suc n) 0 (omega arith) in
    rw e refl

pub int-size_or_null_if_zero : (n : ℕ) → int_in (size_or_null_if_zero n) ≡ n
int-size_or_null_if_zero zero = refl
int-size_or_null_if_zero (suc n) = ap int_in (size-suc n)

pub size_good : (place : ℕ) (around : Surroundings) (n : ℕ) → n < 2 ^ 64 → ((k : ℕ) → is_allowed_number_of_field place k ≡ true) → IsGood number place around (size_or_null_if_zero n)
size_good place around zero small free = null_number place around (free 0)
size_good place around (suc n) small free = subst (IsGood number place around) (sym (size-suc n)) (number_good place around (suc n) small (free (suc n)))

acl_good : (mode place : ℕ) (around : Surroundings) → mode < 2 ^ 64 → IsGood (shape_of (Obj Acl)) place around (access_value mode)
unfolding shape_of is_allowed_text_of_field
acl_good mode place around small =
    let root : List ℕ = codes "root" in
    let vs : Plains = more (int mode) (more (blob_or_null root) (more (blob_or_null root) none)) in
    let inside : Surroundings = surroundings_of_fields 2 around (trimmed_object_or_null vs) in
    obj_good 2 (shapes_of (table Acl)) place around inside vs refl
    (number_good 201 inside mode small refl, (text_good 202 inside root refl, (text_good 203 inside root refl, (null_array text 204 inside, tt))))

-- ---- a file

-- around the files of a folder
abbrev pub in_folder : List ℕ → Surroundings
in_folder name = record { root = Package; folder = name; has_contents = false }

abbrev pub with_contents : FileKind → Bool
with_contents kind = (length (target_of_kind kind) == 0) && nat_lt 0 (size_of_kind kind)

abbrev around_file : List ℕ → FileKind → Surroundings
around_file folder kind = record { root = Package; folder = folder; has_contents = with_contents kind }

abbrev file_fields : List ℕ → FileKind → Plains
file_fields name kind =
    more (blob_or_null name) (more (access_value 420) (more (size_or_null_if_zero (size_of_kind kind)) (more null
    (more (blob_or_null (hash_of_kind kind)) (more (blob_or_null (target_of_kind kind)) none)))))

pub name_stands : (name : List ℕ) (kind : FileKind) → text_in (entry_at_index (value_of_kind name kind) 0) ≡ name
name_stands name kind = ap text_in (nth_obj (file_fields name kind) 0) ∙ text_blob name

pub size_stands : (name : List ℕ) (kind : FileKind) → int_in (entry_at_index (value_of_kind name kind) 2) ≡ size_of_kind kind
size_stands name kind = ap int_in (nth_obj (file_fields name kind) 2) ∙ int-size_or_null_if_zero (size_of_kind kind)

pub hash_stands : (name : List ℕ) (kind : FileKind) → text_in (entry_at_index (value_of_kind name kind) 4) ≡ hash_of_kind kind
hash_stands name kind = ap text_in (nth_obj (file_fields name kind) 4) ∙ text_blob (hash_of_kind kind)

pub target_stands : (name : List ℕ) (kind : FileKind) → text_in (entry_at_index (value_of_kind name kind) 5) ≡ target_of_kind kind
target_stands name kind = ap text_in (nth_obj (file_fields name kind) 5) ∙ text_blob (target_of_kind kind)

file_inside : (folder name : List ℕ) (kind : FileKind) → surroundings_of_fields 4 (in_folder folder) (value_of_kind name kind) ≡ around_file folder kind
file_inside folder name kind =
    inside_same 4 (in_folder folder) (value_of_kind name kind) name (target_of_kind kind) (size_of_kind kind) (name_stands name kind) (target_stands name kind) (size_stands name kind)

digest_by : (b : Bool) → (if b then is_digest_length 32 else is_digest_length_or_none 32) ≡ true
digest_by true = refl
digest_by false = refl

no_digest : (b : Bool) → (if b && nat_lt 0 0 then is_digest_length 0 else is_digest_length_or_none 0) ≡ true
no_digest true = refl
no_digest false = refl

hash_kept : (folder : List ℕ) (kind : FileKind) → IsGoodKind kind → is_file_hash_length (around_file folder kind) (length (hash_of_kind kind)) ≡ true
hash_kept folder (Link target) good =
    no_digest (length target == 0)
hash_kept folder (Regular size digest) good =
    ap (λ n. if (0 == 0) && nat_lt 0 size then is_digest_length n else is_digest_length_or_none n) good.1 ∙ digest_by (nat_lt 0 size)

target_kept : (kind : FileKind) → IsGoodKind kind → is_link_target_or_none (target_of_kind kind) ≡ true
target_kept (Link target) good = ap is_link_target_or_none good.1 ∙ good.2
target_kept (Regular size digest) good = refl

size_small : (kind : FileKind) → IsGoodKind kind → size_of_kind kind < 2 ^ 64
size_small (Link target) good = lit< tt
size_small (Regular size digest) good = good.0

pub file_good : (folder name : List ℕ) (kind : FileKind) → is_valid_file_name_in_folder folder name ≡ true → IsGoodKind kind → IsGood (shape_of (Obj File)) 503 (in_folder folder) (value_of_kind name kind)
unfolding shape_of is_allowed_text_of_field
file_good folder name kind named good =
    let inside : Surroundings = around_file folder kind in
    obj_good 4 (shapes_of (table File)) 503 (in_folder folder) inside (file_fields name kind) (file_inside folder name kind) (
      text_good 401 inside name (and_from (is_valid_file_name_in_folder folder name) true named refl),
      (
        acl_good 420 402 inside (lit< tt),
        (
          size_good 403 inside (size_of_kind kind) (size_small kind good) (λ k. refl),
          (
            null_number 404 inside refl,
            (
              hash_good 405 inside (hash_of_kind kind) (hash_kept folder kind good),
              (
                text_good 406 inside (target_of_kind kind) (target_kept kind good),
                (null_number 407 inside refl, tt),
              ),
            ),
          ),
        ),
      ),
    )

-- ---- a folder

-- each file has a name that it may have there, and a size below 2 ^ 64
abbrev pub AreGoodFiles : List ℕ → List SourceFileNameAndBytes → Type 0
AreGoodFiles folder [] = Unit {0}
AreGoodFiles folder (file ∷ files) = (is_valid_file_name_in_folder folder file.name ≡ true) × (size_of_kind (kind_of_file file.bytes) < 2 ^ 64) × AreGoodFiles folder files

files_good : (folder : List ℕ) (files : List SourceFileNameAndBytes) → AreGoodFiles folder files → Each (IsGood (shape_of (Obj File)) 503 (in_folder folder)) (plains_of_list (map value_of_file files))
files_good folder [] good = tt
files_good folder (file ∷ files) good = (file_good folder file.name (kind_of_file file.bytes) good.0 (good_kind file.bytes good.1), files_good folder files good.2)

abbrev pub around_folder : Surroundings
around_folder = record { root = Package; folder = []; has_contents = false }

abbrev folder_fields : SourceFolder → Plains
folder_fields folder = more (blob_or_null folder.name) (more (access_value 493) (more (array_or_null (plains_of_list (map value_of_file folder.files))) none))

pub folder_name_stands : (folder : SourceFolder) → text_in (entry_at_index (value_of_folder folder) 0) ≡ folder.name
folder_name_stands folder = ap text_in (nth_obj (folder_fields folder) 0) ∙ text_blob folder.name

folder_inside : (folder : SourceFolder) → surroundings_of_fields 5 around_folder (value_of_folder folder) ≡ in_folder folder.name
folder_inside folder =
    inside_same 5 around_folder (value_of_folder folder) folder.name (text_in (entry_at_index (value_of_folder folder) 5)) (int_in (entry_at_index (value_of_folder folder) 2)) (folder_name_stands folder) refl refl

pub folder_good : (folder : SourceFolder) → is_folder_name folder.name ≡ true → AreGoodFiles folder.name folder.files → IsGood (shape_of (Obj Dir)) 702 around_folder (value_of_folder folder)
unfolding shape_of is_allowed_text_of_field
folder_good folder named files =
    let inside : Surroundings = in_folder folder.name in
    obj_good 5 (shapes_of (table Dir)) 702 around_folder inside (folder_fields folder) (folder_inside folder) (
      text_good 501 inside folder.name named,
      (
        acl_good 493 502 inside (lit< tt),
        (arr_good (shape_of (Obj File)) 503 inside (plains_of_list (map value_of_file folder.files)) (files_good folder.name folder.files files), tt),
      ),
    )

abbrev pub AreGoodFolders : List SourceFolder → Type 0
AreGoodFolders [] = Unit {0}
AreGoodFolders (folder ∷ folders) = (is_folder_name folder.name ≡ true) × AreGoodFiles folder.name folder.files × AreGoodFolders folders

folders_good : (folders : List SourceFolder) → AreGoodFolders folders → Each (IsGood (shape_of (Obj Dir)) 702 around_folder) (plains_of_list (map value_of_folder folders))
folders_good [] good = tt
folders_good (folder ∷ folders) good = (folder_good folder good.0 good.1, folders_good folders good.2)

-- ---- a package

scripts_good : (scripts : List Script) → IsGood (shape_of (Obj Scripts)) 703 around_folder (value_of_scripts scripts)
unfolding shape_of is_allowed_text_of_field
scripts_good scripts =
    let vs : Plains = plains_of_list (map (λ field. blob_or_null (script_bytes_of_field scripts field)) script_types) in
    let inside : Surroundings = surroundings_of_fields 6 around_folder (trimmed_object_or_null vs) in
    let of : List ℕ → List ℕ = script_bytes_of_field scripts in
    obj_good 6 (shapes_of (table Scripts)) 703 around_folder inside vs refl (
      text_good 601 inside (of (codes "trigger")) refl,
      (
        text_good 602 inside (of (codes "pre-install")) refl,
        (
          text_good 603 inside (of (codes "post-install")) refl,
          (
            text_good 604 inside (of (codes "pre-deinstall")) refl,
            (
              text_good 605 inside (of (codes "post-deinstall")) refl,
              (
                text_good 606 inside (of (codes "pre-upgrade")) refl,
                (text_good 607 inside (of (codes "post-upgrade")) refl, tt),
              ),
            ),
          ),
        ),
      ),
    )

triggers_good : (triggers : List (List ℕ)) → Each (IsGood text 704 around_folder) (plains_of_list (map blob_or_null triggers))
unfolding is_allowed_text_of_field
triggers_good [] = tt
triggers_good (t ∷ ts) = (text_good 704 around_folder t refl, triggers_good ts)

abbrev package_fields : Plain → List SourceFolder → List Script → List (List ℕ) → Option ℕ → Plains
package_fields info folders scripts triggers priority =
    more info (more (array_or_null (plains_of_list (map value_of_folder folders))) (more (value_of_scripts scripts)
    (more (array_or_null (plains_of_list (map blob_or_null triggers))) (more (number_or_null priority) none))))

pub package_value_good : (info : Plain) (folders : List SourceFolder) (scripts : List Script) (triggers : List (List ℕ)) (priority : Option ℕ)
    → IsGood (shape_of (Obj PkgInfo)) 701 around_folder info → AreGoodFolders folders → IsGood number 705 around_folder (number_or_null priority)
    → IsGood (shape_of (Obj Package)) 0 (surroundings_of_root Package) (value_of_package info folders scripts triggers priority)
unfolding shape_of
package_value_good info folders scripts triggers priority about named number_good =
    obj_good 7 (shapes_of (table Package)) 0 (surroundings_of_root Package) around_folder (package_fields info folders scripts triggers priority) refl (
      about,
      (
        arr_good (shape_of (Obj Dir)) 702 around_folder (plains_of_list (map value_of_folder folders)) (folders_good folders named),
        (
          scripts_good scripts,
          (
            arr_good text 704 around_folder (plains_of_list (map blob_or_null triggers)) (triggers_good triggers),
            (number_good, tt),
          ),
        ),
      ),
    )

-- ---- the folders and files of its value

pub list-plains : (vs : List Plain) → list_of (plains_of_list vs) ≡ vs
list-plains [] = refl
list-plains (v ∷ vs) = ap (λ (us : List Plain). v ∷ us) (list-plains vs)

pub folders_stand : (info : Plain) (folders : List SourceFolder) (scripts : List Script) (triggers : List (List ℕ)) (priority : Option ℕ)
    → folders_in (value_of_package info folders scripts triggers priority) ≡ map value_of_folder folders
folders_stand info folders scripts triggers priority =
    ap (λ (v : Plain). list_of (entries_in v)) (nth_obj (package_fields info folders scripts triggers priority) 1)
    ∙ (ap list_of (entries_arr (plains_of_list (map value_of_folder folders))) ∙ list-plains (map value_of_folder folders))

pub files_stand : (folder : SourceFolder) → files_in (value_of_folder folder) ≡ map value_of_file folder.files
files_stand folder =
    ap (λ (v : Plain). list_of (entries_in v)) (nth_obj (folder_fields folder) 2)
    ∙ (ap list_of (entries_arr (plains_of_list (map value_of_file folder.files))) ∙ list-plains (map value_of_file folder.files))
