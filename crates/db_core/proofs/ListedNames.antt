-- What a package lists are names, of which a database has none that is reserved.
use Rattle.std.proofs.Common.{◌≡◌, ℕ, suc, zero, ◌+◌, ◌<◌, Bool, true, false, cond, List, [], ◌∷◌, ◌++◌, map, length, get_or, Option, Some, None, Result, Ok, Err, refl, ap, sym, ◌∙◌, subst, arith, true≢false}
use Rattle.std.specs.Prelude.{◌&&◌, ◌||◌, ◌==◌, not, nat_le, nat_lt, if◌then◌else◌, is_ok, slice_get, All}
use Rattle.std.specs.Str.{IsUtf8, is_utf8}
use Rattle.std.specs.List.{flat_map, list_all, list_any}
use Rattle.std.proofs.lemmas.Bool.{and_parts, lt-ltb, not-true, and_from}
use Rattle.std.proofs.lemmas.List.{length-append}
use Rattle.std.proofs.lemmas.List.Folds.{list_all-append, list_all-map, list_any-append}
use Rattle.std.proofs.lemmas.Str.{IsUtf8-append, IsUtf8-from_ascii, IsUtf8-from_is_utf8, is_utf8-from_IsUtf8}
use Rattle.std.proofs.lemmas.Str.Ascii.{IsAscii-cons, IsAscii-nil}
use Rattle.base_core.specs.Name.{IsName, is_name, is_path_part, path_parts_of}
use Rattle.base_core.proofs.NameParts.{split_slash}
use Rattle.adb_view.specs.Plain.{Plain, Plains, none, more}
use Rattle.adb_view.specs.Shaped.{Each}
use Rattle.adb_view.specs.Values.{entries_in, entry_at_index}
use Rattle.adb_view.specs.declared.tables.Which.{Which}
use Rattle.adb_view.specs.declared.tables.Which.TheVariants.{Idb}
use Rattle.pkg_core.specs.adb_fields.Paths.{path_of}
use Rattle.pkg_core.specs.adb_fields.Repeated.{files_in, folders_in, list_of, name_of, paths_of_package_files, paths_of_folder_files}
use Rattle.pkg_core.specs.adb_schema.Reserved.{is_reserved}
use Rattle.pkg_core.specs.adb_schema.Rules.{is_valid_file_name_in_folder, is_folder_name, is_one_part}
use Rattle.pkg_core.specs.adb_schema.SoundValues.{ObeysTextAndNumberRulesOfFileInFolder, ObeysTextAndNumberRulesOfFolder, ObeysTextAndNumberRulesOfPackage}
use Rattle.db_core.specs.EntrySeen.{member_of_entry}
use Rattle.db_core.specs.Members.{Member, is_added, listings_of_member, listings_of_members_from, listings_from_member_folder_file_places, listings_in_folders_from, listings_of_members, member_of_kept}
use Rattle.db_core.specs.Packages.{is_added_or_lists_no_reserved, lists_only_valid_names, lists_no_reserved_path}

-- ---- a name behind another one and a slash

none_true : (x y z : Bool) → not x ≡ true → y ≡ false → not z ≡ true → not (x || (y || z)) ≡ true
none_true true y z e s f = e
none_true false true z e s f = absurd (true≢false s)
none_true false false z e s f = f

utf8_joined : (a b : List ℕ) → is_utf8 a ≡ true → is_utf8 b ≡ true → is_utf8 (a ++ 47 ∷ b) ≡ true
utf8_joined a b e f =
    let slash : IsUtf8 (47 ∷ []) = IsUtf8-from_ascii (47 ∷ []) (IsAscii-cons 47 [] (omega arith) IsAscii-nil) in
    is_utf8-from_IsUtf8 (a ++ 47 ∷ b) (IsUtf8-append a (47 ∷ b) (IsUtf8-from_is_utf8 a e) (IsUtf8-append (47 ∷ []) b slash (IsUtf8-from_is_utf8 b f)))

joined_name : (a b : List ℕ) → is_name a ≡ true → is_name b ≡ true → nat_le (length (a ++ 47 ∷ b)) 1024 ≡ true → is_name (a ++ 47 ∷ b) ≡ true
unfolding is_name
joined_name a b first second short =
    let a1 = and_parts _ (list_all is_path_part (path_parts_of a)) first in
    let a2 = and_parts _ (is_utf8 a) a1.0 in
    let a3 = and_parts _ (not (list_any (λ x. x == 0) a)) a2.0 in
    let b1 = and_parts _ (list_all is_path_part (path_parts_of b)) second in
    let b2 = and_parts _ (is_utf8 b) b1.0 in
    let b3 = and_parts _ (not (list_any (λ x. x == 0) b)) b2.0 in
    and_from _ (list_all is_path_part (path_parts_of (a ++ 47 ∷ b)))
    (and_from _ (is_utf8 (a ++ 47 ∷ b))
    (and_from _ (not (list_any (λ x. x == 0) (a ++ 47 ∷ b)))
    (and_from (nat_lt 0 (length (a ++ 47 ∷ b))) (nat_le (length (a ++ 47 ∷ b)) 1024) (lt-ltb 0 (length (a ++ 47 ∷ b)) (omega (arith, length-append a (47 ∷ b)))) short)
    (ap not (list_any-append (λ x. x == 0) a (47 ∷ b)) ∙ none_true (list_any (λ x. x == 0) a) (47 == 0) (list_any (λ x. x == 0) b) a3.1 refl b3.1))
    (utf8_joined a b a2.1 b2.1))
    (ap (list_all is_path_part) (split_slash a b) ∙ (list_all-append is_path_part (path_parts_of a) (path_parts_of b) ∙ and_from (list_all is_path_part (path_parts_of a)) (list_all is_path_part (path_parts_of b)) a1.1 b1.1))

path_named : (folder name : List ℕ) → is_folder_name folder ≡ true → is_valid_file_name_in_folder folder name ≡ true → is_name (path_of folder name) ≡ true
path_named [] name h file = (and_parts (is_name name) (not (list_any (λ b. b == 47) name)) (and_parts (is_one_part name) (nat_le (length (path_of [] name)) 1024) file).0).0
path_named (b ∷ folder) name h file =
    let parts = and_parts (is_one_part name) (nat_le (length (path_of (b ∷ folder) name)) 1024) file in
    joined_name (b ∷ folder) name h (and_parts (is_name name) (not (list_any (λ b. b == 47) name)) parts.0).0 parts.1

-- ---- the paths of a package that keeps the rules

module _ (p : List ℕ → Bool) (root : Which)
    (file_passes : (folder : List ℕ) (v : Plain) → is_folder_name folder ≡ true → ObeysTextAndNumberRulesOfFileInFolder root folder v → p (path_of folder (name_of v)) ≡ true) where
  files_pass : (folder : List ℕ) → is_folder_name folder ≡ true → (vs : Plains) → Each (ObeysTextAndNumberRulesOfFileInFolder root folder) vs → list_all p (map (λ file. path_of folder (name_of file)) (list_of vs)) ≡ true
  files_pass folder h none each = refl
  files_pass folder h (more v vs) each = and_from (p (path_of folder (name_of v))) _ (file_passes folder v h each.0) (files_pass folder h vs each.1)

  folders_pass : (vs : Plains) → Each (ObeysTextAndNumberRulesOfFolder root) vs → list_all p (flat_map paths_of_folder_files (list_of vs)) ≡ true
  folders_pass none each = refl
  folders_pass (more v vs) each =
      list_all-append p (paths_of_folder_files v) (flat_map paths_of_folder_files (list_of vs))
      ∙ and_from (list_all p (paths_of_folder_files v)) (list_all p (flat_map paths_of_folder_files (list_of vs)))
      (files_pass (name_of v) each.0.name (entries_in (entry_at_index v 2)) each.0.files)
      (folders_pass vs each.1)

  package_passes : (v : Plain) → ObeysTextAndNumberRulesOfPackage root v → list_all p (paths_of_package_files v) ≡ true
  package_passes v is = folders_pass (entries_in (entry_at_index v 1)) is.folders

  packages_pass : (vs : Plains) → Each (ObeysTextAndNumberRulesOfPackage root) vs → list_all (λ v. list_all p (paths_of_package_files v)) (list_of vs) ≡ true
  packages_pass none each = refl
  packages_pass (more v vs) each = and_from (list_all p (paths_of_package_files v)) (list_all (λ v. list_all p (paths_of_package_files v)) (list_of vs)) (package_passes v each.0) (packages_pass vs each.1)

file_named : (root : Which) (folder : List ℕ) (v : Plain) → is_folder_name folder ≡ true → ObeysTextAndNumberRulesOfFileInFolder root folder v → is_name (path_of folder (name_of v)) ≡ true
file_named root folder v h file = path_named folder (name_of v) h file.name

pub package_lists_names : (root : Which) (v : Plain) → ObeysTextAndNumberRulesOfPackage root v → lists_only_valid_names v ≡ true
package_lists_names root v is = package_passes is_name root (file_named root) v is

pub packages_list_names : (root : Which) (vs : Plains) → Each (ObeysTextAndNumberRulesOfPackage root) vs → list_all lists_only_valid_names (list_of vs) ≡ true
packages_list_names root vs each = packages_pass is_name root (file_named root) vs each

-- in a database none is reserved
pub packages_list_no_reserved : (vs : Plains) → Each (ObeysTextAndNumberRulesOfPackage Idb) vs → list_all lists_no_reserved_path (list_of vs) ≡ true
packages_list_no_reserved vs each = packages_pass (λ path. not (is_reserved path)) Idb (λ folder v h file. file.listed) vs each

-- ---- of a database and of members

abbrev is_one : {X : Type 0} → Option X → Bool
is_one None = false
is_one (Some x) = true

abbrev value_or : {X : Type 0} → X → Option X → X
value_or d None = d
value_or d (Some x) = x

pub named_at : {X : Type 0} (p : X → Bool) (xs : List X) (i : ℕ) (x : X) → slice_get xs i ≡ Some x → list_all p xs ≡ true → p x ≡ true
named_at p [] i x at all = absurd (true≢false (sym (ap is_one at)))
named_at p (y ∷ ys) zero x at all = subst (λ z. p z ≡ true) (ap (value_or y) at) (and_parts (p y) (list_all p ys) all).0
named_at p (y ∷ ys) (suc i) x at all = named_at p ys i x at (and_parts (p y) (list_all p ys) all).1

passes_at : {X : Type 0} (p : X → Bool) (xs : List X) → list_all p xs ≡ true → (k : ℕ) (d : X) → k < length xs → p (get_or xs k d) ≡ true
passes_at p [] all k d l = absurd (omega arith)
passes_at p (x ∷ xs) all zero d l = (and_parts (p x) (list_all p xs) all).0
passes_at p (x ∷ xs) all (suc k) d l = passes_at p xs (and_parts (p x) (list_all p xs) all).1 k d (omega arith)

module _ (q : Member → List ℕ → Bool) where
  in_folder : (m : Member) (place folder i : ℕ) (above : List ℕ) (entries : List Plain)
      → list_all (λ l. q l.member l.path) (listings_from_member_folder_file_places m place folder i above entries) ≡ list_all (q m) (map (λ file. path_of above (name_of file)) entries)
  in_folder m place folder i above [] = refl
  in_folder m place folder i above (e ∷ es) = ap (λ b. q m (path_of above (name_of e)) && b) (in_folder m place folder (i + 1) above es)

  in_folders : (m : Member) (place i : ℕ) (folders : List Plain) → list_all (λ l. q l.member l.path) (listings_in_folders_from m place i folders) ≡ list_all (q m) (flat_map paths_of_folder_files folders)
  in_folders m place i [] = refl
  in_folders m place i (f ∷ fs) =
      list_all-append (λ l. q l.member l.path) (listings_from_member_folder_file_places m place i 1 (name_of f) (files_in f)) (listings_in_folders_from m place (i + 1) fs)
      ∙ ((λ j. in_folder m place i 1 (name_of f) (files_in f) j && in_folders m place (i + 1) fs j)
      ∙ sym (list_all-append (q m) (paths_of_folder_files f) (flat_map paths_of_folder_files fs)))

  in_members : (place : ℕ) (ms : List Member) → list_all (λ l. q l.member l.path) (listings_of_members_from place ms) ≡ list_all (λ m. list_all (q m) (paths_of_package_files m.pkg)) ms
  in_members place [] = refl
  in_members place (m ∷ ms) =
      list_all-append (λ l. q l.member l.path) (listings_of_member place m) (listings_of_members_from (place + 1) ms)
      ∙ (λ j. in_folders m place 1 (folders_in m.pkg) j && in_members (place + 1) ms j)

  all_pass : (ms : List Member) → list_all (λ m. list_all (q m) (paths_of_package_files m.pkg)) ms ≡ true → All (λ l. q l.member l.path ≡ true) (listings_of_members ms)
  unfolding listings_of_members
  all_pass ms h k d l = passes_at (λ l. q l.member l.path) (listings_of_members_from 0 ms) (in_members 0 ms ∙ h) k d l

packages_all_pass : (p : List ℕ → Bool) (pkgs : List Plain) → list_all (λ v. list_all p (paths_of_package_files v)) pkgs ≡ true → All (λ l. p l.path ≡ true) (listings_of_members (map member_of_kept pkgs))
packages_all_pass p pkgs h = all_pass (λ m. p) (map member_of_kept pkgs) (list_all-map (λ (m : Member). list_all p (paths_of_package_files m.pkg)) member_of_kept pkgs ∙ h)

pub packages_named : (pkgs : List Plain) → list_all lists_only_valid_names pkgs ≡ true → All (λ l. IsName l.path) (listings_of_members (map member_of_kept pkgs))
packages_named pkgs h = packages_all_pass is_name pkgs h

pub packages_unreserved : (pkgs : List Plain) → list_all lists_no_reserved_path pkgs ≡ true → All (λ l. is_reserved l.path ≡ false) (listings_of_members (map member_of_kept pkgs))
packages_unreserved pkgs h k d l = not-true (is_reserved (get_or (listings_of_members (map member_of_kept pkgs)) k d).path) (packages_all_pass (λ path. not (is_reserved path)) pkgs h k d l)

abbrev pub Kept : Type 0
Kept = List ℕ × ℕ × Option (List ℕ)

pub members_named : (es : List Kept) → list_all (λ e. lists_only_valid_names (member_of_entry e).pkg) es ≡ true → All (λ l. IsName l.path) (listings_of_members (map member_of_entry es))
members_named es h = all_pass (λ m. is_name) (map member_of_entry es) (list_all-map (λ (m : Member). lists_only_valid_names m.pkg) member_of_entry es ∙ h)

pub passed_more : (p : Kept → Bool) {A B : Type 0} (r : Result A B) (es new : List Kept) (e : Kept) → new ≡ (if is_ok r then es ++ e ∷ [] else es) → list_all p es ≡ true → p e ≡ true → list_all p new ≡ true
passed_more p (Ok x) es new e is all one =
    ap (list_all p) is ∙ (list_all-append p es (e ∷ []) ∙ and_from (list_all p es) (p e && true) all (and_from (p e) true one refl))
passed_more p (Err x) es new e is all one = ap (list_all p) is ∙ all

-- ---- what stays lists no reserved path

either : (a b : Bool) → (a || b) ≡ true → a ≡ false → b ≡ true
either true b h off = absurd (true≢false off)
either false b h off = h

comes_or_free : Member → List ℕ → Bool
comes_or_free m path = is_added m || not (is_reserved path)

paths_free : (b : Bool) (paths : List (List ℕ)) → (b || list_all (λ path. not (is_reserved path)) paths) ≡ true → list_all (λ path. b || not (is_reserved path)) paths ≡ true
paths_free true [] h = refl
paths_free true (path ∷ paths) h = paths_free true paths h
paths_free false paths h = h

members_free : (ms : List Member) → list_all is_added_or_lists_no_reserved ms ≡ true → list_all (λ m. list_all (comes_or_free m) (paths_of_package_files m.pkg)) ms ≡ true
unfolding comes_or_free
members_free [] h = refl
members_free (m ∷ ms) h =
    let parts = and_parts (is_added_or_lists_no_reserved m) (list_all is_added_or_lists_no_reserved ms) h in
    and_from _ _ (paths_free (is_added m) (paths_of_package_files m.pkg) parts.0) (members_free ms parts.1)

pub stays_unreserved : (es : List Kept) → list_all (λ e. is_added_or_lists_no_reserved (member_of_entry e)) es ≡ true → All (λ l. is_added l.member ≡ false → is_reserved l.path ≡ false) (listings_of_members (map member_of_entry es))
unfolding comes_or_free
stays_unreserved es h k d l stays =
    not-true _ (either _ _ (all_pass comes_or_free (map member_of_entry es) (members_free (map member_of_entry es) (list_all-map is_added_or_lists_no_reserved member_of_entry es ∙ h)) k d l) stays)
