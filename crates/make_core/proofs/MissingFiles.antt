-- A file that is missing is reported at the option that gives it.
use Rattle.command_core.specs.declared.values.TheConstants.{FILES, SCRIPT}
use Rattle.std.proofs.Common.{◌≡◌, ◌⊎◌, inl, inr, ℕ, ◌+◌, List, [], ◌∷◌, length, map, Option, Some, None, Result, Ok, Err, refl, ap, subst}
use Rattle.adb_copy.specs.adb_fields.FirstPair.{IsIn}
use Rattle.adb_copy.proofs.adb_fields.Members.{contains-from_in, from-map}
use Rattle.adb_view.specs.Plain.{Plain}
use Rattle.adb_copy.specs.adb_write.Canonical.{ByteAndValueCounts}
use Rattle.command_core.specs.Command.{CommandLine}
use Rattle.command_core.specs.Files.{without_one_leading_dot_slash}
use Rattle.command_core.specs.Values.{script_file, script_type}
use Rattle.command_core.specs.declared.values.OptionValue.{OptionValue}
use Rattle.make_info.specs.Information.{FieldWithValue, information}
use Rattle.make_info.specs.Reads.{Reads}
use Rattle.make_info.specs.declared.fault.MakeFault.{MakeFault}
use Rattle.make_info.specs.declared.fault.MakeFault.TheVariants.{FileMissing}
use Rattle.package_files.specs.Folders.{FolderListing, all_folders_above, folder_listings_by_tree_names, last_part_of, folder_listing_by_tree_names, tree_names_in_package_folder, path_relative_to}
use Rattle.make_core.specs.Making.{container_unless_too_large, made_package, or_info_bad, package_container, package_of_parts}
use Rattle.package_files.specs.Package.{Script, SourceFileNameAndBytes, SourceFolder}
use Rattle.package_files.specs.Sources.{results_from_read, source_file_at_place_by_read, source_folder_at_place_by_read, source_folders_of_first_option_only, found_bytes_or_missing, and_then, script_at, scripts_from_read, source_folders_at_place_from_read, source_files_at_place_from_read, values_of_letter}
use Rattle.pkg_core.specs.Contents.{Contents}
use Rattle.make_core.specs.Missing.{IsAbsent, IsPlaceOfFolderWithMissingFile, IsPlaceOfScriptOptionWithoutFile}
use Rattle.make_core.proofs.ListedNames.{filter_in, stands_in}

-- ---- the first fault of a list

-- what comes of a success that ends in a fault
data Fails {A B : Type 0} (r : Result A MakeFault) (next : A → Result B MakeFault) (fault : MakeFault) : Type 0 where
  at_first : r ≡ Err fault → Fails r next fault
  behind : (x : A) → r ≡ Ok x → next x ≡ Err fault → Fails r next fault

fails_by : {A B : Type 0} (r : Result A MakeFault) (next : A → Result B MakeFault) (fault : MakeFault) → and_then r next ≡ Err fault → Fails r next fault
fails_by (Ok x) next fault e = behind x refl e
fails_by (Err f) next fault e = let same : f ≡ fault = cc (e) in at_first (ap Err same)

-- one of the elements has it
record IsFaultOfOne {X : Type 0} (R : X → MakeFault → Type 0) (xs : List X) (fault : MakeFault) : Type 0 where
  x : X
  is_in : IsIn x xs
  is : R x fault

one_of_more : {X : Type 0} (R : X → MakeFault → Type 0) (x : X) (xs : List X) (fault : MakeFault) → IsFaultOfOne R xs fault → IsFaultOfOne R (x ∷ xs) fault
one_of_more R x xs fault one = record { x = one.x; is_in = inr one.is_in; is = one.is }

module _ {X Y : Type 0} (R : X → MakeFault → Type 0) (count : X → ℕ) (of : ℕ → X → Result Y MakeFault) (each : (n : ℕ) (x : X) (fault : MakeFault) → of n x ≡ Err fault → R x fault) where
  rest_fails : (n : ℕ) (x : X) (xs : List X) (y : Y) (fault : MakeFault) → ((f : MakeFault) → results_from_read count of (n + count x) xs ≡ Err f → IsFaultOfOne R xs f)
      → Fails (results_from_read count of (n + count x) xs) (λ ys. Ok (y ∷ ys)) fault → IsFaultOfOne R (x ∷ xs) fault
  rest_fails n x xs y fault further (at_first e) = one_of_more R x xs fault (further fault e)
  rest_fails n x xs y fault further (behind ys e f) = absurd (cc (f))

  first_fails : (n : ℕ) (x : X) (xs : List X) (fault : MakeFault) → ((f : MakeFault) → results_from_read count of (n + count x) xs ≡ Err f → IsFaultOfOne R xs f)
      → Fails (of n x) (λ y. and_then (results_from_read count of (n + count x) xs) (λ ys. Ok (y ∷ ys))) fault → IsFaultOfOne R (x ∷ xs) fault
  first_fails n x xs fault further (at_first e) = record { x = x; is_in = inl refl; is = each n x fault e }
  first_fails n x xs fault further (behind y e f) =
      rest_fails n x xs y fault further (fails_by (results_from_read count of (n + count x) xs) (λ ys. Ok (y ∷ ys)) fault f)

  each_fails : (n : ℕ) (xs : List X) (fault : MakeFault) → results_from_read count of n xs ≡ Err fault → IsFaultOfOne R xs fault
  each_fails n [] fault e = absurd (cc (e))
  each_fails n (x ∷ xs) fault e =
      first_fails n x xs fault (λ f g. each_fails (n + count x) xs f g) (fails_by (of n x) (λ y. and_then (results_from_read count of (n + count x) xs) (λ ys. Ok (y ∷ ys))) fault e)

-- ---- one file

-- the fault says that a read finds nothing under the name, and at which place that is reported
abbrev IsMissingAt : Reads → ℕ → List ℕ → MakeFault → Type 0
IsMissingAt read place name fault = (fault ≡ FileMissing place) × IsAbsent read name

missing_by : {A : Type 0} (read : Reads) (place n : ℕ) (name : List ℕ) (found : Option (List ℕ)) (next : List ℕ → Result A MakeFault) (fault : MakeFault) → read n name ≡ found → ((bytes : List ℕ) → next bytes ≡ Err fault → ⊥)
    → and_then (found_bytes_or_missing place found) next ≡ Err fault → IsMissingAt read place name fault
missing_by read place n name None next fault is never e = let same : fault ≡ FileMissing place = cc (e) in (same, (n, is))
missing_by read place n name (Some bytes) next fault is never e = absurd (never bytes e)

abbrev script_name : OptionValue → List ℕ
script_name v = without_one_leading_dot_slash (script_file v.text)

script_fails : (read : Reads) (n : ℕ) (v : OptionValue) (fault : MakeFault) → script_at read n v ≡ Err fault → IsMissingAt read v.place (script_name v) fault
script_fails read n v fault e =
    missing_by read v.place n (script_name v) (read n (script_name v)) (λ bytes. let script : Script = record { field = script_type v.text; bytes = bytes } in Ok script) fault refl (λ bytes f. cc (f)) e

file_fails : (place : ℕ) (read : Reads) (n : ℕ) (name : List ℕ) (fault : MakeFault) → source_file_at_place_by_read place read n name ≡ Err fault → IsMissingAt read place name fault
file_fails place read n name fault e =
    missing_by read place n name (read n name) (λ bytes. let file : SourceFileNameAndBytes = record { name = last_part_of name; bytes = bytes } in Ok file) fault refl (λ bytes f. cc (f)) e

-- ---- the files below a folder

abbrev IsMissingIn : Reads → ℕ → FolderListing → MakeFault → Type 0
IsMissingIn read place folder fault = IsFaultOfOne (IsMissingAt read place) folder.files fault

files_fail : (place : ℕ) (read : Reads) (n : ℕ) (folder : FolderListing) (fault : MakeFault)
    → Fails (source_files_at_place_from_read place read n folder.files) (λ files. let source : SourceFolder = record { name = folder.name; files = files } in Ok source) fault → IsMissingIn read place folder fault
files_fail place read n folder fault (at_first e) = each_fails (IsMissingAt read place) (λ name. 1) (source_file_at_place_by_read place read) (file_fails place read) n folder.files fault e
files_fail place read n folder fault (behind files e f) = absurd (cc (f))

folder_fails : (place : ℕ) (read : Reads) (n : ℕ) (folder : FolderListing) (fault : MakeFault) → source_folder_at_place_by_read place read n folder ≡ Err fault → IsMissingIn read place folder fault
folder_fails place read n folder fault e =
    files_fail place read n folder fault (fails_by (source_files_at_place_from_read place read n folder.files) (λ files. let source : SourceFolder = record { name = folder.name; files = files } in Ok source) fault e)

-- one of the names below the folder is missing
record IsMissingBelow (read : Reads) (place : ℕ) (names : List (List ℕ)) (fault : MakeFault) : Type 0 where
  name : List ℕ
  listed : IsIn name names
  is : IsMissingAt read place name fault

below_fails : (read : Reads) (place n : ℕ) (dir : List ℕ) (names : List (List ℕ)) (fault : MakeFault) → source_folders_at_place_from_read place read n (folder_listings_by_tree_names dir names) ≡ Err fault → IsMissingBelow read place names fault
unfolding folder_listings_by_tree_names
below_fails read place n dir names fault e =
    let one = each_fails (IsMissingIn read place) (λ (folder : FolderListing). length folder.files) (source_folder_at_place_by_read place read) (folder_fails place read) n (map (folder_listing_by_tree_names dir names) (all_folders_above (map (path_relative_to dir) names))) fault e in
    let listing = from-map (folder_listing_by_tree_names dir names) one.x (all_folders_above (map (path_relative_to dir) names)) one.is_in in
    let file = one.is in
    let here : IsIn file.x (tree_names_in_package_folder dir names listing.0) = subst (λ (l : FolderListing). IsIn file.x l.files) listing.2 file.is_in in
    record { name = file.x; listed = (filter_in (stands_in dir listing.0) file.x names here).0; is = file.is }

-- ---- of a command

missing_place : (a b : ℕ) → FileMissing a ≡ FileMissing b → b ≡ a
missing_place a b e = let same : b ≡ a = cc (e) in same

script_is_missing : (read : Reads) (scripts : List OptionValue) (place : ℕ) → scripts_from_read read 0 scripts ≡ Err (FileMissing place) → IsPlaceOfScriptOptionWithoutFile read scripts place
script_is_missing read scripts place e =
    let one = each_fails (λ (v : OptionValue). IsMissingAt read v.place (script_name v)) (λ v. 1) (script_at read) (script_fails read) 0 scripts (FileMissing place) e in
    record { script = one.x; given = contains-from_in one.x scripts one.is_in; at = missing_place place one.x.place one.is.0; absent = one.is.1 }

file_is_missing : (read : Reads) (n : ℕ) (folders : List OptionValue) (names : List (List ℕ)) (place : ℕ) → source_folders_of_first_option_only read n folders names ≡ Err (FileMissing place) → IsPlaceOfFolderWithMissingFile read folders names place
file_is_missing read n [] names place e = absurd (cc (e))
file_is_missing read n (folder ∷ others) names place e =
    let one = below_fails read folder.place n (without_one_leading_dot_slash folder.text) names (FileMissing place) e in
    record { folder = folder; others = others; given = refl; at = missing_place place folder.place one.is.0; name = one.name; listed = contains-from_in one.name names one.listed; absent = one.is.1 }

abbrev IsMissing : Reads → CommandLine → List (List ℕ) → ℕ → Type 0
IsMissing read command names place =
    IsPlaceOfScriptOptionWithoutFile read (values_of_letter SCRIPT command.values) place ⊎ IsPlaceOfFolderWithMissingFile read (values_of_letter FILES command.values) names place

container_by : (o : Option ByteAndValueCounts) (v : Plain) (contents : List Contents) (place : ℕ) → container_unless_too_large o v contents ≡ Err (FileMissing place) → ⊥
container_by None v contents place e = cc (e)
container_by (Some counts) v contents place e = cc (e)

packed_never : (command : CommandLine) (scripts : List Script) (items : List FieldWithValue) (sources : List SourceFolder) (place : ℕ) → package_of_parts command scripts items sources ≡ Err (FileMissing place) → ⊥
unfolding package_container
packed_never command scripts items sources place e = container_by _ _ _ place e

info_never : (r : Result (List FieldWithValue) ℕ) (place : ℕ) → or_info_bad r ≡ Err (FileMissing place) → ⊥
info_never (Ok items) place e = cc (e)
info_never (Err at) place e = cc (e)

module _ (command : CommandLine) (names : List (List ℕ)) (read : Reads) (place : ℕ) where
  at_files : (scripts : List Script) (items : List FieldWithValue) → Fails (source_folders_of_first_option_only read (length scripts) (values_of_letter FILES command.values) names) (package_of_parts command scripts items) (FileMissing place) → IsMissing read command names place
  at_files scripts items (at_first e) = inr (file_is_missing read (length scripts) (values_of_letter FILES command.values) names place e)
  at_files scripts items (behind sources e f) = absurd (packed_never command scripts items sources place f)

  at_information : (scripts : List Script)
      → Fails (or_info_bad (information command)) (λ about. and_then (source_folders_of_first_option_only read (length scripts) (values_of_letter FILES command.values) names) (package_of_parts command scripts about)) (FileMissing place) → IsMissing read command names place
  at_information scripts (at_first e) = absurd (info_never (information command) place e)
  at_information scripts (behind items e f) = at_files scripts items (fails_by (source_folders_of_first_option_only read (length scripts) (values_of_letter FILES command.values) names) (package_of_parts command scripts items) (FileMissing place) f)

  at_scripts : Fails (scripts_from_read read 0 (values_of_letter SCRIPT command.values)) (λ scripts.
      and_then (or_info_bad (information command)) (λ about. and_then (source_folders_of_first_option_only read (length scripts) (values_of_letter FILES command.values) names) (package_of_parts command scripts about))) (FileMissing place) → IsMissing read command names place
  at_scripts (at_first e) = inl (script_is_missing read (values_of_letter SCRIPT command.values) place e)
  at_scripts (behind scripts e f) =
      at_information scripts (fails_by (or_info_bad (information command)) (λ about. and_then (source_folders_of_first_option_only read (length scripts) (values_of_letter FILES command.values) names) (package_of_parts command scripts about)) (FileMissing place) f)

pub made_missing : (command : CommandLine) (names : List (List ℕ)) (read : Reads) (place : ℕ) → made_package command names read ≡ Err (FileMissing place) → IsMissing read command names place
unfolding made_package
made_missing command names read place e =
    at_scripts command names read place (fails_by (scripts_from_read read 0 (values_of_letter SCRIPT command.values)) (λ scripts.
    and_then (or_info_bad (information command)) (λ about. and_then (source_folders_of_first_option_only read (length scripts) (values_of_letter FILES command.values) names) (package_of_parts command scripts about))) (FileMissing place) e)
