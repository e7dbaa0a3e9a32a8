-- A package that is too large is refused with its counts.
use Rattle.command_core.specs.declared.values.TheConstants.{FILES, SCRIPT, TRIGGER}
use Rattle.std.proofs.Common.{◌≡◌, ◌⊎◌, inl, inr, ◌∙◌, ℕ, ◌+◌, List, [], ◌∷◌, length, Option, Some, None, Result, Ok, Err, refl, ap}
use Rattle.outcome.specs.adb_sound.Container.{package_with_contents_from_parts}
use Rattle.adb_view.specs.Plain.{Plain}
use Rattle.outcome.specs.adb_write.Canonical.{ByteAndValueCounts, counts_at_first_overflow}
use Rattle.command_core.specs.Command.{CommandLine}
use Rattle.command_core.specs.Files.{without_one_leading_dot_slash}
use Rattle.command_core.specs.Values.{script_file, script_type}
use Rattle.command_core.specs.declared.values.OptionValue.{OptionValue}
use Rattle.outcome.specs.make_core.ReadBack.{packed_of_parts, package_with_contents_of_command}
use Rattle.outcome.specs.make_info.Information.{FieldWithValue, information, information_value_with_installed_size, replaces_priority}
use Rattle.outcome.specs.make_info.Reads.{Reads}
use Rattle.outcome.specs.make_info.declared.fault.MakeFault.{MakeFault}
use Rattle.outcome.specs.make_info.declared.fault.MakeFault.TheVariants.{TooLarge}
use Rattle.outcome.specs.package_files.Folders.{FolderListing, folder_listings_by_tree_names}
use Rattle.outcome.specs.make_core.Making.{container_unless_too_large, made_package, or_info_bad, package_container, package_of_parts}
use Rattle.outcome.specs.package_files.Package.{Script, SourceFileNameAndBytes, SourceFolder, contents_of_folders, installed_size, value_of_package}
use Rattle.outcome.specs.package_files.Sources.{results_from_read, source_file_at_place_by_read, source_folder_at_place_by_read, source_folders_of_first_option_only, found_bytes_or_missing, and_then, script_at, script_with, scripts_from_read, source_file_named_by_last_part, source_files_at_place_from_read, texts_of, values_of_letter}
use Rattle.outcome.specs.pkg_core.Contents.{Contents}
use Rattle.refusal_laws.specs.MadeTooLarge.{IsPackageToBeMadeTooLargeFirstAtCounts}
use Rattle.refusal_laws.proofs.ChangeFaults.{too_large}

-- ---- nothing that is read is too large

success_err : {A B : Type 0} (a : Result A MakeFault) (next : A → Result B MakeFault) (fault : MakeFault) → and_then a next ≡ Err fault → (a ≡ Err fault) ⊎ ((x : A) × (a ≡ Ok x) × (next x ≡ Err fault))
success_err (Ok x) next fault e = inr (x, refl, e)
success_err (Err first) next fault e = inl (let same : first ≡ fault = cc in ap (λ (f : MakeFault). Err f) same)

no_fault : {A : Type 0} (a : A) (fault : MakeFault) → Ok a ≡ Err fault → ⊥
no_fault a fault e = cc (e)

module _ (bytes values : ℕ) where
  abbrev IsNever : {A : Type 0} → Result A MakeFault → Type 0
  IsNever r = r ≡ Err (TooLarge bytes values) → ⊥

  each_never : {X Y : Type 0} (count : X → ℕ) (of : ℕ → X → Result Y MakeFault) → ((n : ℕ) (x : X) → IsNever (of n x)) → (n : ℕ) (xs : List X) → IsNever (results_from_read count of n xs)
  each_never count of never n [] e = cc (e)
  each_never count of never n (x ∷ xs) e =
      elim (success_err (of n x) (λ y. and_then (results_from_read count of (n + count x) xs) (λ ys. Ok (y ∷ ys))) (TooLarge bytes values) e) [
        | inl first ↦ never n x first
        | inr next ↦ elim (success_err (results_from_read count of (n + count x) xs) (λ ys. Ok (next.0 ∷ ys)) (TooLarge bytes values) next.2) [
          | inl others ↦ each_never count of never (n + count x) xs others
          | inr last ↦ no_fault (next.0 ∷ last.0) (TooLarge bytes values) last.2
        ]
      ]

  found_never : {A : Type 0} (place : ℕ) (found : Option (List ℕ)) (next : List ℕ → A) → IsNever (and_then (found_bytes_or_missing place found) (λ b. Ok (next b)))
  found_never place None next e = cc (e)
  found_never place (Some b) next e = cc (e)

  script_never : (read : Reads) (n : ℕ) (v : OptionValue) → IsNever (script_at read n v)
  script_never read n v e = found_never v.place (read n (without_one_leading_dot_slash (script_file v.text))) (λ b. script_with (script_type v.text) b) e

  folder_never : (place : ℕ) (read : Reads) (n : ℕ) (folder : FolderListing) → IsNever (source_folder_at_place_by_read place read n folder)
  folder_never place read n folder e =
      elim (success_err (source_files_at_place_from_read place read n folder.files) (λ files. with_files files) (TooLarge bytes values) e) [
        | inl first ↦ each_never (λ name. 1) (source_file_at_place_by_read place read) (λ m name f. found_never place (read m name) (λ b. source_file_named_by_last_part name b) f) n folder.files first
        | inr last ↦ no_fault (source_folder last.0) (TooLarge bytes values) last.2
      ]
    where
      source_folder : List SourceFileNameAndBytes → SourceFolder
      source_folder files = record { name = folder.name; files = files }

      with_files : List SourceFileNameAndBytes → Result SourceFolder MakeFault
      with_files files = Ok (source_folder files)

  folders_never : (read : Reads) (n : ℕ) (vs : List OptionValue) (names : List (List ℕ)) → IsNever (source_folders_of_first_option_only read n vs names)
  folders_never read n [] names e = cc (e)
  folders_never read n (v ∷ vs) names e =
      each_never (λ (folder : FolderListing). length folder.files) (source_folder_at_place_by_read v.place read) (folder_never v.place read) n (folder_listings_by_tree_names (without_one_leading_dot_slash v.text) names) e

  info_never : (r : Result (List FieldWithValue) ℕ) → IsNever (or_info_bad r)
  info_never (Ok items) e = cc (e)
  info_never (Err place) e = cc (e)

  -- ---- what is written

  counts_of : (o : Option ByteAndValueCounts) (v : Plain) (contents : List Contents) → container_unless_too_large o v contents ≡ Err (TooLarge bytes values) → o ≡ Some (bytes, values)
  counts_of None v contents e = absurd (cc (e))
  counts_of (Some counts) v contents e =
      let same : TooLarge counts.0 counts.1 ≡ TooLarge bytes values = cc in
      let first : counts.0 ≡ bytes = cc in
      let second : counts.1 ≡ values = cc in
      λ j. Some (first j, second j)

  container_counts : (v : Plain) (contents : List Contents) → package_container v contents ≡ Err (TooLarge bytes values) → counts_at_first_overflow v ≡ Some (bytes, values)
  unfolding package_container
  container_counts v contents e = counts_of (counts_at_first_overflow v) v contents e

  pub made_too_large : (command : CommandLine) (names : List (List ℕ)) (read : Reads) → made_package command names read ≡ Err (TooLarge bytes values) → IsPackageToBeMadeTooLargeFirstAtCounts command names read bytes values
  unfolding made_package
  made_too_large command names read e =
      elim (success_err scripts then_scripts (TooLarge bytes values) e) [
        | inl first ↦ absurd (each_never (λ v. 1) (script_at read) (script_never read) 0 (values_of_letter SCRIPT command.values) first)
        | inr one ↦ elim (success_err (or_info_bad (information command)) (then_about one.0) (TooLarge bytes values) one.2) [
          | inl second ↦ absurd (info_never (information command) second)
          | inr two ↦ elim (success_err (source_folders_of_first_option_only read (length one.0) (values_of_letter FILES command.values) names) (package_of_parts command one.0 two.0) (TooLarge bytes values) two.2) [
            | inl third ↦ absurd (folders_never read (length one.0) (values_of_letter FILES command.values) names third)
            | inr three ↦ record {
              packed = package_with_contents_from_parts (value_of one.0 two.0 three.0) (contents_of_folders 1 three.0);
              is_packed = packed_is one.0 two.0 three.0 one.1 two.1 three.1;
              passes = too_large (value_of one.0 two.0 three.0) (bytes, values) (container_counts (value_of one.0 two.0 three.0) (contents_of_folders 1 three.0) three.2);
            }
          ]
        ]
      ]
    where
      scripts : Result (List Script) MakeFault
      scripts = scripts_from_read read 0 (values_of_letter SCRIPT command.values)

      then_about : List Script → List FieldWithValue → Result (List ℕ) MakeFault
      then_about found about = and_then (source_folders_of_first_option_only read (length found) (values_of_letter FILES command.values) names) (package_of_parts command found about)

      then_scripts : List Script → Result (List ℕ) MakeFault
      then_scripts found = and_then (or_info_bad (information command)) (then_about found)

      value_of : List Script → List FieldWithValue → List SourceFolder → Plain
      value_of found about folders =
          value_of_package (information_value_with_installed_size about (installed_size folders)) folders found (texts_of (values_of_letter TRIGGER command.values)) (replaces_priority about)

      packed_is : (found : List Script) (about : List FieldWithValue) (folders : List SourceFolder) → scripts ≡ Ok found → or_info_bad (information command) ≡ Ok about
          → source_folders_of_first_option_only read (length found) (values_of_letter FILES command.values) names ≡ Ok folders → package_with_contents_of_command command names read ≡ Ok (package_with_contents_from_parts (value_of found about folders) (contents_of_folders 1 folders))
      packed_is found about folders s a f =
          ap (λ (x : Result (List Script) MakeFault). and_then x (λ scripts.
          and_then (or_info_bad (information command)) (λ about.
          and_then (source_folders_of_first_option_only read (length scripts) (values_of_letter FILES command.values) names) (packed_of_parts command scripts about)))) s
          ∙ (ap (λ (x : Result (List FieldWithValue) MakeFault). and_then x (λ about.
          and_then (source_folders_of_first_option_only read (length found) (values_of_letter FILES command.values) names) (packed_of_parts command found about))) a
          ∙ ap (λ (x : Result (List SourceFolder) MakeFault). and_then x (packed_of_parts command found about)) f)
