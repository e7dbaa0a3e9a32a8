-- Of what a package is made, by what is read back of it.
use Rattle.command_core.specs.declared.values.TheConstants.{FILES, SCRIPT, TRIGGER}
use Rattle.std.proofs.Common.{◌≡◌, ℕ, ◌^◌, ◌<◌, List, [], ◌∷◌, length, map, Ok, refl, ap, sym, ◌∙◌}
use Rattle.make_core.specs.adb_fields.Repeated.{folders_in, list_of}
use Rattle.make_core.specs.adb_sound.Container.{package_with_contents_from_parts}
use Rattle.adb_view.specs.Values.{entries_in, entry_at_index, text_in}
use Rattle.adb_view.proofs.ValueEntries.{entries_arr, nth_obj, text_blob}
use Rattle.adb_view.specs.Plain.{Plain, blob_or_null}
use Rattle.command_core.specs.Command.{CommandLine}
use Rattle.make_core.specs.make_info.Information.{FieldWithValue, information_value_with_installed_size, information, replaces_priority}
use Rattle.make_core.specs.make_info.Reads.{Reads}
use Rattle.make_core.specs.make_info.Values.{number_or_null, plains_of_list}
use Rattle.make_core.specs.Making.{made_package, or_info_bad}
use Rattle.make_core.specs.package_files.Package.{Script, SourceFolder, contents_of_folders, installed_size, package_fields, value_of_folder, value_of_package, value_of_scripts}
use Rattle.make_core.specs.package_files.Sources.{AreSortedAndEachBelowFirstFolder, source_folders_of_first_option_only, and_then, scripts_from_read, texts_of, values_of_letter}
use Rattle.make_core.specs.ReadBack.{packed_of_parts, package_with_contents_of_command}
use Rattle.make_core.proofs.ListedNames.{after_ok}
use Rattle.make_core.proofs.PackageFiles.{folders_stand, list-plains}
use Rattle.make_core.specs.pkg_core.Whole.{PackageWithContents, package_with_contents}
use Rattle.definition_laws.specs.making.MadePackages.{HasTriggersOfOptionsInOrder, IsMadePackage, package_in_container}

-- what a package that is made is read back as
abbrev pub ReadsBack : Type 0
ReadsBack = (command : CommandLine) (names : List (List ℕ)) (read : Reads) (bytes : List ℕ) → AreSortedAndEachBelowFirstFolder (values_of_letter FILES command.values) names → made_package command names read ≡ Ok bytes → length bytes < 2 ^ 64
    → package_with_contents_of_command command names read ≡ Ok (package_with_contents bytes)

pub record IsMadeFrom (command : CommandLine) (names : List (List ℕ)) (read : Reads) (pkg : Plain) : Type 0 where
  pub scripts : List Script
  pub items : List FieldWithValue
  pub sources : List SourceFolder
  pub scripts_read : scripts_from_read read 0 (values_of_letter SCRIPT command.values) ≡ Ok scripts
  pub items_read : or_info_bad (information command) ≡ Ok items
  pub sources_read : source_folders_of_first_option_only read (length scripts) (values_of_letter FILES command.values) names ≡ Ok sources
  pub value : pkg ≡ value_of_package (information_value_with_installed_size items (installed_size sources)) sources scripts (texts_of (values_of_letter TRIGGER command.values)) (replaces_priority items)

pub made_from : ReadsBack → (command : CommandLine) (names : List (List ℕ)) (read : Reads) (bytes : List ℕ) → IsMadePackage command names read bytes → IsMadeFrom command names read (package_in_container bytes)
made_from back command names read bytes made =
    let whole : PackageWithContents = package_with_contents bytes in
    let one = after_ok (scripts_from_read read 0 (values_of_letter SCRIPT command.values)) (λ scripts.
    and_then (or_info_bad (information command)) (λ about.
    and_then (source_folders_of_first_option_only read (length scripts) (values_of_letter FILES command.values) names) (packed_of_parts command scripts about))) whole (back command names read bytes made.below made.made made.short) in
    let two = after_ok (or_info_bad (information command)) (λ about.
    and_then (source_folders_of_first_option_only read (length one.x) (values_of_letter FILES command.values) names) (packed_of_parts command one.x about)) whole one.gives in
    let three = after_ok (source_folders_of_first_option_only read (length one.x) (values_of_letter FILES command.values) names) (packed_of_parts command one.x two.x) whole two.gives in
    let gives = three.gives in
    let v : Plain = value_of_package (information_value_with_installed_size two.x (installed_size three.x)) three.x one.x (texts_of (values_of_letter TRIGGER command.values)) (replaces_priority two.x) in
    let same : package_with_contents_from_parts v (contents_of_folders 1 three.x) ≡ whole = cc (gives) in
    record {
      scripts = one.x;
      items = two.x;
      sources = three.x;
      scripts_read = one.is;
      items_read = two.is;
      sources_read = three.is;
      value = ap (λ (p : PackageWithContents). p.value) (sym same);
    }

texts_back : (ts : List (List ℕ)) → map text_in (map blob_or_null ts) ≡ ts
texts_back [] = refl
texts_back (t ∷ ts) = λ k. text_blob t k ∷ texts_back ts k

module _ (command : CommandLine) (names : List (List ℕ)) (read : Reads) (pkg : Plain) (m : IsMadeFrom command names read pkg) where
  abbrev info : Plain
  info = information_value_with_installed_size m.items (installed_size m.sources)

  abbrev triggers : List (List ℕ)
  triggers = texts_of (values_of_letter TRIGGER command.values)

  part : (i : ℕ) → entry_at_index pkg i ≡ entry_at_index (value_of_package info m.sources m.scripts triggers (replaces_priority m.items)) i
  part i = ap (λ (v : Plain). entry_at_index v i) m.value

  pub folders_are : folders_in pkg ≡ map value_of_folder m.sources
  folders_are = ap folders_in m.value ∙ folders_stand info m.sources m.scripts triggers (replaces_priority m.items)

  pub info_is : entry_at_index pkg 0 ≡ info
  info_is = part 0 ∙ nth_obj (package_fields info (map value_of_folder m.sources) m.scripts triggers (replaces_priority m.items)) 0

  pub scripts_are : entry_at_index pkg 2 ≡ value_of_scripts m.scripts
  scripts_are = part 2 ∙ nth_obj (package_fields info (map value_of_folder m.sources) m.scripts triggers (replaces_priority m.items)) 2

  pub priority_is : entry_at_index pkg 4 ≡ number_or_null (replaces_priority m.items)
  priority_is = part 4 ∙ nth_obj (package_fields info (map value_of_folder m.sources) m.scripts triggers (replaces_priority m.items)) 4

  pub triggers_are : HasTriggersOfOptionsInOrder command.values pkg
  triggers_are =
      ap (λ (v : Plain). map text_in (list_of (entries_in v))) (part 3 ∙ nth_obj (package_fields info (map value_of_folder m.sources) m.scripts triggers (replaces_priority m.items)) 3)
      ∙ (ap (λ us. map text_in (list_of us)) (entries_arr (plains_of_list (map blob_or_null triggers)))
      ∙ (ap (map text_in) (list-plains (map blob_or_null triggers)) ∙ texts_back triggers))
