-- A package that is made is sound, and what it is made of is read back.
use Rattle.command_core.specs.declared.values.TheConstants.{FILES, SCRIPT, TRIGGER}
use Rattle.std.proofs.Common.{◌≡◌, ℕ, ◌^◌, ◌<◌, List, [], ◌∷◌, length, Option, Some, None, Result, Ok, Err, refl, ap, sym, subst, ◌∙◌, arith}
use Rattle.std.specs.Prelude.{All}
use Rattle.std.proofs.lemmas.List.Elements.{All-head, All-tail}
use Rattle.base_core.specs.Listed.{IsValidNameBelowFolder}
use Rattle.adb_view.specs.Plain.{Plain}
use Rattle.pkg_core.specs.adb_schema.declared.read.TheConstants.{PACKAGE_WORD}
use Rattle.adb_view.specs.declared.tables.Which.TheVariants.{Package}
use Rattle.adb_copy.specs.adb_write.Canonical.{ByteAndValueCounts, canonical, counts_at_first_overflow}
use Rattle.pkg_core.specs.Contents.{Contents, expected_files_of_package}
use Rattle.pkg_core.specs.GoodContents.{MatchEachExpectedSizeAndKnownDigest}
use Rattle.pkg_core.specs.Whole.{container_fault, package_with_contents}
use Rattle.command_core.specs.Command.{CommandLine}
use Rattle.command_core.specs.Files.{without_one_leading_dot_slash}
use Rattle.command_core.specs.declared.values.OptionValue.{OptionValue}
use Rattle.make_info.specs.Information.{FieldWithValue, information_value_with_installed_size, information, replaces_priority}
use Rattle.package_files.specs.adb_sound.Contents.{total_size_of_file_contents}
use Rattle.package_files.specs.adb_sound.Container.{container_of_value_and_contents, package_with_contents_from_parts}
use Rattle.make_core.specs.Making.{container_unless_too_large, made_package, or_info_bad, package_container, package_of_parts}
use Rattle.package_files.specs.Package.{Script, SourceFolder, contents_of_folders, installed_size, value_of_package}
use Rattle.package_files.specs.Sources.{AreSortedAndEachBelowFirstFolder, and_then, source_folders_of_first_option_only, values_of_letter, scripts_from_read, texts_of}
use Rattle.package_files.specs.adb_sound.Root.{IsValidRootValueOfTable}
use Rattle.make_info.specs.Reads.{Reads}
use Rattle.make_core.proofs.Apart.{Tells, package_once, rises_from_pairs}
use Rattle.make_core.proofs.InformationGood.{IsInformation, Needs, info_good, information_good, priority_good}
use Rattle.make_core.proofs.ListedNames.{AreListed, AreSources, after_ok, folders_sized, sources_good}
use Rattle.make_core.proofs.PackageContents.{package_contents}
use Rattle.make_core.proofs.PackageFiles.{package_value_good}
use Rattle.make_core.specs.ReadBack.{packed_of_parts, package_with_contents_of_command}
use Rattle.make_core.proofs.Roots.{root_good, Exact}

-- what the layers below say of sizes
pub record Sizes : Type 0 where
  pub installed : (i : ℕ) (folders : List SourceFolder) → installed_size folders ≡ total_size_of_file_contents (contents_of_folders i folders)
  pub container : (schema : ℕ) (v : Plain) (contents : List Contents) → length (container_of_value_and_contents schema v contents) < 2 ^ 64 → total_size_of_file_contents contents < 2 ^ 64

-- ---- of its parts

-- what holds of the value, of the contents and of the container of each good package
module _ (P : Plain → List Contents → List ℕ → Type 0) where
  abbrev pub Holds : Type 0
  Holds = (v : Plain) (contents : List Contents) → IsValidRootValueOfTable Package v → MatchEachExpectedSizeAndKnownDigest (expected_files_of_package v) contents → length (container_of_value_and_contents PACKAGE_WORD v contents) < 2 ^ 64 → P v contents (container_of_value_and_contents PACKAGE_WORD v contents)

  value_holds : Holds → Sizes → Exact → Needs → Tells → (items : List FieldWithValue) (sources : List SourceFolder) (scripts : List Script) (triggers : List (List ℕ)) → IsInformation items → AreSources sources
      → (v : Plain) → v ≡ value_of_package (information_value_with_installed_size items (installed_size sources)) sources scripts triggers (replaces_priority items)
      → counts_at_first_overflow v ≡ None → length (container_of_value_and_contents PACKAGE_WORD v (contents_of_folders 1 sources)) < 2 ^ 64 → P v (contents_of_folders 1 sources) (container_of_value_and_contents PACKAGE_WORD v (contents_of_folders 1 sources))
  value_holds holds sizes exact needs tells items sources scripts triggers about are v is fits short =
      let contents : List Contents = contents_of_folders 1 sources in
      let bound = sizes.container PACKAGE_WORD v contents short in
      let sum = sizes.installed 1 sources in
      let small : installed_size sources < 2 ^ 64 = omega arith in
      let info : Plain = information_value_with_installed_size items (installed_size sources) in
      let priority : Option ℕ = replaces_priority items in
      let good = package_value_good info sources scripts triggers priority (info_good needs items about (installed_size sources) small) (folders_sized sources are.named small) (priority_good needs items about) in
      let once = package_once info sources scripts triggers priority tells are.apart are.files_apart in
      let made : Plain = value_of_package info sources scripts triggers priority in
      let root = root_good exact Package made (canonical made) good once (record { none = ap counts_at_first_overflow (sym is) ∙ fits; is = refl }) in
      let whole = holds made contents root (package_contents info sources scripts triggers priority) (subst (λ (u : Plain). length (container_of_value_and_contents PACKAGE_WORD u contents) < 2 ^ 64) is short) in
      subst (λ (u : Plain). P u contents (container_of_value_and_contents PACKAGE_WORD u contents)) (sym is) whole

  file_holds : (v : Plain) (contents : List Contents) (o : Option ByteAndValueCounts) (bytes : List ℕ) → counts_at_first_overflow v ≡ o → length bytes < 2 ^ 64
      → (counts_at_first_overflow v ≡ None → length (container_of_value_and_contents PACKAGE_WORD v contents) < 2 ^ 64 → P v contents (container_of_value_and_contents PACKAGE_WORD v contents)) → container_unless_too_large o v contents ≡ Ok bytes → P v contents bytes
  file_holds v contents (Some counts) bytes is short holds e = absurd (cc (e))
  file_holds v contents None bytes is short holds e =
      let same : container_of_value_and_contents PACKAGE_WORD v contents ≡ bytes = cc (e) in
      subst (P v contents) same (holds is (subst (λ (b : List ℕ). length b < 2 ^ 64) (sym same) short))

  package_holds : Holds → Sizes → Exact → Needs → Tells → (command : CommandLine) (scripts : List Script) (items : List FieldWithValue) (sources : List SourceFolder) (bytes : List ℕ) → IsInformation items → AreSources sources
      → length bytes < 2 ^ 64 → package_of_parts command scripts items sources ≡ Ok bytes
      → P (value_of_package (information_value_with_installed_size items (installed_size sources)) sources scripts (texts_of (values_of_letter TRIGGER command.values)) (replaces_priority items)) (contents_of_folders 1 sources) bytes
  unfolding package_container
  package_holds holds sizes exact needs tells command scripts items sources bytes about are short e =
      let triggers : List (List ℕ) = texts_of (values_of_letter TRIGGER command.values) in
      let v : Plain = value_of_package (information_value_with_installed_size items (installed_size sources)) sources scripts triggers (replaces_priority items) in
      file_holds v (contents_of_folders 1 sources) (counts_at_first_overflow v) bytes refl short (value_holds holds sizes exact needs tells items sources scripts triggers about are v refl) e

-- ---- of a command

pub are_listed : (folder : List ℕ) (names : List (List ℕ)) → All (IsValidNameBelowFolder folder) names → AreListed folder names
are_listed folder [] all = tt
are_listed folder (name ∷ names) all =
    let first = All-head (IsValidNameBelowFolder folder) name names all in
    ((first.below.0, first.below.1, first.named), are_listed folder names (All-tail (IsValidNameBelowFolder folder) name names all))

sources_are : (read : Reads) (n : ℕ) (values : List OptionValue) (names : List (List ℕ)) (sources : List SourceFolder) → AreSortedAndEachBelowFirstFolder values names → source_folders_of_first_option_only read n values names ≡ Ok sources → AreSources sources
sources_are read n [] names sources below e =
    let same : [] ≡ sources = cc (e) in
    subst AreSources same (record { named = tt; apart = tt; files_apart = tt })
sources_are read n (v ∷ vs) names sources below e =
    sources_good (without_one_leading_dot_slash v.text) names v.place read n sources (are_listed (without_one_leading_dot_slash v.text) names below.each) (rises_from_pairs names below.rising) e

pub info_ok : (r : Result (List FieldWithValue) ℕ) (items : List FieldWithValue) → or_info_bad r ≡ Ok items → r ≡ Ok items
info_ok (Ok x) items e = let same : x ≡ items = cc (e) in ap Ok same
info_ok (Err place) items e = absurd (cc (e))

-- what a made package was made of
pub record IsMadeOf (P : Plain → List Contents → List ℕ → Type 0) (command : CommandLine) (names : List (List ℕ)) (read : Reads) (bytes : List ℕ) : Type 0 where
  pub scripts : List Script
  pub items : List FieldWithValue
  pub sources : List SourceFolder
  pub scripts_read : scripts_from_read read 0 (values_of_letter SCRIPT command.values) ≡ Ok scripts
  pub items_read : or_info_bad (information command) ≡ Ok items
  pub sources_read : source_folders_of_first_option_only read (length scripts) (values_of_letter FILES command.values) names ≡ Ok sources
  pub holds : P (value_of_package (information_value_with_installed_size items (installed_size sources)) sources scripts (texts_of (values_of_letter TRIGGER command.values)) (replaces_priority items)) (contents_of_folders 1 sources) bytes

pub made_of : (P : Plain → List Contents → List ℕ → Type 0) → Holds P → Sizes → Exact → Needs → Tells → (command : CommandLine) (names : List (List ℕ)) (read : Reads) (bytes : List ℕ) → AreSortedAndEachBelowFirstFolder (values_of_letter FILES command.values) names
    → made_package command names read ≡ Ok bytes → length bytes < 2 ^ 64 → IsMadeOf P command names read bytes
unfolding made_package
made_of P holds sizes exact needs tells command names read bytes below e short =
    let one = after_ok (scripts_from_read read 0 (values_of_letter SCRIPT command.values)) (λ scripts.
    and_then (or_info_bad (information command)) (λ about.
    and_then (source_folders_of_first_option_only read (length scripts) (values_of_letter FILES command.values) names) (package_of_parts command scripts about))) bytes e in
    let two = after_ok (or_info_bad (information command)) (λ about.
    and_then (source_folders_of_first_option_only read (length one.x) (values_of_letter FILES command.values) names) (package_of_parts command one.x about)) bytes one.gives in
    let three = after_ok (source_folders_of_first_option_only read (length one.x) (values_of_letter FILES command.values) names) (package_of_parts command one.x two.x) bytes two.gives in
    record {
      scripts = one.x;
      items = two.x;
      sources = three.x;
      scripts_read = one.is;
      items_read = two.is;
      sources_read = three.is;
      holds =
          package_holds P holds sizes exact needs tells command one.x two.x three.x bytes
          (information_good command.values command.behind two.x (info_ok (information command) two.x two.is))
          (sources_are read (length one.x) (values_of_letter FILES command.values) names three.x below three.is) short three.gives;
    }

-- a package of a good value and its contents is sound, and so is one that is made
abbrev pub IsSoundFile : Plain → List Contents → List ℕ → Type 0
IsSoundFile v contents bytes = container_fault bytes ≡ None

pub made_sound : Holds IsSoundFile → Sizes → Exact → Needs → Tells → (command : CommandLine) (names : List (List ℕ)) (read : Reads) (bytes : List ℕ) → AreSortedAndEachBelowFirstFolder (values_of_letter FILES command.values) names
    → made_package command names read ≡ Ok bytes → length bytes < 2 ^ 64 → container_fault bytes ≡ None
made_sound holds sizes exact needs tells command names read bytes below e short =
    (made_of IsSoundFile holds sizes exact needs tells command names read bytes below e short).holds

-- its parts are read back, and so are those of one that is made
abbrev pub IsReadBack : Plain → List Contents → List ℕ → Type 0
IsReadBack v contents bytes = package_with_contents bytes ≡ package_with_contents_from_parts v contents

pub made_back : Holds IsReadBack → Sizes → Exact → Needs → Tells → (command : CommandLine) (names : List (List ℕ)) (read : Reads) (bytes : List ℕ) → AreSortedAndEachBelowFirstFolder (values_of_letter FILES command.values) names
    → made_package command names read ≡ Ok bytes → length bytes < 2 ^ 64 → package_with_contents_of_command command names read ≡ Ok (package_with_contents bytes)
made_back holds sizes exact needs tells command names read bytes below e short =
    let made = made_of IsReadBack holds sizes exact needs tells command names read bytes below e short in
    ap (λ r. and_then r (λ scripts.
    and_then (or_info_bad (information command)) (λ about.
    and_then (source_folders_of_first_option_only read (length scripts) (values_of_letter FILES command.values) names) (packed_of_parts command scripts about)))) made.scripts_read
    ∙ ap (λ r. and_then r (λ about.
    and_then (source_folders_of_first_option_only read (length made.scripts) (values_of_letter FILES command.values) names) (packed_of_parts command made.scripts about))) made.items_read
    ∙ ap (λ r. and_then r (packed_of_parts command made.scripts made.items)) made.sources_read
    ∙ ap Ok (sym made.holds)
