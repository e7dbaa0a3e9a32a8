-- What a package is made of: the names below its folder, as the files have them.
use Rattle.std.proofs.Common.{◌≡◌, ℕ, true, List, [], ◌∷◌, length, Result, Ok, Err, refl, sym, ap, subst, ◌∙◌}
use Rattle.std.specs.Prelude.{is_ok}
use Rattle.base_core.specs.Listed.{IsSortedListingOfFolder, IsSortedListOfAllNamesInMap}
use Rattle.base_core.specs.Tree.{TreeState, files_of}
use Rattle.command_core.specs.Command.{CommandLine}
use Rattle.command_core.specs.Files.{without_one_leading_dot_slash}
use Rattle.command_core.specs.declared.values.OptionValue.{OptionValue}
use Rattle.command_core.specs.declared.values.TheConstants.{FILES, SCRIPT}
use Rattle.make_core.specs.make_info.Information.{FieldWithValue, information}
use Rattle.make_core.specs.make_info.Reads.{Reads}
use Rattle.make_core.specs.make_info.declared.fault.MakeFault.{MakeFault}
use Rattle.make_core.specs.Answers.{IsSortedListingOfFirstFolder, IsMadeFromTree}
use Rattle.make_core.specs.Making.{made_package, or_info_bad, package_of_parts}
use Rattle.make_core.specs.package_files.Sources.{and_then, source_folders_of_first_option_only, values_of_letter, scripts_from_read}
use Rattle.outcome.specs.Commands.{reads_in}
use Rattle.outcome.specs.Make.{AreNamesBelowOptionFolder, files_below}
use Rattle.apk_front.specs.Containers.{IsPackageMade}

-- the names below a folder, as a tree lists them, are those of its files
abbrev pub HaveListing : Type 0
HaveListing = (folder : List ℕ) (v : TreeState) (names : List (List ℕ)) → IsSortedListingOfFolder folder v names → IsSortedListOfAllNamesInMap (files_below folder (files_of v)) names

-- ---- what is made of them

no_folder : (command : CommandLine) (read : Reads) (names others : List (List ℕ)) → values_of_letter FILES command.values ≡ [] → made_package command names read ≡ made_package command others read
unfolding made_package
no_folder command read names others none =
    let by : List OptionValue → List (List ℕ) → Result (List ℕ) MakeFault = λ values ns.
    and_then (scripts_from_read read 0 (values_of_letter SCRIPT command.values)) (λ scripts. and_then (or_info_bad (information command)) (λ about. and_then (source_folders_of_first_option_only read (length scripts) values ns) (package_of_parts command scripts about))) in
    ap (λ values. by values names) none ∙ sym (ap (λ values. by values others) none)

pub package_here : HaveListing → (command : CommandLine) (v : TreeState) (made : Result (List ℕ) MakeFault) → IsMadeFromTree command v made → IsPackageMade command (files_of v) made
package_here law command v made m = by_values (values_of_letter FILES command.values) refl m.below
  where
    by_values : (values : List OptionValue) → values_of_letter FILES command.values ≡ values → IsSortedListingOfFirstFolder values v m.names → IsPackageMade command (files_of v) made
    by_values [] is listed = record {
      names = [];
      listing = subst (λ (vs : List OptionValue). AreNamesBelowOptionFolder vs (files_of v) []) (sym is) refl;
      is = no_folder command (reads_in (files_of v)) [] m.names is ∙ m.is;
    }
    by_values (dir ∷ dirs) is listed = record {
      names = m.names;
      listing = subst (λ (vs : List OptionValue). AreNamesBelowOptionFolder vs (files_of v) m.names) (sym is) (law (without_one_leading_dot_slash dir.text) v m.names listed);
      is = m.is;
    }

-- ---- what was made says that the information is allowed

after_ok : {A B : Type 0} (r : Result A MakeFault) (next : A → Result B MakeFault) (y : B) → and_then r next ≡ Ok y → (x : A) × (r ≡ Ok x) × (next x ≡ Ok y)
after_ok (Ok x) next y h = (x, refl, h)
after_ok (Err why) next y h = cc

info_ok : (r : Result (List FieldWithValue) ℕ) (about : List FieldWithValue) → or_info_bad r ≡ Ok about → is_ok r ≡ true
info_ok (Ok info) about h = refl
info_ok (Err place) about h = cc

pub made_allowed : (command : CommandLine) (names : List (List ℕ)) (read : Reads) (file : List ℕ) → made_package command names read ≡ Ok file → is_ok (information command) ≡ true
unfolding made_package
made_allowed command names read file h =
    let (scripts, one, more) = after_ok (scripts_from_read read 0 (values_of_letter SCRIPT command.values)) (λ scripts. and_then (or_info_bad (information command)) (λ about. and_then (source_folders_of_first_option_only read (length scripts) (values_of_letter FILES command.values) names) (package_of_parts command scripts about))) file h in
    let (about, two, last) = after_ok (or_info_bad (information command)) (λ about. and_then (source_folders_of_first_option_only read (length scripts) (values_of_letter FILES command.values) names) (package_of_parts command scripts about)) file more in
    info_ok (information command) about two
