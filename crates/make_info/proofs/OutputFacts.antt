-- An output is short, and it is there.
use Rattle.command_core.specs.declared.values.TheConstants.{OUTPUT}
use Rattle.std.proofs.Common.{◌≡◌, ℕ, ◌≤◌, Bool, true, false, not, cond, List, [], ◌∷◌, ◌++◌, length, map, Option, Some, None, Result, Ok, Err, refl, sym, ◌∙◌, ap, subst}
use Rattle.std.specs.Prelude.{is_ok, is_some, ◌==◌, ◌&&◌, ◌||◌, if◌then◌else◌}
use Rattle.std.specs.List.{list_any}
use Rattle.std.specs.Option.{option_and_then, option_map, option_or}
use Rattle.std.proofs.lemmas.Option.{none-some}
use Rattle.base_core.proofs.Options.{none_at}
use Rattle.version_core.specs.Order.{is_version}
use Rattle.dep_core.specs.Dependency.{is_package_name}
use Rattle.command_core.specs.Applets.{required_option_letter}
use Rattle.command_core.specs.Command.{CommandLine}
use Rattle.command_core.specs.Sound.{IsValidCommand}
use Rattle.command_core.specs.Values.{first_value_with_letter, is_given}
use Rattle.command_core.specs.declared.command.Applet.TheVariants.{Mkndx, Mkpkg}
use Rattle.command_core.specs.declared.values.OptionValue.{OptionValue}
use Rattle.make_info.specs.declared.field.Field.{Field}
use Rattle.make_info.specs.declared.field.Field.TheVariants as Fields
use Rattle.make_info.specs.Fields.{kind_of_field, values_by_kind, text_value_if}
use Rattle.command_core.specs.Files.{most_output_path_bytes}
use Rattle.make_info.specs.FieldTexts.{FieldText, value_text_without_dot_slash, first_text_for, field_text_in, value_if_passes, values_of_info_options, has_text_for_field_whatever_letter, is_field_text_for_field, is_info_option, is_output_default_and_too_long, package_name_in, named_output, default_output, package_file_name_of, value_if_for_field, package_version_in}
use Rattle.make_info.specs.Information.{FieldWithValue, items_of_valid_options, first_offence_place_by_output_length_after, information, information_with_missing_reported_at_place, repeats_single_field, field_with_value, items_of_text, items_of_option, lacks_name_or_version, offends, unless_offence}
use Rattle.make_info.specs.Output.{output_if_information_valid, is_mkpkg, output_name, named_or_default_package_output}
use Rattle.make_info.proofs.Outputs.{AreOutputs, allowed, named_short, no_value, own_fits, unoffended}
use Rattle.make_info.proofs.Reading.{same_field}

-- ---- it is short

package_short : AreOutputs → (command : CommandLine) (file : List ℕ) (r : Result (List FieldWithValue) ℕ) (named : Option (List ℕ)) → r ≡ information command → named ≡ named_output command.values → IsValidCommand command → output_if_information_valid r (option_or named (default_output command.values)) ≡ Some file → length file ≤ most_output_path_bytes
package_short law command file (Err place) named r n is h = absurd (none-some file h)
package_short law command file (Ok about) (Some name) r n is h = named_short law command file is (sym n ∙ h)
package_short law command file (Ok about) None r n is h = own_fits command.values command.behind file (ap is_ok (sym r)) (sym n) h

pub output_short : AreOutputs → (command : CommandLine) (name : List ℕ) → IsValidCommand command → output_name command ≡ Some name → length name ≤ most_output_path_bytes
output_short law command name is h =
    elim (is_mkpkg command.applet) as (λ b. (if b then named_or_default_package_output command else named_output command.values) ≡ Some name → length name ≤ most_output_path_bytes) [
      | true ↦ λ e. package_short law command name (information command) (named_output command.values) refl refl is e
      | false ↦ λ e. named_short law command name is e
    ] h

-- ---- it is there

found_output : (vs : List OptionValue) → is_given OUTPUT vs ≡ true → is_some (named_output vs) ≡ true
found_output [] h = cc
found_output (v ∷ vs) h =
    elim (v.letter == OUTPUT) as (λ b. (b || is_given OUTPUT vs) ≡ true → is_some (option_map value_text_without_dot_slash (cond b (Some v) (first_value_with_letter OUTPUT vs))) ≡ true) [
      | true ↦ λ e. refl
      | false ↦ λ e. found_output vs e
    ] h

-- what the layer of commands says of the option that an applet needs
abbrev pub IsNeeded : Type 0
IsNeeded = (c : CommandLine) (letter : ℕ) → IsValidCommand c → required_option_letter c.applet ≡ Some letter → is_given letter c.values ≡ true

pub index_output_there : IsNeeded → (command : CommandLine) → IsValidCommand command → command.applet ≡ Mkndx → is_some (output_name command) ≡ true
index_output_there law command h is =
    ap (λ a. is_some (if is_mkpkg a then named_or_default_package_output command else named_output command.values)) is
    ∙ found_output command.values (law command OUTPUT h (ap required_option_letter is))

-- a field of which every good value passes a test
abbrev IsStrict : Field → (List ℕ → Bool) → Type 0
IsStrict f is_good = (value : List ℕ) → is_some (values_by_kind (kind_of_field f) value) ≡ true → is_good value ≡ true

strict_by : (b : Bool) (value : List ℕ) → is_some (text_value_if b value) ≡ true → b ≡ true
strict_by true value h = refl
strict_by false value h = cc

some_of_map : {A B : Type 0} (f : A → B) (o : Option A) → is_some (option_map f o) ≡ true → is_some o ≡ true
some_of_map f None h = cc
some_of_map f (Some x) h = refl

pub no_offence : (a b : Bool) → (not a || b) ≡ false → a ≡ true
no_offence true b h = refl
no_offence false b h = cc

first_or : (is_good : List ℕ → Bool) (x later : Option (List ℕ)) → is_some (option_and_then (value_if_passes is_good) x) ≡ true → is_some (option_and_then (value_if_passes is_good) (option_or x later)) ≡ true
first_or is_good None later h = cc
first_or is_good (Some x) later h = h

later_or : (is_good : List ℕ → Bool) (x later : Option (List ℕ)) → x ≡ None → is_some (option_and_then (value_if_passes is_good) later) ≡ true → is_some (option_and_then (value_if_passes is_good) (option_or x later)) ≡ true
later_or is_good x later is h = ap (λ o. is_some (option_and_then (value_if_passes is_good) (option_or o later))) is ∙ h

module _ (f : Field) (is_good : List ℕ → Bool) (strict : IsStrict f is_good) where
  good_here : (o : Option FieldText) → is_some (option_and_then items_of_text o) ≡ true → is_field_text_for_field f o ≡ true → is_some (option_and_then (value_if_passes is_good) (value_if_for_field f o)) ≡ true
  good_here None allowed same = cc
  good_here (Some g) allowed same =
      let field : g.field ≡ f = same_field g.field f same in
      let said : is_some (values_by_kind (kind_of_field g.field) g.value) ≡ true = some_of_map (λ said. [] ++ map (field_with_value g.field) said) (values_by_kind (kind_of_field g.field) g.value) allowed in
      let good : is_good g.value ≡ true = strict g.value (subst (λ (h : Field). is_some (values_by_kind (kind_of_field h) g.value) ≡ true) field said) in
      ap (λ b. is_some (option_and_then (value_if_passes is_good) (if b then Some g.value else None))) same
      ∙ ap (λ b. is_some (if b then Some g.value else None)) good

  module _ (too_long : Bool) where
    abbrev Later : List OptionValue → Option (List ℕ) → Type 0
    Later rest later = (before : List OptionValue) → first_offence_place_by_output_length_after too_long before rest ≡ None → list_any (has_text_for_field_whatever_letter f) rest ≡ true → is_some (option_and_then (value_if_passes is_good) later) ≡ true

    by_field : (v : OptionValue) (before rest : List OptionValue) (later : Option (List ℕ)) (b : Bool) → has_text_for_field_whatever_letter f v ≡ b → offends too_long before v ≡ false → first_offence_place_by_output_length_after too_long (before ++ v ∷ []) rest ≡ None
        → (b || list_any (has_text_for_field_whatever_letter f) rest) ≡ true → Later rest later → is_some (option_and_then (value_if_passes is_good) (option_or (value_if_for_field f (field_text_in v.text)) later)) ≡ true
    by_field v before rest later true here fine none any more =
        first_or is_good (value_if_for_field f (field_text_in v.text)) later (good_here (field_text_in v.text) (no_offence (is_some (items_of_option v)) (repeats_single_field before v || (too_long && has_text_for_field_whatever_letter Fields.Version v)) fine) here)
    by_field v before rest later false here fine none any more =
        later_or is_good (value_if_for_field f (field_text_in v.text)) later (no_value f (field_text_in v.text) here) (more (before ++ v ∷ []) none any)

    by_info : (v : OptionValue) (before rest : List OptionValue) (later : Option (List ℕ)) (b : Bool) → first_offence_place_by_output_length_after too_long before (cond b (v ∷ rest) rest) ≡ None → list_any (has_text_for_field_whatever_letter f) (cond b (v ∷ rest) rest) ≡ true
        → Later rest later → is_some (option_and_then (value_if_passes is_good) (option_or (cond b (value_if_for_field f (field_text_in v.text)) None) later)) ≡ true
    by_info v before rest later true none any more =
        let parts = none_at (offends too_long before v) v.place (first_offence_place_by_output_length_after too_long (before ++ v ∷ []) rest) none in
        by_field v before rest later (has_text_for_field_whatever_letter f v) refl parts.0 parts.1 any more
    by_info v before rest later false none any more = more before none any

    good_first : (before vs : List OptionValue) → first_offence_place_by_output_length_after too_long before (values_of_info_options vs) ≡ None → list_any (has_text_for_field_whatever_letter f) (values_of_info_options vs) ≡ true → is_some (option_and_then (value_if_passes is_good) (first_text_for f vs)) ≡ true
    good_first before [] none any = cc
    good_first before (v ∷ vs) none any = by_info v before (values_of_info_options vs) (first_text_for f vs) (is_info_option v) none any (λ earlier n a. good_first earlier vs n a)

both_there : (name version : Option (List ℕ)) → is_some name ≡ true → is_some version ≡ true → is_some (package_file_name_of name version) ≡ true
both_there None version n v = cc
both_there (Some name) None n v = cc
both_there (Some name) (Some version) n v = refl

any_or : (named own : Option (List ℕ)) → is_some own ≡ true → is_some (option_or named own) ≡ true
any_or None own h = h
any_or (Some name) own h = refl

not_lacking : (a b : Bool) (behind : ℕ) (all : List FieldWithValue) → is_ok (if not a || not b then Err behind else Ok all) ≡ true → (a ≡ true) × (b ≡ true)
not_lacking true true behind all h = (refl, refl)
not_lacking true false behind all h = cc
not_lacking false b behind all h = cc

told_all : (o : Option ℕ) (otherwise : Result (List FieldWithValue) ℕ) → is_ok (unless_offence o otherwise) ≡ true → is_ok otherwise ≡ true
told_all None otherwise h = h
told_all (Some place) otherwise h = cc

own_there : (values : List OptionValue) (behind : ℕ) → is_ok (information_with_missing_reported_at_place values behind) ≡ true → is_some (default_output values) ≡ true
unfolding information_with_missing_reported_at_place
own_there values behind h =
    let told = values_of_info_options values in
    let none = unoffended values behind h in
    let given = not_lacking (list_any (has_text_for_field_whatever_letter Fields.Name) told) (list_any (has_text_for_field_whatever_letter Fields.Version) told) behind (items_of_valid_options told) (told_all (first_offence_place_by_output_length_after (is_output_default_and_too_long values) [] told) (if lacks_name_or_version told then Err behind else Ok (items_of_valid_options told)) h) in
    both_there (package_name_in values) (package_version_in values)
    (good_first Fields.Name is_package_name (λ value said. strict_by (is_package_name value) value said) (is_output_default_and_too_long values) [] values none given.0)
    (good_first Fields.Version is_version (λ value said. strict_by (is_version value) value said) (is_output_default_and_too_long values) [] values none given.1)

pub package_output_there : (command : CommandLine) → command.applet ≡ Mkpkg → is_ok (information command) ≡ true → is_some (output_name command) ≡ true
package_output_there command is good =
    let own = own_there command.values command.behind good in
    ap (λ a. is_some (if is_mkpkg a then named_or_default_package_output command else named_output command.values)) is
    ∙ ap is_some (allowed (information command) (option_or (named_output command.values) (default_output command.values)) good)
    ∙ any_or (named_output command.values) (default_output command.values) own
