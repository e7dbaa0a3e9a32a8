-- What the output is called.
use Rattle.command_core.specs.declared.values.TheConstants.{OUTPUT}
use Rattle.std.proofs.Common.{◌≡◌, ℕ, ◌≤◌, Bool, true, false, not, cond, List, [], ◌∷◌, ◌++◌, length, Option, Some, None, Result, Ok, Err, Bor, refl, sym, ◌∙◌, ap, subst}
use Rattle.std.specs.Prelude.{IfOk, IfSome, is_ok, is_some, nat_lt, nat_le, ◌&&◌, ◌||◌}
use Rattle.std.specs.Option.{option_and_then, option_map, option_or}
use Rattle.std.proofs.lemmas.Bool.{and_parts, leb-true, ltb-false}
use Rattle.base_core.specs.Name.{is_name}
use Rattle.base_core.proofs.Options.{none_at}
use Rattle.version_core.specs.Order.{is_version}
use Rattle.command_core.specs.Command.{CommandLine}
use Rattle.command_core.specs.Sound.{IsValidCommand}
use Rattle.command_core.specs.Values.{first_value_with_letter}
use Rattle.command_core.specs.Files.{is_file_argument, is_file_argument_within_output_length, most_output_path_bytes, without_one_leading_dot_slash}
use Rattle.command_core.specs.declared.values.OptionValue.{OptionValue}
use Rattle.make_info.specs.declared.field.Field.{Field}
use Rattle.make_info.specs.declared.field.Field.TheVariants as Fields
use Rattle.make_info.specs.FieldTexts.{FieldText, value_text_without_dot_slash, first_text_for, field_text_in, value_if_passes, values_of_info_options, has_text_for_field_whatever_letter, is_field_text_for_field, is_info_option, is_output_name_too_long, is_output_default_and_too_long, package_name_in, named_output, default_output, package_file_name_of, option_text_for_field, value_if_for_field}
use Rattle.make_info.specs.Information.{FieldWithValue, items_of_valid_options, first_offence_place_by_output_length_after, information, information_with_missing_reported_at_place, items_of_option, lacks_name_or_version, offends, repeats_single_field, unless_offence}
use Rattle.make_info.specs.Output.{output_if_information_valid, named_or_default_package_output}
use Rattle.make_info.proofs.FileNames.{HaveVersionBytes, own_file_name}

-- ---- a named output is a name

-- what the layer of commands says of the file that `-o` names
abbrev pub AreOutputs : Type 0
AreOutputs = (c : CommandLine) (v : OptionValue) → IsValidCommand c → first_value_with_letter OUTPUT c.values ≡ Some v → is_file_argument_within_output_length v.text ≡ true

named_by : (o : Option OptionValue) (file : List ℕ) → option_map value_text_without_dot_slash o ≡ Some file → (v : OptionValue) × (o ≡ Some v) × (without_one_leading_dot_slash v.text ≡ file)
named_by None file e = absurd (cc (e))
named_by (Some v) file e = (v, refl, cc (e))

pub named_short : AreOutputs → (command : CommandLine) (file : List ℕ) → IsValidCommand command → named_output command.values ≡ Some file → length file ≤ most_output_path_bytes
named_short law command file is h =
    let named = named_by (first_value_with_letter OUTPUT command.values) file h in
    let v : OptionValue = named.0 in
    subst (λ f. length f ≤ most_output_path_bytes) named.2 (leb-true (length (without_one_leading_dot_slash v.text)) most_output_path_bytes (and_parts (is_file_argument v.text) (nat_le (length (without_one_leading_dot_slash v.text)) most_output_path_bytes) (law command v is named.1)).1)

file_by : AreOutputs → (command : CommandLine) → IsValidCommand command → (o : Option OptionValue) → first_value_with_letter OUTPUT command.values ≡ o → IfSome o (λ v. is_file_argument v.text ≡ true)
file_by law command is None e = tt
file_by law command is (Some v) e = (and_parts (is_file_argument v.text) (nat_le (length (without_one_leading_dot_slash v.text)) most_output_path_bytes) (law command v is e)).0

-- so it is read as a name
pub output_is_file : AreOutputs → (command : CommandLine) (values : List OptionValue) → IsValidCommand command → values ≡ command.values → IfSome (first_value_with_letter OUTPUT values) (λ v. is_file_argument v.text ≡ true)
output_is_file law command values is e =
    let P : List OptionValue → Type 0 = λ vs. IfSome (first_value_with_letter OUTPUT vs) (λ v. is_file_argument v.text ≡ true) in
    subst P (sym e) (file_by law command is (first_value_with_letter OUTPUT command.values) refl)

-- whether it is there
pub named_some : (r : Option (Bor OptionValue)) (o : Option OptionValue) → option_map (λ (v : Bor OptionValue). v.now) r ≡ o → is_some r ≡ is_some (option_map value_text_without_dot_slash o)
named_some None o e = let P : Option OptionValue → Type 0 = λ x. false ≡ is_some (option_map value_text_without_dot_slash x) in subst P e refl
named_some (Some v) o e = let P : Option OptionValue → Type 0 = λ x. true ≡ is_some (option_map value_text_without_dot_slash x) in subst P e refl

-- ---- a name that is read

pub read_name : {E : Type 0} (r : Result (Option (List ℕ)) E) (file : List ℕ) (o : Option (List ℕ)) → IfOk r (λ found. is_some found ≡ is_name file) → IfOk r (λ found. IfSome found (λ name. name ≡ file)) → is_name file ≡ true → Some file ≡ o → IfOk r (λ name. name ≡ o)
read_name (Err e) file o when value is h = tt
read_name (Ok None) file o when value is h = cc
read_name (Ok (Some name)) file o when value is h = ap Some value ∙ h

pub allowed : (r : Result (List FieldWithValue) ℕ) (o : Option (List ℕ)) → is_ok r ≡ true → output_if_information_valid r o ≡ o
allowed (Ok info) o h = refl
allowed (Err place) o h = cc

-- ---- where the output is NAME-VERSION.apk, it is not too long

not_good : (a b c : Bool) → (a || (b || c)) ≡ false → c ≡ false
not_good true b c h = cc
not_good false true c h = cc
not_good false false c h = h

pub no_value : (f : Field) (given : Option FieldText) → is_field_text_for_field f given ≡ false → value_if_for_field f given ≡ None
no_value f None h = refl
no_value f (Some given) h = ap (λ b. cond b (Some given.value) None) h

none_or : (a b : Option (List ℕ)) → a ≡ None → b ≡ None → option_or a b ≡ None
none_or None b h k = k
none_or (Some x) b h k = cc

version_here : (done rest : List OptionValue) (v : OptionValue) (b : Bool) → first_offence_place_by_output_length_after true done (cond b (v ∷ rest) rest) ≡ None → cond b (value_if_for_field Fields.Version (field_text_in v.text)) None ≡ None
version_here done rest v true h =
    no_value Fields.Version (field_text_in v.text) (not_good (not (is_some (items_of_option v))) (repeats_single_field done v) (has_text_for_field_whatever_letter Fields.Version v) (none_at (offends true done v) v.place (first_offence_place_by_output_length_after true (done ++ v ∷ []) rest) h).0)
version_here done rest v false h = refl

-- none of the rest offends either, behind some values
version_later : (done rest : List OptionValue) (v : OptionValue) (b : Bool) → first_offence_place_by_output_length_after true done (cond b (v ∷ rest) rest) ≡ None → (before : List OptionValue) × (first_offence_place_by_output_length_after true before rest ≡ None)
version_later done rest v true h =
    (done ++ v ∷ [], (none_at (offends true done v) v.place (first_offence_place_by_output_length_after true (done ++ v ∷ []) rest) h).1)
version_later done rest v false h = (done, h)

no_version : (done vs : List OptionValue) → first_offence_place_by_output_length_after true done (values_of_info_options vs) ≡ None → first_text_for Fields.Version vs ≡ None
no_version done [] h = refl
no_version done (v ∷ vs) h =
    let more = version_later done (values_of_info_options vs) v (is_info_option v) h in
    none_or (option_text_for_field Fields.Version v) (first_text_for Fields.Version vs) (version_here done (values_of_info_options vs) v (is_info_option v) h) (no_version more.0 vs more.1)

no_file : (name : Option (List ℕ)) → package_file_name_of name None ≡ None
no_file None = refl
no_file (Some name) = refl

pub first_is_none : (o : Option ℕ) (otherwise : Result (List FieldWithValue) ℕ) → is_ok (unless_offence o otherwise) ≡ true → o ≡ None
first_is_none None otherwise h = refl
first_is_none (Some place) otherwise h = cc

pub unoffended : (values : List OptionValue) (behind : ℕ) → is_ok (information_with_missing_reported_at_place values behind) ≡ true → first_offence_place_by_output_length_after (is_output_default_and_too_long values) [] (values_of_info_options values) ≡ None
unfolding information_with_missing_reported_at_place
unoffended values behind h =
    first_is_none (first_offence_place_by_output_length_after (is_output_default_and_too_long values) [] (values_of_info_options values)) (cond (lacks_name_or_version (values_of_info_options values)) (Err behind) (Ok (items_of_valid_options (values_of_info_options values)))) h

some_none : (o : Option (List ℕ)) (file : List ℕ) → o ≡ Some file → o ≡ None → ⊥
some_none None file h k = cc
some_none (Some x) file h k = cc

no_own_file : (values : List OptionValue) → first_text_for Fields.Version values ≡ None → default_output values ≡ None
no_own_file values h =
    ap (λ o. package_file_name_of (package_name_in values) (option_and_then (value_if_passes is_version) o)) h ∙ no_file (package_name_in values)

fits_by : (values : List OptionValue) (behind : ℕ) (file : List ℕ) (b : Bool) → is_output_default_and_too_long values ≡ b → is_ok (information_with_missing_reported_at_place values behind) ≡ true → named_output values ≡ None → default_output values ≡ Some file → length file ≤ most_output_path_bytes
fits_by values behind file true t h n o =
    let first : first_offence_place_by_output_length_after true [] (values_of_info_options values) ≡ None = ap (λ b. first_offence_place_by_output_length_after b [] (values_of_info_options values)) (sym t) ∙ unoffended values behind h in
    absurd (some_none (default_output values) file o (no_own_file values (no_version [] values first)))
fits_by values behind file false t h n o =
    let short : nat_lt most_output_path_bytes (length file) ≡ false =
    sym (ap (λ x. not (is_some x) && is_output_name_too_long (default_output values)) n ∙ ap is_output_name_too_long o) ∙ t in
    ltb-false most_output_path_bytes (length file) short

pub own_fits : (values : List OptionValue) (behind : ℕ) (file : List ℕ) → is_ok (information_with_missing_reported_at_place values behind) ≡ true → named_output values ≡ None → default_output values ≡ Some file → length file ≤ most_output_path_bytes
own_fits values behind file h n o = fits_by values behind file (is_output_default_and_too_long values) refl h n o

-- ---- what is answered

pub named_case : (command : CommandLine) (name : Option (List ℕ)) (file : List ℕ) → is_ok (information command) ≡ true → name ≡ Some file → name ≡ named_output command.values → Some file ≡ named_or_default_package_output command
named_case command name file good some h =
    let named : named_output command.values ≡ Some file = sym h ∙ some in
    sym (allowed (information command) (option_or (named_output command.values) (default_output command.values)) good ∙ ap (λ o. option_or o (default_output command.values)) named)

pub own_case : {E : Type 0} (r : Result (Option (List ℕ)) E) (command : CommandLine) (file : List ℕ) → HaveVersionBytes → is_ok (information command) ≡ true → named_output command.values ≡ None → default_output command.values ≡ Some file → IfOk r (λ found. is_some found ≡ is_name file) → IfOk r (λ found. IfSome found (λ name. name ≡ file)) → IfOk r (λ name. name ≡ named_or_default_package_output command)
own_case r command file spelled good n o when value =
    read_name r file (named_or_default_package_output command) when value (own_file_name spelled command.values file o (own_fits command.values command.behind file good n o))
    (sym (allowed (information command) (option_or (named_output command.values) (default_output command.values)) good ∙ (ap (λ x. option_or x (default_output command.values)) n ∙ o)))
