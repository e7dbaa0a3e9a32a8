-- The values of `-I` of a command: the field of each, among them the package's name and version, and the
-- file that is made. The rules are in `docs/commands.md`, "`mkpkg`", the first paragraph and part
-- "Information", and in "Words", the rows of `-I` and `-o`.
use Rattle.command_core.specs.declared.values.TheConstants.{INFO, OUTPUT}
use Rattle.std.specs.Prelude.{ℕ, ◌+◌, ◌==◌, nat_lt, Bool, false, List, [], ◌∷◌, length, take, drop, position, Option, Some, None, option_map, option_and_then, is_some, not, ◌&&◌, if◌then◌else◌}
use Rattle.std.specs.List.{filter}
use Rattle.std.specs.Option.{option_or}
use Rattle.std.specs.Str.{bytes_eq}
use Rattle.version_core.specs.Order.{is_version}
use Rattle.dep_core.specs.Dependency.{is_package_name}
use Rattle.root_names.specs.PackagePath.{package_file_name}
use Rattle.command_core.specs.Values.{first_value_with_letter}
use Rattle.make_info.specs.declared.information.TheConstants.{COLON}
use Rattle.command_core.specs.Files.{most_output_path_bytes, without_one_leading_dot_slash}
use Rattle.command_core.specs.declared.values.OptionValue.{OptionValue}
use Rattle.make_info.specs.declared.field.Field.{Field}
use Rattle.make_info.specs.declared.field.Field.TheVariants as Fields
use Rattle.make_info.specs.Fields.{field_of, field_word}

-- a value FIELD:VALUE of `-I`, as a field and the text of its value
pub record FieldText : Type 0 where
  -- the field that the option names
  pub field : Field
  -- the text after the field's name and the separator
  pub value : List ℕ

-- the field and the value of a text, given how many bytes are before its first `:`
abbrev pub field_text_split_at_colon : List ℕ → Option ℕ → Option FieldText
field_text_split_at_colon text None = None
field_text_split_at_colon text (Some colon) =
    option_map (λ f. record { field = f; value = drop (colon + 1) text })
    (field_of (take colon text))

-- a text FIELD:VALUE; FIELD ends before the first `:`; None if there is no `:`, or FIELD is no field
abbrev pub field_text_in : List ℕ → Option FieldText
field_text_in text = field_text_split_at_colon text (position (λ b. b == COLON) text)

-- whether two fields are the same: they are named by the same word
abbrev pub is_same_field : Field → Field → Bool
is_same_field f g = bytes_eq (field_word f) (field_word g)

-- whether a text FIELD:VALUE is for this field; false if the text was no FIELD:VALUE (None)
abbrev pub is_field_text_for_field : Field → Option FieldText → Bool
is_field_text_for_field f None = false
is_field_text_for_field f (Some given) = is_same_field given.field f

-- whether a value of `-I` is for a field
abbrev pub has_text_for_field_whatever_letter : Field → OptionValue → Bool
has_text_for_field_whatever_letter f v = is_field_text_for_field f (field_text_in v.text)

-- whether a value of an option is one of `-I`; values of other options, such as `-o`, do not describe the
-- package
abbrev pub is_info_option : OptionValue → Bool
is_info_option v = v.letter == INFO

-- the values of `-I`, in the order given
abbrev pub values_of_info_options : List OptionValue → List OptionValue
values_of_info_options values = filter is_info_option values

-- the text VALUE of FIELD:VALUE, if FIELD is this field
abbrev pub value_if_for_field : Field → Option FieldText → Option (List ℕ)
value_if_for_field f None = None
value_if_for_field f (Some given) = if is_same_field given.field f then Some given.value else None

-- the text VALUE in the value of an option, if the option is `-I` and its FIELD is this field
abbrev pub option_text_for_field : Field → OptionValue → Option (List ℕ)
option_text_for_field f v = if is_info_option v then value_if_for_field f (field_text_in v.text) else None

-- the text VALUE of the first value of `-I` for this field, valid or not; `values` are the values of all
-- options
abbrev pub first_text_for : Field → List OptionValue → Option (List ℕ)
first_text_for f [] = None
first_text_for f (v ∷ vs) = option_or (option_text_for_field f v) (first_text_for f vs)

-- the value, if it passes the test `is_good`
abbrev pub value_if_passes : (List ℕ → Bool) → List ℕ → Option (List ℕ)
value_if_passes is_good value = if is_good value then Some value else None

-- the package's name: the first value of `-I` for the name, if it is valid
abbrev pub package_name_in : List OptionValue → Option (List ℕ)
package_name_in values =
    option_and_then (value_if_passes is_package_name) (first_text_for Fields.Name values)

-- the package's version: the first value of `-I` for the version, if it is valid
abbrev pub package_version_in : List OptionValue → Option (List ℕ)
package_version_in values =
    option_and_then (value_if_passes is_version) (first_text_for Fields.Version values)

-- the name of a package's file, NAME-VERSION.apk, from the package's name and version; None if one of
-- them is None
abbrev pub package_file_name_of : Option (List ℕ) → Option (List ℕ) → Option (List ℕ)
package_file_name_of name version =
    option_and_then (λ name. option_map (package_file_name name) version) name

-- the name of the output if `-o` gives none: NAME-VERSION.apk; None if the name or the version is missing
-- or not valid
abbrev pub default_output : List OptionValue → Option (List ℕ)
default_output values = package_file_name_of (package_name_in values) (package_version_in values)

-- the name of the file in a value of `-o`, without a leading `./`
abbrev pub value_text_without_dot_slash : OptionValue → List ℕ
value_text_without_dot_slash v = without_one_leading_dot_slash v.text

-- the file that `-o` names, if it was given
abbrev pub named_output : List OptionValue → Option (List ℕ)
named_output values = option_map value_text_without_dot_slash (first_value_with_letter OUTPUT values)

-- whether a file's name is too long: its scratch name, eight bytes longer, would be no name; if no
-- output is known, nothing is too long
abbrev pub is_output_name_too_long : Option (List ℕ) → Bool
is_output_name_too_long None = false
is_output_name_too_long (Some file) = nat_lt most_output_path_bytes (length file)

-- whether `-o` gives no output, and the default NAME-VERSION.apk is too long
abbrev pub is_output_default_and_too_long : List OptionValue → Bool
is_output_default_and_too_long values =
    not (is_some (named_output values)) && is_output_name_too_long (default_output values)
