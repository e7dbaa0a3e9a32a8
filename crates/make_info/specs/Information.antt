-- The information of a package by the values of `-I` (apk(8), `mkpkg`), and its value (apk-v3(5)).
-- The rules are in `docs/commands.md`, "`mkpkg`", the table of fields and the row of `invalid package
-- information`; the order of the fields in `docs/formats.md`, "Schemas", tables 1 and 3.
use Rattle.std.specs.Prelude.{ℕ, Bool, false, ◌&&◌, ◌||◌, not, if◌then◌else◌, List, [], ◌∷◌, ◌++◌, map, Option, Some, None, option_map, option_and_then, is_some, unwrap_or, Result, Ok, Err}
use Rattle.std.specs.List.{find, flat_map, list_any}
use Rattle.command_core.specs.Command.{CommandLine}
use Rattle.command_core.specs.declared.values.OptionValue.{OptionValue}
use Rattle.adb_view.specs.Plain.{Plain, null, int, Plains, none, more, blob_or_null, array_or_null, trimmed_object_or_null}
use Rattle.dep_core.specs.Value.{DepValue, dep_value}
use Rattle.make_info.specs.declared.field.Field.{Field}
use Rattle.make_info.specs.declared.field.Field.TheVariants as Fields
use Rattle.make_info.specs.Fields.{TextNumberOrDependency, text, number, need, may_repeat, kind_of_field, values_by_kind}
use Rattle.make_info.specs.FieldTexts.{FieldText, field_text_in, values_of_info_options, has_text_for_field_whatever_letter, is_same_field, is_output_default_and_too_long}
use Rattle.make_info.specs.Values.{number_or_null, size_or_null_if_zero}

-- An item of a package's information: a field with one value. The information is the list of all items,
-- in the order in which `-I` gives them. A list field has one item for each part of each text, another
-- field has one item.
pub record FieldWithValue : Type 0 where
  -- the field of `-I`
  pub field : Field
  -- one value of this field
  pub value : TextNumberOrDependency

-- the item of this field with this value
abbrev pub field_with_value : Field → TextNumberOrDependency → FieldWithValue
field_with_value f value = record { field = f; value = value }

-- the items `before`, followed by one item of the field for each of the values. None if the values are
-- None, as the text was not allowed
abbrev pub items_followed_by_values_of_field :
    List FieldWithValue → Field → Option (List TextNumberOrDependency) → Option (List FieldWithValue)
items_followed_by_values_of_field before f values =
    option_map (λ values. before ++ map (field_with_value f) values) values

-- the items of a text FIELD:VALUE; None if VALUE is not in the field's grammar
abbrev pub items_of_text : FieldText → Option (List FieldWithValue)
items_of_text given =
    items_followed_by_values_of_field [] given.field
    (values_by_kind (kind_of_field given.field) given.value)

-- the items of one value of `-I`; None if it is no FIELD:VALUE, or the value is not in the field's
-- grammar
abbrev pub items_of_option : OptionValue → Option (List FieldWithValue)
items_of_option v = option_and_then items_of_text (field_text_in v.text)

-- whether a text FIELD:VALUE is for a field that may be given only once, and one of the values `before`
-- is for this field. False if the text was no FIELD:VALUE (None)
abbrev pub gives_single_field_again : List OptionValue → Option FieldText → Bool
gives_single_field_again before None = false
gives_single_field_again before (Some given) =
    not (may_repeat (kind_of_field given.field))
    && list_any (has_text_for_field_whatever_letter given.field) before

-- whether the value `v` is for a field that may be given only once, and one of the values `before` is for
-- the same field
abbrev pub repeats_single_field : List OptionValue → OptionValue → Bool
repeats_single_field before v = gives_single_field_again before (field_text_in v.text)

-- whether the value `v` of `-I` offends (is refused) after the values `before`. It offends if it is not
-- in its field's grammar, or if its field may be given only once and was given before. The version also
-- offends if `too_long` is true: the default name of the output is too long
abbrev pub offends : Bool → List OptionValue → OptionValue → Bool
offends too_long before v =
    not (is_some (items_of_option v))
    || (repeats_single_field before v || (too_long && has_text_for_field_whatever_letter Fields.Version v))

-- the place of the first of the given values that offends; `before` are the values of `-I` before them
abbrev pub first_offence_place_by_output_length_after : Bool → List OptionValue → List OptionValue
    → Option ℕ
first_offence_place_by_output_length_after too_long before [] = None
first_offence_place_by_output_length_after too_long before (v ∷ vs) =
    if offends too_long before v then Some v.place
    else first_offence_place_by_output_length_after too_long (before ++ v ∷ []) vs

-- whether none of the values of `-I` is for the package's name, or none is for its version
abbrev pub lacks_name_or_version : List OptionValue → Bool
lacks_name_or_version values =
    not (list_any (has_text_for_field_whatever_letter Fields.Name) values)
    || not (list_any (has_text_for_field_whatever_letter Fields.Version) values)

-- the items of all values of `-I`, in their order; a value that is not allowed has none
abbrev pub items_of_valid_options : List OptionValue → List FieldWithValue
items_of_valid_options values = flat_map (λ v. unwrap_or (items_of_option v) []) values

-- the place that offends as an error, if there is one; otherwise the result `otherwise`
abbrev pub unless_offence :
    Option ℕ → Result (List FieldWithValue) ℕ → Result (List FieldWithValue) ℕ
unless_offence None otherwise = otherwise
unless_offence (Some place) otherwise = Err place

-- the information that the values of all options give, or the first place that offends as an error. This
-- is the place of a value of `-I`; or, if the name or the version is missing, `behind`, the place after
-- the last argument
unfoldable pub information_with_missing_reported_at_place : List OptionValue → ℕ
    → Result (List FieldWithValue) ℕ
information_with_missing_reported_at_place values behind =
    let own = values_of_info_options values in
    unless_offence (first_offence_place_by_output_length_after
    (is_output_default_and_too_long values) [] own)
    (if lacks_name_or_version own then Err behind else Ok (items_of_valid_options own))

-- the information of a command line, or the first place that offends; a missing name or version is
-- reported at the place after its last argument
abbrev pub information : CommandLine → Result (List FieldWithValue) ℕ
information command = information_with_missing_reported_at_place command.values command.behind

-- ---- the value of an information

-- the object of a dependency (table 1): name, version, match
abbrev pub dependency_object : DepValue → Plain
dependency_object v =
    trimmed_object_or_null
    (more (blob_or_null v.name) (more (blob_or_null v.version) (more (number_or_null v.matching) none)))

-- the plain value of one value of a field; an empty text is Null
abbrev pub plain_value : TextNumberOrDependency → Plain
plain_value (text bytes) = blob_or_null bytes
plain_value (number n) = int n
plain_value (need d) = dependency_object (dep_value d)

-- whether an item is one of this field
abbrev pub is_item_for : Field → FieldWithValue → Bool
is_item_for f item = is_same_field item.field f

-- the plain value of an item; Null if nothing is given for the field
abbrev pub item_value_or_null : Option FieldWithValue → Plain
item_value_or_null None = null
item_value_or_null (Some item) = plain_value item.value

-- the plain value of a field that is given once: that of its first item, or Null if it has none
abbrev pub value_of_single_field : Field → List FieldWithValue → Plain
value_of_single_field f info = item_value_or_null (find (is_item_for f) info)

-- the plain values of all items of a field, in their order
abbrev pub plain_values_of_field : Field → List FieldWithValue → Plains
plain_values_of_field f [] = none
plain_values_of_field f (item ∷ items) =
    if is_item_for f item then more (plain_value item.value) (plain_values_of_field f items)
    else plain_values_of_field f items

-- the plain value of a list field: the array of the values of all its items, or Null if it has none
abbrev pub value_of_list_field : Field → List FieldWithValue → Plain
value_of_list_field f info = array_or_null (plain_values_of_field f info)

-- the 22 fields of table 3 in order; `size` is the installed size, the sum of the sizes of the files. The
-- fields hashes (3), file-size (13), layer (20) and the unused one (22) are Null
abbrev pub information_fields_with_installed_size : List FieldWithValue → ℕ → Plains
information_fields_with_installed_size info size =
    more (value_of_single_field Fields.Name info)
    (more (value_of_single_field Fields.Version info) (more null
    (more (value_of_single_field Fields.Description info) (more (value_of_single_field Fields.Arch info)
    (more (value_of_single_field Fields.License info) (more (value_of_single_field Fields.Origin info)
    (more (value_of_single_field Fields.Maintainer info) (more (value_of_single_field Fields.Url info)
    (more (value_of_single_field Fields.RepoCommit info) (more (value_of_single_field Fields.BuildTime info)
    (more (size_or_null_if_zero size) (more null (more (value_of_single_field Fields.ProviderPriority info)
    (more (value_of_list_field Fields.Depends info) (more (value_of_list_field Fields.Provides info)
    (more (value_of_list_field Fields.Replaces info) (more (value_of_list_field Fields.InstallIf info)
    (more (value_of_list_field Fields.Recommends info) (more null
    (more (value_of_list_field Fields.Tags info) (more null none)))))))))))))))))))))

-- the object of a package's information; `size` is the installed size, the sum of the sizes of the files
unfoldable pub information_value_with_installed_size : List FieldWithValue → ℕ → Plain
information_value_with_installed_size info size =
    trimmed_object_or_null (information_fields_with_installed_size info size)

-- the number that the value is; None if the value is no number
abbrev pub number_in : TextNumberOrDependency → Option ℕ
number_in (text bytes) = None
number_in (number n) = Some n
number_in (need d) = None

-- the value of `-I` for the priority in replacing, if it is given. It is a field of the package, and not
-- of the object of its information
abbrev pub replaces_priority : List FieldWithValue → Option ℕ
replaces_priority info =
    option_and_then (λ (item : FieldWithValue). number_in item.value)
    (find (is_item_for Fields.ReplacesPriority) info)
