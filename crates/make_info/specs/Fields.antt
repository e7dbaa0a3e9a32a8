-- The fields that `-I` of `mkpkg` may give, and the meaning of each one's values (apk(8), `mkpkg`).
-- The rules are in `docs/commands.md`, "`mkpkg`", the table of fields; of dependencies without tag in
-- `docs/formats.md`, "Dependencies".
use Rattle.std.specs.Prelude.{ℕ, ◌^◌, ◌==◌, nat_lt, Bool, true, false, ◌&&◌, if◌then◌else◌, List, [], ◌∷◌, length, map, codes, Option, Some, None, option_map, option_and_then, is_some, Result, Ok, Err}
use Rattle.std.specs.List.{filter, find, slice_split}
use Rattle.std.specs.Str.{bytes_eq}
use Rattle.std.specs.Str.Parse.{digits_value}
use Rattle.command_core.specs.Operands.{is_decimal_without_leading_zeros}
use Rattle.hex.specs.Hex.{decode_of}
use Rattle.hex.specs.declared.error.FromHexError.{FromHexError}
use Rattle.version_core.specs.Order.{is_version}
use Rattle.dep_core.specs.Dependency.{Dependency, is_package_name}
use Rattle.dep_core.specs.Reading.{dependency_of}
use Rattle.make_info.specs.declared.field.Field.{Field}
use Rattle.make_info.specs.declared.field.Field.TheVariants as Fields
use Rattle.make_info.specs.declared.field.Kind.{Kind}
use Rattle.make_info.specs.declared.field.Kind.TheVariants as Kinds

-- the word that names a field: the text before the `:` of a value of `-I`
abbrev pub field_word : Field → List ℕ
field_word Fields.Name = codes "name"
field_word Fields.Version = codes "version"
field_word Fields.Description = codes "description"
field_word Fields.Arch = codes "arch"
field_word Fields.License = codes "license"
field_word Fields.Origin = codes "origin"
field_word Fields.Maintainer = codes "maintainer"
field_word Fields.Url = codes "url"
field_word Fields.RepoCommit = codes "repo-commit"
field_word Fields.BuildTime = codes "build-time"
field_word Fields.ProviderPriority = codes "provider-priority"
field_word Fields.ReplacesPriority = codes "replaces-priority"
field_word Fields.Depends = codes "depends"
field_word Fields.Provides = codes "provides"
field_word Fields.Replaces = codes "replaces"
field_word Fields.InstallIf = codes "install-if"
field_word Fields.Recommends = codes "recommends"
field_word Fields.Tags = codes "tags"

-- the fields that `-I` may give
abbrev pub fields : List Field
fields =
    Fields.Name ∷ Fields.Version ∷ Fields.Description ∷ Fields.Arch ∷ Fields.License
    ∷ Fields.Origin ∷ Fields.Maintainer ∷ Fields.Url ∷ Fields.RepoCommit ∷ Fields.BuildTime
    ∷ Fields.ProviderPriority ∷ Fields.ReplacesPriority ∷ Fields.Depends ∷ Fields.Provides
    ∷ Fields.Replaces ∷ Fields.InstallIf ∷ Fields.Recommends ∷ Fields.Tags ∷ []

-- the first of the given fields that is named by this word
abbrev pub field_among : List Field → List ℕ → Option Field
field_among fields word = find (λ f. bytes_eq (field_word f) word) fields

-- the field that is named by this word; None if no field has this name
unfoldable pub field_of : List ℕ → Option Field
field_of word = field_among fields word

-- the grammar of a field's values
abbrev pub kind_of_field : Field → Kind
kind_of_field Fields.Name = Kinds.PackageName
kind_of_field Fields.Version = Kinds.PackageVersion
kind_of_field Fields.Description = Kinds.AnyText
kind_of_field Fields.Arch = Kinds.AnyText
kind_of_field Fields.License = Kinds.AnyText
kind_of_field Fields.Origin = Kinds.AnyText
kind_of_field Fields.Maintainer = Kinds.AnyText
kind_of_field Fields.Url = Kinds.AnyText
kind_of_field Fields.RepoCommit = Kinds.HexDigits
kind_of_field Fields.BuildTime = Kinds.Number
kind_of_field Fields.ProviderPriority = Kinds.Number
kind_of_field Fields.ReplacesPriority = Kinds.Number
kind_of_field Fields.Depends = Kinds.Dependencies
kind_of_field Fields.Provides = Kinds.Dependencies
kind_of_field Fields.Replaces = Kinds.Dependencies
kind_of_field Fields.InstallIf = Kinds.Dependencies
kind_of_field Fields.Recommends = Kinds.Dependencies
kind_of_field Fields.Tags = Kinds.Texts

-- whether fields of this kind may be given several times, so that each value is added to the list
abbrev pub may_repeat : Kind → Bool
may_repeat Kinds.PackageName = false
may_repeat Kinds.PackageVersion = false
may_repeat Kinds.AnyText = false
may_repeat Kinds.HexDigits = false
may_repeat Kinds.Number = false
may_repeat Kinds.Dependencies = true
may_repeat Kinds.Texts = true

-- one value of a field: a text, a number, or a dependency; pairs of hexadecimal digits are decoded
pub data TextNumberOrDependency : Type 0 where
  text : List ℕ → TextNumberOrDependency
  number : ℕ → TextNumberOrDependency
  need : Dependency → TextNumberOrDependency

-- ---- the values of a text under a kind; None if it is not in the kind's grammar

-- the one value of a text field, if the rule of the field allows the text (the first argument)
abbrev pub text_value_if : Bool → List ℕ → Option (List TextNumberOrDependency)
text_value_if true value = Some (text value ∷ [])
text_value_if false value = None

-- the one value of a field of hexadecimal digits, given the result of decoding them: the decoded bytes;
-- None if the text is not hexadecimal
abbrev pub field_values_of_decoded_hex : Result (List ℕ) FromHexError → Option (List TextNumberOrDependency)
field_values_of_decoded_hex (Ok bytes) = Some (text bytes ∷ [])
field_values_of_decoded_hex (Err e) = None

-- the number that a text encodes; None if it is none, has a leading zero or more than 64 bits
abbrev pub decimal_number_without_leading_zeros : List ℕ → Option ℕ
decimal_number_without_leading_zeros value =
    if is_decimal_without_leading_zeros value && nat_lt (digits_value 10 value) (2 ^ 64) then
    Some (digits_value 10 value) else None

-- whether a part between spaces is not empty; empty parts are skipped
abbrev pub is_nonempty : List ℕ → Bool
is_nonempty part = nat_lt 0 (length part)

-- the parts of a text between spaces (32) that are not empty; a tab separates no parts
abbrev pub nonempty_parts_between_spaces : List ℕ → List (List ℕ)
nonempty_parts_between_spaces value = filter is_nonempty (slice_split (λ b. b == 32) value)

-- the values of a field of texts: each part between spaces is one value
abbrev pub text_values : List (List ℕ) → List TextNumberOrDependency
text_values parts = map text parts

-- a dependency, if it has no tag: only world may have tags, a package never
abbrev pub dependency_if_untagged : Dependency → Option Dependency
dependency_if_untagged d = if is_some d.tag then None else Some d

-- the dependency that a text encodes, if it encodes one without a tag
abbrev pub untagged_dependency_in : List ℕ → Option Dependency
untagged_dependency_in part = option_and_then dependency_if_untagged (dependency_of part)

-- the value of the dependency `d`, followed by other values; None if `d` or `others` is None
abbrev pub dependency_value_and_others : Option Dependency → Option (List TextNumberOrDependency)
    → Option (List TextNumberOrDependency)
dependency_value_and_others d others =
    option_and_then (λ d. option_map (λ others. need d ∷ others) others) d

-- the values of a field of dependencies, one for each part; None if a part is no dependency without a tag
abbrev pub dependency_values_of_parts : List (List ℕ) → Option (List TextNumberOrDependency)
dependency_values_of_parts [] = Some []
dependency_values_of_parts (part ∷ parts) =
    dependency_value_and_others (untagged_dependency_in part) (dependency_values_of_parts parts)

-- the values that the text `value` gives to a field of this kind: any number for a list, one for another
-- kind. None if the text is not in the grammar of the kind
abbrev pub values_by_kind : Kind → List ℕ → Option (List TextNumberOrDependency)
values_by_kind Kinds.PackageName value = text_value_if (is_package_name value) value
values_by_kind Kinds.PackageVersion value = text_value_if (is_version value) value
values_by_kind Kinds.AnyText value = text_value_if true value
values_by_kind Kinds.HexDigits value = field_values_of_decoded_hex (decode_of value)
values_by_kind Kinds.Number value =
    option_map (λ n. number n ∷ []) (decimal_number_without_leading_zeros value)
values_by_kind Kinds.Dependencies value = dependency_values_of_parts (nonempty_parts_between_spaces value)
values_by_kind Kinds.Texts value = Some (text_values (nonempty_parts_between_spaces value))
