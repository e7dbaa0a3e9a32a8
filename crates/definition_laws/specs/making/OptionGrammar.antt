-- Which values `-I` accepts, field by field (apk(8), `mkpkg`), and their meaning.
-- The rules are in `docs/commands.md`, "`mkpkg`": the table of fields, and which field is given once;
-- the grammar of a dependency in `docs/formats.md`, "Dependencies".
use Rattle.std.specs.Prelude.{◌≡◌, ◌≢◌, ℕ, ◌*◌, ◌+◌, ◌^◌, ◌<◌, ◌==◌, Bool, true, false, not, List, [], ◌∷◌, ◌++◌, length, map, None, Some}
use Rattle.std.specs.Fmt.{decimal}
use Rattle.std.specs.List.{filter, slice_split}
use Rattle.hex.specs.Hex.{hex_digit_value}
use Rattle.make_core.specs.adb_fields.FirstPair.{IsIn}
use Rattle.command_core.specs.declared.values.OptionValue.{OptionValue}
use Rattle.dep_core.specs.Dependency.{is_package_name}
use Rattle.dep_core.specs.Spelling.{SpellsDependency}
use Rattle.version_core.specs.Order.{is_version}
use Rattle.make_core.specs.make_info.declared.field.Field.{Field}
use Rattle.make_core.specs.make_info.declared.field.Field.TheVariants as Fields
use Rattle.make_core.specs.make_info.Fields.{TextNumberOrDependency, text, number, need, field_word}

-- the text of a value of `-I`: FIELD:VALUE, with a colon (58) between them
abbrev pub option_text : Field → List ℕ → List ℕ
option_text f value = field_word f ++ 58 ∷ value

-- ---- the grammars

-- the first text has the hexadecimal digits of the bytes: two digits, of either case, for each byte
abbrev pub SpellsBytes : List ℕ → List ℕ → Type 0
SpellsBytes [] [] = Unit {0}
SpellsBytes [] (byte ∷ bytes) = ⊥
SpellsBytes (digit ∷ []) bytes = ⊥
SpellsBytes (high ∷ low ∷ digits) [] = ⊥
SpellsBytes (high ∷ low ∷ digits) (byte ∷ bytes) =
    ((h : ℕ) × (l : ℕ) × (hex_digit_value high ≡ Some h) × (hex_digit_value low ≡ Some l)
    × (byte ≡ h * 16 + l))
    × SpellsBytes digits bytes

-- the text is the decimal form of the number `n`, which is below 2^64; it has no leading zero
abbrev pub SpellsNumber : List ℕ → ℕ → Type 0
SpellsNumber value n = (n < 2 ^ 64) × (value ≡ decimal n)

-- the parts of a value between spaces (32) that are not empty
abbrev pub spaced_parts : List ℕ → List (List ℕ)
spaced_parts value = filter (λ part. not (length part == 0)) (slice_split (λ b. b == 32) value)

-- each part encodes the dependency at the same place of the other list, which has no tag; both lists have
-- the same length
abbrev pub SpellDependencies : List (List ℕ) → List TextNumberOrDependency → Type 0
SpellDependencies [] [] = Unit {0}
SpellDependencies [] (value ∷ values) = ⊥
SpellDependencies (part ∷ parts) [] = ⊥
SpellDependencies (part ∷ parts) (text bytes ∷ values) = ⊥
SpellDependencies (part ∷ parts) (number n ∷ values) = ⊥
SpellDependencies (part ∷ parts) (need d ∷ values) =
    (SpellsDependency part d × (d.tag ≡ None)) × SpellDependencies parts values

-- ---- field by field

-- the text `value` of a text field gives one value: the text itself
abbrev pub SaysText : List ℕ → List TextNumberOrDependency → Type 0
SaysText value said = said ≡ text value ∷ []

-- the text `value` of a number field gives one value: the number that it encodes
abbrev pub SaysNumber : List ℕ → List TextNumberOrDependency → Type 0
SaysNumber value said = (n : ℕ) × SpellsNumber value n × (said ≡ number n ∷ [])

-- the text `value` of a field of dependencies gives one dependency for each part between spaces that is
-- not empty
abbrev pub SaysDependencies : List ℕ → List TextNumberOrDependency → Type 0
SaysDependencies value said = SpellDependencies (spaced_parts value) said

-- the text `value` is valid for the field, and gives the field the values `said`
abbrev pub FieldTextGivesValues : Field → List ℕ → List TextNumberOrDependency → Type 0
FieldTextGivesValues Fields.Name value said = (is_package_name value ≡ true) × SaysText value said
FieldTextGivesValues Fields.Version value said = (is_version value ≡ true) × SaysText value said
FieldTextGivesValues Fields.Description value said = SaysText value said
FieldTextGivesValues Fields.Arch value said = SaysText value said
FieldTextGivesValues Fields.License value said = SaysText value said
FieldTextGivesValues Fields.Origin value said = SaysText value said
FieldTextGivesValues Fields.Maintainer value said = SaysText value said
FieldTextGivesValues Fields.Url value said = SaysText value said
FieldTextGivesValues Fields.RepoCommit value said =
    (bytes : List ℕ) × SpellsBytes value bytes × (said ≡ text bytes ∷ [])
FieldTextGivesValues Fields.BuildTime value said = SaysNumber value said
FieldTextGivesValues Fields.ProviderPriority value said = SaysNumber value said
FieldTextGivesValues Fields.ReplacesPriority value said = SaysNumber value said
FieldTextGivesValues Fields.Depends value said = SaysDependencies value said
FieldTextGivesValues Fields.Provides value said = SaysDependencies value said
FieldTextGivesValues Fields.Replaces value said = SaysDependencies value said
FieldTextGivesValues Fields.InstallIf value said = SaysDependencies value said
FieldTextGivesValues Fields.Recommends value said = SaysDependencies value said
FieldTextGivesValues Fields.Tags value said = said ≡ map text (spaced_parts value)

-- ---- a value of `-I` among others

-- whether the field is a list, to which each of its values adds
abbrev pub is_list_field : Field → Bool
is_list_field Fields.Depends = true
is_list_field Fields.Provides = true
is_list_field Fields.Replaces = true
is_list_field Fields.InstallIf = true
is_list_field Fields.Recommends = true
is_list_field Fields.Tags = true
is_list_field f = false

-- the option gives a value for the field
abbrev pub IsGivenFor : Field → OptionValue → Type 0
IsGivenFor f option = (value : List ℕ) × (option.text ≡ option_text f value)

-- a value of `-I` (`option`) is accepted after the values `before`. Its text is valid for its field. If
-- the field is no list, no earlier value is for it. If `too_long` is true (NAME-VERSION.apk would be too
-- long), it is no version
pub record IsAcceptedInfoOption (too_long : Bool) (before : List OptionValue) (option : OptionValue) :
    Type 0 where
  -- the field that the option names
  pub field : Field
  -- the text that the option gives for this field
  pub value : List ℕ
  -- the option is spelled with the field's name and this text
  pub given : option.text ≡ option_text field value
  -- the values that the text gives, several for a list field
  pub said : List TextNumberOrDependency
  -- the grammar of the field allows the text, with these values
  pub allowed : FieldTextGivesValues field value said
  -- if the field is no list, no earlier option is given for it
  pub first : is_list_field field ≡ false → (other : OptionValue) → IsIn other before
      → IsGivenFor field other → ⊥
  -- if a version would make NAME-VERSION.apk too long, the field is not the version
  pub short : too_long ≡ true → field ≢ Fields.Version
