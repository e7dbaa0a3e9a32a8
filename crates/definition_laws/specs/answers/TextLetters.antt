-- Which field of a package each letter of a text database gives, and with which values. The table of letters is in
-- `docs/formats.md`, "Text database of version 2"; the names of fields are those of "Schemas". Serves the laws of
-- `src/letters.rt`.
use Rattle.std.specs.Prelude.{◌≡◌, ◌⊎◌, ℕ, Bool, true, false, List, [], ◌∷◌, ◌++◌, length, codes, Option, Some, Ok}
use Rattle.std.specs.Option.{option_and_then}
use Rattle.base64.specs.Engines.{standard}
use Rattle.base64.specs.GeneralPurpose.{decode_of as base64_bytes}
use Rattle.adb_view.specs.Plain.{Plain}
use Rattle.adb_view.specs.declared.tables.Which.TheVariants.{Package, PkgInfo}
use Rattle.base_core.specs.Lists.{IsIn}
use Rattle.change_outcome.specs.make_info.Fields.{TextNumberOrDependency, text}
use Rattle.change_outcome.specs.make_info.declared.field.Field.TheVariants as Options
use Rattle.definition_laws.specs.making.NamedFields.{field_named}
use Rattle.definition_laws.specs.making.OptionGrammar.{SaysNumber, FieldTextGivesValues}
use Rattle.definition_laws.specs.making.SaidOfFields.{HasValuesAsList}
use Rattle.change_outcome.specs.v2_core.Reading.{record_with_text_line}
use Rattle.change_outcome.specs.v2_core.Records.{Record}
use Rattle.change_outcome.specs.v2_core.declared.field.InfoField.{InfoField}
use Rattle.change_outcome.specs.v2_core.declared.field.InfoField.TheVariants as Letters

-- ---- the table of letters

-- the letter with which the lines of a package's field begin
abbrev pub line_letter : InfoField → List ℕ
line_letter Letters.Hashes = codes "C"
line_letter Letters.Name = codes "P"
line_letter Letters.Version = codes "V"
line_letter Letters.Arch = codes "A"
line_letter Letters.Description = codes "T"
line_letter Letters.Url = codes "U"
line_letter Letters.License = codes "L"
line_letter Letters.Origin = codes "o"
line_letter Letters.Maintainer = codes "m"
line_letter Letters.InstalledSize = codes "I"
line_letter Letters.BuildTime = codes "t"
line_letter Letters.ProviderPriority = codes "k"
line_letter Letters.ReplacesPriority = codes "q"
line_letter Letters.RepoCommit = codes "c"
line_letter Letters.Depends = codes "D"
line_letter Letters.Provides = codes "p"
line_letter Letters.Replaces = codes "r"
line_letter Letters.InstallIf = codes "i"

-- the letters in the table of `docs/formats.md`: those of a package's fields, and last those of folders and files
abbrev pub known_line_letters : List ℕ
known_line_letters = codes "CPVATULomItkqcDpriFMRaZ"

-- the name, in the schema of a package, of the field that the lines of a letter give
abbrev pub letter_field_name : InfoField → List ℕ
letter_field_name Letters.Hashes = codes "hashes"
letter_field_name Letters.Name = codes "name"
letter_field_name Letters.Version = codes "version"
letter_field_name Letters.Arch = codes "arch"
letter_field_name Letters.Description = codes "description"
letter_field_name Letters.Url = codes "url"
letter_field_name Letters.License = codes "license"
letter_field_name Letters.Origin = codes "origin"
letter_field_name Letters.Maintainer = codes "maintainer"
letter_field_name Letters.InstalledSize = codes "installed-size"
letter_field_name Letters.BuildTime = codes "build-time"
letter_field_name Letters.ProviderPriority = codes "provider-priority"
letter_field_name Letters.ReplacesPriority = codes "replaces-priority"
letter_field_name Letters.RepoCommit = codes "repo-commit"
letter_field_name Letters.Depends = codes "depends"
letter_field_name Letters.Provides = codes "provides"
letter_field_name Letters.Replaces = codes "replaces"
letter_field_name Letters.InstallIf = codes "install-if"

-- whether each line with the field's letter adds its values to a list. Of any other letter, a record (the lines of
-- one package) has at most one line
abbrev pub is_list_letter : InfoField → Bool
is_list_letter Letters.Depends = true
is_list_letter Letters.Provides = true
is_list_letter Letters.Replaces = true
is_list_letter Letters.InstallIf = true
is_list_letter f = false

-- the value, in a package, of the field that a letter gives. The field is in the package's information, except
-- `replaces-priority`, which is a field of the package itself
abbrev pub letter_value_in_package : InfoField → Plain → Plain
letter_value_in_package Letters.ReplacesPriority pkg =
    field_named Package (letter_field_name Letters.ReplacesPriority) pkg
letter_value_in_package f pkg =
    field_named PkgInfo (letter_field_name f) (field_named Package (codes "info") pkg)

-- ---- which values the text after the colon of a line gives to a field

-- the text `value` gives one value, a hash of 20 bytes (`said`): the text is `Q1`, followed by the base64 of the hash
abbrev pub GivesHash : List ℕ → List TextNumberOrDependency → Type 0
GivesHash value said =
    (encoded : List ℕ) × (bytes : List ℕ) × (value ≡ codes "Q1" ++ encoded)
    × (base64_bytes standard encoded ≡ Ok bytes) × (length bytes ≡ 20) × (said ≡ text bytes ∷ [])

-- the text `value` gives the values `said`: those of the option `-I repo-commit:VALUE` of `mkpkg`. A text that this
-- option does not allow gives no value
abbrev pub GivesCommit : List ℕ → List TextNumberOrDependency → Type 0
GivesCommit value said =
    FieldTextGivesValues Options.RepoCommit value said
    ⊎ (((given : List TextNumberOrDependency) → FieldTextGivesValues Options.RepoCommit value given → ⊥)
    × (said ≡ []))

-- `value`, which follows the letter of this field and a colon in a line, is allowed there and gives the values `said`:
-- those of an option `-I` of `mkpkg` with this text; `Hashes`, `InstalledSize` and `RepoCommit` have their own rules
abbrev pub LineValueGivesFieldValues : InfoField → List ℕ → List TextNumberOrDependency → Type 0
LineValueGivesFieldValues Letters.Hashes value said = GivesHash value said
LineValueGivesFieldValues Letters.Name value said = FieldTextGivesValues Options.Name value said
LineValueGivesFieldValues Letters.Version value said = FieldTextGivesValues Options.Version value said
LineValueGivesFieldValues Letters.Arch value said = FieldTextGivesValues Options.Arch value said
LineValueGivesFieldValues Letters.Description value said =
    FieldTextGivesValues Options.Description value said
LineValueGivesFieldValues Letters.Url value said = FieldTextGivesValues Options.Url value said
LineValueGivesFieldValues Letters.License value said = FieldTextGivesValues Options.License value said
LineValueGivesFieldValues Letters.Origin value said = FieldTextGivesValues Options.Origin value said
LineValueGivesFieldValues Letters.Maintainer value said = FieldTextGivesValues Options.Maintainer value said
LineValueGivesFieldValues Letters.InstalledSize value said = SaysNumber value said
LineValueGivesFieldValues Letters.BuildTime value said = FieldTextGivesValues Options.BuildTime value said
LineValueGivesFieldValues Letters.ProviderPriority value said =
    FieldTextGivesValues Options.ProviderPriority value said
LineValueGivesFieldValues Letters.ReplacesPriority value said =
    FieldTextGivesValues Options.ReplacesPriority value said
LineValueGivesFieldValues Letters.RepoCommit value said = GivesCommit value said
LineValueGivesFieldValues Letters.Depends value said = FieldTextGivesValues Options.Depends value said
LineValueGivesFieldValues Letters.Provides value said = FieldTextGivesValues Options.Provides value said
LineValueGivesFieldValues Letters.Replaces value said = FieldTextGivesValues Options.Replaces value said
LineValueGivesFieldValues Letters.InstallIf value said = FieldTextGivesValues Options.InstallIf value said

-- ---- lines

-- a line: a letter, a colon and a value
abbrev pub letter_line : List ℕ → List ℕ → List ℕ
letter_line letter value = letter ++ codes ":" ++ value

-- a line gives the values `said` to a field; a line with another letter than the field's gives none
abbrev pub LineGivesFieldValues : InfoField → List ℕ → List TextNumberOrDependency → Type 0
LineGivesFieldValues f line said =
    ((value : List ℕ) × (line ≡ letter_line (line_letter f) value) × LineValueGivesFieldValues f value said)
    ⊎ (((value : List ℕ) → line ≡ letter_line (line_letter f) value → ⊥) × (said ≡ []))

-- lines together give the values `said` to a field: those of the first line, then those of the next, and so on
abbrev pub LinesGiveFieldValues : InfoField → List (List ℕ) → List TextNumberOrDependency → Type 0
LinesGiveFieldValues f [] said = said ≡ []
LinesGiveFieldValues f (line ∷ lines) said =
    (here : List TextNumberOrDependency) × (further : List TextNumberOrDependency)
    × LineGivesFieldValues f line here × LinesGiveFieldValues f lines further × (said ≡ here ++ further)

-- the record `r` with the contents of these further lines, in their order; None if one of the lines is not allowed
abbrev pub record_with_lines : Record → List (List ℕ) → Option Record
record_with_lines r [] = Some r
record_with_lines r (line ∷ lines) =
    option_and_then (λ next. record_with_lines next lines) (record_with_text_line r line)

-- the field `f` of the package has the values that the lines with its letter give: all of them if the field is a list,
-- otherwise the first
pub record HasFieldValuesOfLinesWithItsLetter (f : InfoField) (lines : List (List ℕ))
    (pkg : Plain) : Type 0 where
  -- the values that the lines of the field's letter give
  pub said : List TextNumberOrDependency
  -- the lines give exactly these values, in this order
  pub say : LinesGiveFieldValues f lines said
  -- the field has all of them if it is a list, otherwise the first
  pub tells : HasValuesAsList (is_list_letter f) said (letter_value_in_package f pkg)

-- a line begins with one byte and a colon, and the byte is no letter of the table in `docs/formats.md`
pub record BeginsWithUnlistedLetterAndColon (line : List ℕ) : Type 0 where
  -- the first byte of the line
  pub letter : ℕ
  -- the bytes after the colon
  pub value : List ℕ
  -- the line is this byte, a colon and these bytes
  pub line_is : line ≡ letter ∷ codes ":" ++ value
  -- the byte is none of the letters of the table
  pub unlisted : IsIn letter known_line_letters → ⊥
