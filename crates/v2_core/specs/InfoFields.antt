-- The fields of a package in lines of a text database, and the grammar of each one's values.
-- The rules are in `docs/formats.md`, "Text database of version 2", the table, from C to the row D, p,
-- r, i.
use Rattle.std.specs.Prelude.{ℕ, ◌==◌, Bool, true, false, List, [], ◌∷◌, Option}
use Rattle.std.specs.List.{find}
use Rattle.v2_core.specs.declared.field.InfoField.{InfoField}
use Rattle.v2_core.specs.declared.field.InfoField.TheVariants as Fields
use Rattle.v2_core.specs.declared.field.Grammar.{Grammar}
use Rattle.v2_core.specs.declared.field.Grammar.TheVariants as Grammars

-- the letter with which the lines of a field begin, as the byte of C, P, V, A, T, U, L, o, m, I, t, k,
-- q, c, D, p, r or i
abbrev pub letter_of : InfoField → ℕ
letter_of Fields.Hashes = 67
letter_of Fields.Name = 80
letter_of Fields.Version = 86
letter_of Fields.Arch = 65
letter_of Fields.Description = 84
letter_of Fields.Url = 85
letter_of Fields.License = 76
letter_of Fields.Origin = 111
letter_of Fields.Maintainer = 109
letter_of Fields.InstalledSize = 73
letter_of Fields.BuildTime = 116
letter_of Fields.ProviderPriority = 107
letter_of Fields.ReplacesPriority = 113
letter_of Fields.RepoCommit = 99
letter_of Fields.Depends = 68
letter_of Fields.Provides = 112
letter_of Fields.Replaces = 114
letter_of Fields.InstallIf = 105

-- the fields of a package that a line may have, in the order of those letters
abbrev pub info_fields : List InfoField
info_fields =
    Fields.Hashes ∷ Fields.Name ∷ Fields.Version ∷ Fields.Arch ∷ Fields.Description ∷ Fields.Url
    ∷ Fields.License ∷ Fields.Origin ∷ Fields.Maintainer ∷ Fields.InstalledSize
    ∷ Fields.BuildTime ∷ Fields.ProviderPriority ∷ Fields.ReplacesPriority ∷ Fields.RepoCommit
    ∷ Fields.Depends ∷ Fields.Provides ∷ Fields.Replaces ∷ Fields.InstallIf ∷ []

-- the first of some fields whose lines begin with this letter
abbrev pub info_field_among : List InfoField → ℕ → Option InfoField
info_field_among among letter = find (λ f. letter_of f == letter) among

-- the field whose lines begin with the letter; other letters give none
unfoldable pub field_of_letter : ℕ → Option InfoField
field_of_letter letter = info_field_among info_fields letter

-- the grammar of a field's values
abbrev pub grammar_of : InfoField → Grammar
grammar_of Fields.Hashes = Grammars.Sha1Text
grammar_of Fields.Name = Grammars.PackageName
grammar_of Fields.Version = Grammars.PackageVersion
grammar_of Fields.Arch = Grammars.AnyText
grammar_of Fields.Description = Grammars.AnyText
grammar_of Fields.Url = Grammars.AnyText
grammar_of Fields.License = Grammars.AnyText
grammar_of Fields.Origin = Grammars.AnyText
grammar_of Fields.Maintainer = Grammars.AnyText
grammar_of Fields.InstalledSize = Grammars.Number
grammar_of Fields.BuildTime = Grammars.Number
grammar_of Fields.ProviderPriority = Grammars.Number
grammar_of Fields.ReplacesPriority = Grammars.Number
grammar_of Fields.RepoCommit = Grammars.Commit
grammar_of Fields.Depends = Grammars.Dependencies
grammar_of Fields.Provides = Grammars.Dependencies
grammar_of Fields.Replaces = Grammars.Dependencies
grammar_of Fields.InstallIf = Grammars.Dependencies

-- whether a record may have several lines of a field, each of which adds to a list
abbrev pub is_list_info_field : InfoField → Bool
is_list_info_field Fields.Depends = true
is_list_info_field Fields.Provides = true
is_list_info_field Fields.Replaces = true
is_list_info_field Fields.InstallIf = true
is_list_info_field f = false
