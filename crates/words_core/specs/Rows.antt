-- The meaning of the rows of the reader's tables, and their invariants. Serves the proofs of `options`
-- and the law `letters_are_those_of_short_words`, as the README says.
use Rattle.std.specs.Prelude.{ℕ, Bool, true, List, [], ◌∷◌}
use Rattle.std.specs.Str.{bytes_eq}
use Rattle.words_core.specs.declared.options.Meaning.{Meaning}
use Rattle.words_core.specs.declared.options.Meaning.TheVariants.{Value}
use Rattle.words_core.specs.declared.options.OptionRow.{OptionRow}
use Rattle.words_core.specs.declared.help_rows.HelpRow.{HelpRow}
use Rattle.words_core.specs.HelpTexts.{HelpLine, help_line}
use Rattle.words_core.specs.Options.{OptionSpec}

-- the option of a row of the table of options
abbrev pub option_spec : OptionRow → OptionSpec
option_spec row = record { long = row.long.now; short = row.short.now; meaning = row.meaning }

-- the byte that options begin with: `-`
abbrev pub dash : ℕ
dash = 45

-- whether an option that has values has this short word: a dash, and the letter under which its values are stored; true
-- of an option without values
abbrev pub has_letter : List ℕ → Meaning → Bool
has_letter short (Value rule) = bytes_eq short (dash ∷ (rule.letter ∷ []))
has_letter short meaning = true

-- whether the values of an option, if it has values, are stored under the letter of its short word
abbrev pub are_values_stored_under_short_letter : OptionSpec → Bool
are_values_stored_under_short_letter option = has_letter option.short option.meaning

-- the line of help of a row of the table of help
abbrev pub help_row_line : HelpRow → HelpLine
help_row_line row = help_line row.subject.now row.text.now
