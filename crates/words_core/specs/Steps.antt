-- The result of a step of the reader. Serves the proofs of `reading` and `read`: the contracts of their
-- private functions.
use Rattle.std.specs.Prelude.{◌≡◌, ℕ, Bool, true, false, not, List, Option, Some, None, option_and_then, is_some, IsTrue, if◌then◌else◌}
use Rattle.std.specs.List.{list_all}
use Rattle.command_core.specs.declared.command.Applet.{Applet}
use Rattle.command_core.specs.declared.command.Applet.TheVariants.{Info, Version}
use Rattle.command_core.specs.declared.command.Flags.{Flags}
use Rattle.command_core.specs.Sound.{may_have_flags, value_rules, are_allowed_values}
use Rattle.words_core.specs.declared.reading.OptionState.{OptionState}
use Rattle.words_core.specs.declared.reading.Reading.{Reading}
use Rattle.words_core.specs.Grammar.{value_in_long_or_short_option_word, option_word_without_value, value_rule_of_meaning, flags_with_option_if_one_command_kind}
use Rattle.words_core.specs.Options.{OptionSpec, option_of_word, options_of}

-- a step of the reader, from the state `old` to the state `new`: if the word was read (true), `new` is the state that
-- the definition of the step gives (`more`); otherwise the definition gives none, and the state does not change
abbrev pub IsReadingStep : Bool → OptionState → OptionState → Option OptionState → Type 0
IsReadingStep true old new more = more ≡ Some new
IsReadingStep false old new more = (more ≡ None) × (new ≡ old)

-- the flags and values that were read are allowed for the applet: at most one flag selects the kind of the command, and
-- no two values exclude each other
abbrev pub IsSoundReading : Applet → Reading → Type 0
IsSoundReading applet reading =
    IsTrue (may_have_flags applet reading.state.flags)
    × IsTrue (are_allowed_values (value_rules applet) reading.state.values)

-- whether an option has no values
abbrev pub is_option_without_value : OptionSpec → Bool
is_option_without_value option = not (is_some (value_rule_of_meaning option.meaning))

-- whether no option of an applet has values
unfoldable pub has_no_values : Applet → Bool
has_no_values applet = list_all is_option_without_value (options_of applet)

-- flags with the option that a word spells added. None if it spells no flag, holds a value, or selects a
-- kind of the command other than that of an earlier flag
abbrev pub flags_with_spelled_option : List OptionSpec → Flags → List ℕ → Option Flags
flags_with_spelled_option options flags word =
    if is_some (value_in_long_or_short_option_word word) then None else
    option_and_then (flags_with_option_if_one_command_kind flags)
    (option_of_word options (option_word_without_value word))

-- whether the flags decide which operands an applet takes
abbrev pub operands_depend_on_flags : Applet → Bool
operands_depend_on_flags Info = true
operands_depend_on_flags Version = true
operands_depend_on_flags applet = false
