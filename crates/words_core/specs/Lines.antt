-- The words of a command, apart from how they are read: options with their values, an applet, operands.
-- The rules are in `docs/commands.md`, "Words"; the laws `read_words_are_a_command` and
-- `commands_are_read` connect them with *command_of*.
use Rattle.std.specs.Prelude.{◌≡◌, ℕ, ◌+◌, ◌-◌, Bool, ◌||◌, List, [], ◌∷◌, ◌++◌, length, take, Option, Some, None, option_and_then, IsTrue, if◌then◌else◌}
use Rattle.std.specs.List.{list_all}
use Rattle.std.specs.Option.{option_map}
use Rattle.command_core.specs.declared.command.Flags.{Flags}
use Rattle.command_core.specs.declared.operands.Operand.{Operand}
use Rattle.command_core.specs.declared.values.OptionValue.{OptionValue}
use Rattle.command_core.specs.declared.values.ValueRule.{ValueRule}
use Rattle.command_core.specs.Command.{CommandLine}
use Rattle.command_core.specs.Sound.{IsValidCommand}
use Rattle.command_core.specs.Flags.{no_flags, with_flag}
use Rattle.command_core.specs.Operands.{operand_at}
use Rattle.command_core.specs.Values.{option_value_from_place_letter_and_text}
use Rattle.words_core.specs.declared.options.Meaning.{Meaning}
use Rattle.words_core.specs.declared.options.Meaning.TheVariants.{Flag as Plain, Kind, Value}
use Rattle.words_core.specs.Grammar.{value_in_long_or_short_option_word, is_double_dash, is_option_or_double_dash, words_as_operands_from_place, option_word_without_value, value_rule_of_word, awaited_rule}
use Rattle.words_core.specs.Options.{OptionSpec, applet_of, is_option_word_that_may_precede_applet, option_of_word, options_of}

-- the words that are neither options nor values, each with its place (`place` is that of the first word): all after
-- `--`, and before it those that are neither. With a rule the first word is the value of the option with this rule
abbrev pub operand_words : List OptionSpec → Option ValueRule → ℕ → List (List ℕ) → List Operand
operand_words options rule place [] = []
operand_words options (Some rule) place (word ∷ words) = operand_words options None (place + 1) words
operand_words options None place (word ∷ words) =
    if is_double_dash word then words_as_operands_from_place (place + 1) words else
    if is_option_or_double_dash word then operand_words options (awaited_rule options word)
    (place + 1) words else
    operand_at place word ∷ operand_words options None (place + 1) words

-- the words that are options, up to `--`. With a rule the first word is the value of the option with this rule
abbrev pub words_that_are_options : List OptionSpec → Option ValueRule → List (List ℕ) → List (List ℕ)
words_that_are_options options rule [] = []
words_that_are_options options (Some rule) (word ∷ words) = words_that_are_options options None words
words_that_are_options options None (word ∷ words) =
    if is_double_dash word then [] else
    if is_option_or_double_dash word then word
    ∷ words_that_are_options options (awaited_rule options word) words else
    words_that_are_options options None words

-- the value that an option's word at a place holds, as a list: `rule` is that of the option's values, and the last
-- argument is the held text. Empty if the option has no values, or its word holds none
abbrev pub attached_values : ℕ → Option ValueRule → Option (List ℕ) → List OptionValue
attached_values place None held = []
attached_values place (Some rule) None = []
attached_values place (Some rule) (Some text) =
    option_value_from_place_letter_and_text place rule.letter text ∷ []

-- the values of the options, each with the place of the word that holds it (`place` is that of the first word); None if
-- one is missing. With a rule the first word is the value of the option with this rule
abbrev pub values_of : List OptionSpec → Option ValueRule → ℕ → List (List ℕ)
    → Option (List OptionValue)
values_of options None place [] = Some []
values_of options (Some rule) place [] = None
values_of options (Some rule) place (word ∷ words) =
    option_map (λ values. option_value_from_place_letter_and_text place rule.letter word ∷ values)
    (values_of options None (place + 1) words)
values_of options None place (word ∷ words) =
    if is_double_dash word then Some [] else
    if is_option_or_double_dash word then
    option_map (λ values. attached_values place (value_rule_of_word options word)
    (value_in_long_or_short_option_word word)
    ++ values)
    (values_of options (awaited_rule options word) (place + 1) words) else
    values_of options None (place + 1) words

-- flags with the meaning of an option added; `held` is the value that the option's word holds, if it holds one. The
-- result is None if the option takes no value and its word holds one
abbrev pub flags_with_held_meaning : Flags → Option (List ℕ) → Meaning → Option Flags
flags_with_held_meaning flags held (Value rule) = Some flags
flags_with_held_meaning flags None (Plain flag) = Some (with_flag flag flags)
flags_with_held_meaning flags None (Kind flag) = Some (with_flag flag flags)
flags_with_held_meaning flags (Some text) (Plain flag) = None
flags_with_held_meaning flags (Some text) (Kind flag) = None

-- flags with the meanings of the options that words spell added, one after another; None if a word spells none of these
-- options, or spells one that takes no value and holds a value
abbrev pub flags_after : List OptionSpec → Flags → List (List ℕ) → Option Flags
flags_after options flags [] = Some flags
flags_after options flags (word ∷ words) =
    option_and_then (λ (e : OptionSpec). option_and_then (λ more. flags_after options more words)
    (flags_with_held_meaning flags (value_in_long_or_short_option_word word) e.meaning))
    (option_of_word options (option_word_without_value word))

-- whether a word may precede the applet: `--`, or one of the five options
abbrev pub may_precede_applet : List ℕ → Bool
may_precede_applet word = is_double_dash word || is_option_word_that_may_precede_applet word

-- The words of a command line are this command: the first word that is neither an option nor a value names the applet,
-- and the other such words are the operands. The options are ones of the applet, and those before it may precede it.
pub record AreWordsOfCommand (words : List (List ℕ)) (command : CommandLine) : Type 0 where
  -- the word that names the applet, with its place
  pub applet : Operand
  -- this word names the applet of the command
  pub names : applet_of applet.text ≡ Some command.applet
  -- the words that are neither options nor values are this word, and then the operands
  pub free : operand_words (options_of command.applet) None 1 words ≡ applet ∷ command.operands
  -- each word before the applet's may precede it
  pub early : IsTrue (list_all may_precede_applet (take (applet.place - 1) words))
  -- the options among the words give the flags of the command
  pub flags : flags_after (options_of command.applet) no_flags
      (words_that_are_options (options_of command.applet) None words) ≡ Some command.flags
  -- the options among the words have the values of the command
  pub values : values_of (options_of command.applet) None 1 words ≡ Some command.values
  -- the command has the place after the last word
  pub behind : command.behind ≡ length words + 1
  -- the applet may have these flags, operands and values together
  pub sound : IsValidCommand command
