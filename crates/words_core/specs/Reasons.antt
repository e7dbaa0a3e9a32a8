-- What the reasons of usage errors say. Serves the law `a_reason_is_so`.
-- The table of reasons is in `docs/commands.md`, "Help".
use Rattle.std.specs.Prelude.{◌≡◌, ◌⊎◌, ℕ, ◌+◌, ◌-◌, ◌<◌, false, not, List, length, Some, None, is_some, Ok, IsTrue}
use Rattle.std.specs.List.{slice_get}
use Rattle.std.specs.Result.{is_ok}
use Rattle.command_core.specs.declared.command.Applet.{Applet}
use Rattle.command_core.specs.declared.command.Flag.{Flag}
use Rattle.command_core.specs.declared.operands.OperandRule.{OperandRule}
use Rattle.command_core.specs.declared.values.ValueRule.{ValueRule}
use Rattle.command_core.specs.Applets.{required_option_letter}
use Rattle.command_core.specs.Flags.{has_flag, has_command_kind_flag}
use Rattle.command_core.specs.Operands.{is_operand_of_kind}
use Rattle.command_core.specs.Values.{is_excluded_by_earlier_value, is_given, is_value_of_kind}
use Rattle.words_core.specs.declared.options.Meaning.{Meaning}
use Rattle.words_core.specs.declared.options.Meaning.TheVariants.{Kind, Value}
use Rattle.words_core.specs.declared.reading.AppletSite.{AppletSite}
use Rattle.words_core.specs.declared.reading.Reading.{Reading}
use Rattle.words_core.specs.declared.reading.Start.{Start}
use Rattle.words_core.specs.declared.usage.UsageReason.{UsageReason}
use Rattle.words_core.specs.declared.usage.UsageReason.TheVariants.{CommandMissing, CommandUnknown, OptionEarly, OptionUnknown, OptionRepeated, SecondKind, ValueGiven, ValueMissing, ValueBad, ScriptRepeated, TooManyOperands, OperandBad, OperandMissing, KindMissing, OptionMissing}
use Rattle.words_core.specs.Grammar.{applet_site, value_in_long_or_short_option_word, is_option_or_double_dash, start_of_command_line, option_word_without_value, reading_of_rest_of_command_words, value_rule_of_meaning}
use Rattle.words_core.specs.Options.{OptionSpec, applet_of, is_option_word_that_may_precede_applet, option_of_word, options_of}
use Rattle.words_core.specs.Usage.{operand_rule_of_words}

-- ---- the words

-- there is a word at the place, and P holds of it
abbrev pub HasWordAt : List (List ℕ) → ℕ → (List ℕ → Type 0) → Type 0
HasWordAt words place P = (word : List ℕ) × (slice_get words (place - 1) ≡ Some word) × P word

-- the place is the one after the last word
abbrev pub IsAfterLastWord : List (List ℕ) → ℕ → Type 0
IsAfterLastWord words place = place ≡ length words + 1

-- ---- the command that was found

-- an applet was found in the words, and P holds of it
abbrev pub HasApplet : List (List ℕ) → (Applet → Type 0) → Type 0
HasApplet words P = (site : AppletSite) × (applet_site 1 words ≡ Ok site) × P site.applet

-- a start (the applet and the flags before it) was found in the words, and P holds of it and of what was read after it
abbrev pub HasReading : List (List ℕ) → (Start → Reading → Type 0) → Type 0
HasReading words P =
    (start : Start) × (start_of_command_line words ≡ Ok start)
    × P start (reading_of_rest_of_command_words start words)

-- a word spells an option of the applet, and P holds of the option's meaning
abbrev pub HasOptionMeaning : Applet → List ℕ → (Meaning → Type 0) → Type 0
HasOptionMeaning applet word P =
    (option : OptionSpec) × (option_of_word (options_of applet) (option_word_without_value word)
    ≡ Some option)
    × P option.meaning

-- a rule is that of the option whose value is awaited, or of the option with values that a word spells
abbrev pub IsValueRuleOfWord : Start → Reading → List ℕ → ValueRule → Type 0
IsValueRuleOfWord start reading word rule =
    (reading.state.awaiting ≡ Some rule)
    ⊎ HasOptionMeaning start.applet word (λ meaning. meaning ≡ Value rule)

-- P holds of the rule of an option with values, and of the text that a word gives as its value: the word is the awaited
-- value, or spells the option and holds the value
abbrev pub HasOptionValue : Start → Reading → List ℕ → (ValueRule → List ℕ → Type 0) → Type 0
HasOptionValue start reading word P =
    ((rule : ValueRule) × (reading.state.awaiting ≡ Some rule) × P rule word)
    ⊎ HasOptionMeaning start.applet word (λ meaning. (rule : ValueRule) × (text : List ℕ)
    × (meaning ≡ Value rule) × (value_in_long_or_short_option_word word ≡ Some text) × P rule text)

-- the command has a rule of its operands, and P holds of this rule
abbrev pub HasOperandRule : List (List ℕ) → Start → (OperandRule → Type 0) → Type 0
HasOperandRule words start P =
    (rule : OperandRule) × (operand_rule_of_words words start ≡ Some rule) × P rule

-- ---- the reasons

-- the reason for which words are a usage error at a place is true
abbrev pub IsUsageReason : UsageReason → List (List ℕ) → ℕ → Type 0
-- the place is after the last word, and no applet was found
IsUsageReason CommandMissing words place =
    IsAfterLastWord words place × IsTrue (not (is_ok (applet_site 1 words)))
-- the word at the place names no applet
IsUsageReason CommandUnknown words place = HasWordAt words place (λ word. applet_of word ≡ None)
-- the word at the place is an option or `--`, and none of the options that may precede the applet
IsUsageReason OptionEarly words place =
    HasWordAt words place (λ word. IsTrue (is_option_or_double_dash word)
    × IsTrue (not (is_option_word_that_may_precede_applet word)))
-- the word at the place spells no option of the applet that was found
IsUsageReason OptionUnknown words place =
    HasWordAt words place (λ word. HasApplet words (λ applet.
    option_of_word (options_of applet) (option_word_without_value word) ≡ None))
-- the word at the place spells an option that takes no value, and holds a value
IsUsageReason ValueGiven words place =
    HasWordAt words place (λ word. HasReading words (λ start reading.
    HasOptionMeaning start.applet word (λ meaning. value_rule_of_meaning meaning ≡ None)
    × IsTrue (is_some (value_in_long_or_short_option_word word))))
-- the word at the place spells an option, or gives its value, that may be given once and has a value already
IsUsageReason OptionRepeated words place =
    HasWordAt words place (λ word. HasReading words (λ start reading. (rule : ValueRule)
    × IsTrue rule.single × IsTrue (is_given rule.letter reading.state.values)
    × IsValueRuleOfWord start reading word rule))
-- the word at the place selects a kind of the command, and an earlier flag has selected another one
IsUsageReason SecondKind words place =
    HasWordAt words place (λ word. HasReading words (λ start reading. (flag : Flag)
    × IsTrue (has_command_kind_flag reading.state.flags) × (has_flag flag reading.state.flags ≡ false)
    × HasOptionMeaning start.applet word (λ meaning. meaning ≡ Kind flag)))
-- the words end where the value of an option is awaited
IsUsageReason ValueMissing words place =
    IsAfterLastWord words place × HasReading words (λ start reading. IsTrue (is_some
    reading.state.awaiting))
-- the word at the place gives an option a value that is not of the option's kind
IsUsageReason (ValueBad kind) words place =
    HasWordAt words place (λ word. HasReading words (λ start reading.
    HasOptionValue start reading word
    (λ rule text. (rule.kind ≡ kind) × (is_value_of_kind kind text ≡ false))))
-- the word at the place gives an option a value that an earlier one excludes, as a script of the same type does
IsUsageReason ScriptRepeated words place =
    HasWordAt words place (λ word. HasReading words (λ start reading.
    HasOptionValue start reading word
    (λ rule text. IsTrue (is_excluded_by_earlier_value rule text reading.state.values))))
-- more operands were read than the command takes
IsUsageReason TooManyOperands words place =
    HasReading words (λ start reading. HasOperandRule words start (λ rule. (most : ℕ)
    × (rule.most ≡ Some most) × (most < length reading.operands)))
-- the word at the place is not of the kind of the command's operands
IsUsageReason (OperandBad kind) words place =
    HasWordAt words place (λ word. HasReading words (λ start reading.
    HasOperandRule words start (λ rule. (rule.kind ≡ kind) × (is_operand_of_kind kind word ≡ false))))
-- the words end with fewer operands, which are of this kind, than the command needs
IsUsageReason (OperandMissing kind) words place =
    IsAfterLastWord words place × HasReading words (λ start reading. HasOperandRule words start (λ rule.
    (rule.kind ≡ kind) × (length reading.operands < rule.least)))
-- the words end, and no flag has selected the kind of the command, without which it has no rule of operands
IsUsageReason KindMissing words place =
    IsAfterLastWord words place
    × HasReading words (λ start reading. operand_rule_of_words words start ≡ None)
-- the words end, and the option that the applet requires has no value
IsUsageReason OptionMissing words place =
    IsAfterLastWord words place × HasReading words (λ start reading. (letter : ℕ)
    × (required_option_letter start.applet ≡ Some letter) × (is_given letter reading.state.values ≡ false))
