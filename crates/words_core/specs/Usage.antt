-- Why words are a usage error, and the line that explains it to the user. The texts are listed in
-- `docs/commands.md`, "Help".
use Rattle.std.specs.Prelude.{ℕ, ◌+◌, ◌-◌, ◌/◌, ◌%◌, ◌==◌, nat_lt, Bool, not, ◌&&◌, ◌||◌, List, [], ◌∷◌, ◌++◌, length, take, codes, Option, Some, None, Result, Ok, Err, if◌then◌else◌}
use Rattle.std.specs.Char.{is_ascii_graphic}
use Rattle.std.specs.Fmt.{decimal}
use Rattle.std.specs.List.{slice_get}
use Rattle.command_core.specs.declared.command.Applet.{Applet}
use Rattle.command_core.specs.declared.operands.OperandKind.{OperandKind}
use Rattle.command_core.specs.declared.operands.OperandKind.TheVariants.{File, Any, Dependency, DependencyName, PackageName, Path, Number, Pattern}
use Rattle.command_core.specs.declared.operands.OperandRule.{OperandRule}
use Rattle.command_core.specs.declared.values.ValueKind.{ValueKind}
use Rattle.command_core.specs.declared.values.ValueKind.TheVariants.{Any as AnyText, Nonempty, File as FileValue, Output, Uncompressed, Script}
use Rattle.command_core.specs.declared.values.ValueRule.{ValueRule}
use Rattle.command_core.specs.Applets.{required_option_letter, operand_rule_if_needed_kind_flag_given}
use Rattle.command_core.specs.Operands.{is_operand_of_kind}
use Rattle.command_core.specs.Values.{is_value_of_kind}
use Rattle.words_core.specs.declared.next.NextWord.{NextWord}
use Rattle.words_core.specs.declared.next.NextWord.TheVariants.{OptionOrCommand, Command as CommandAlone, OptionOrOperand, Value as NextValue, Operand as OperandAlone, Nothing}
use Rattle.words_core.specs.declared.options.Meaning.{Meaning}
use Rattle.words_core.specs.declared.options.Meaning.TheVariants.{Flag as Plain, Kind, Value}
use Rattle.words_core.specs.declared.reading.AppletSite.{AppletSite}
use Rattle.words_core.specs.declared.reading.Start.{Start}
use Rattle.words_core.specs.declared.usage.UsageReason.{UsageReason}
use Rattle.words_core.specs.declared.usage.UsageReason.TheVariants.{CommandMissing, CommandUnknown, OptionEarly, OptionUnknown, OptionRepeated, SecondKind, ValueGiven, ValueMissing, ValueBad, ScriptRepeated, TooManyOperands, OperandBad, OperandMissing, KindMissing, OptionMissing}
use Rattle.words_core.specs.Grammar.{applet_site, value_in_long_or_short_option_word, is_double_dash, is_option_or_double_dash, start_of_command_line, next_word_of_command_line, option_word_without_value, reading_of_rest_of_command_words}
use Rattle.words_core.specs.HelpTexts.{program_usage}
use Rattle.words_core.specs.Options.{OptionSpec, applet_word, option_of_word, options_of}

-- ---- the reason

-- why a text of the right kind is no value of the option with this rule: an earlier value excludes it
abbrev pub repeated_value_reason : ValueRule → UsageReason
repeated_value_reason rule = if rule.single then OptionRepeated else ScriptRepeated

-- why a text is no value of the option with this rule
abbrev pub value_reason : ValueRule → List ℕ → UsageReason
value_reason rule text =
    if is_value_of_kind rule.kind text then repeated_value_reason rule else ValueBad rule.kind

-- why an option of the command cannot be given, by the value that its word holds, if it holds one, and by its meaning
abbrev pub meaning_reason : Option (List ℕ) → Meaning → UsageReason
meaning_reason (Some text) (Plain flag) = ValueGiven
meaning_reason (Some text) (Kind flag) = ValueGiven
meaning_reason (Some text) (Value rule) = value_reason rule text
meaning_reason None (Plain flag) = OptionRepeated
meaning_reason None (Kind flag) = SecondKind
meaning_reason None (Value rule) = OptionRepeated

-- why a word is no option of the command, by the option that it spells, if it spells one
abbrev pub option_reason : List ℕ → Option OptionSpec → UsageReason
option_reason word None = OptionUnknown
option_reason word (Some option) = meaning_reason (value_in_long_or_short_option_word word) option.meaning

-- why a word is no operand: it is none of the kind that the command takes, or one too many
abbrev pub operand_reason : List ℕ → Option OperandRule → UsageReason
operand_reason word None = TooManyOperands
operand_reason word (Some rule) =
    if is_operand_of_kind rule.kind word then TooManyOperands else OperandBad rule.kind

-- why a word after the command is wrong, by the rule of the operands, and by what the word could have been
abbrev pub word_reason : Option OperandRule → List ℕ → NextWord → UsageReason
word_reason rule word OptionOrCommand = OptionUnknown
word_reason rule word CommandAlone = CommandUnknown
word_reason rule word (OptionOrOperand applet) =
    if is_option_or_double_dash word && not (is_double_dash word) then
    option_reason word (option_of_word (options_of applet) (option_word_without_value word)) else
    operand_reason word rule
word_reason rule word (NextValue applet value) = value_reason value word
word_reason rule word (OperandAlone applet) = operand_reason word rule
word_reason rule word Nothing = CommandUnknown

-- which word is missing after the last one, if no value is awaited: the option that the command requires (its letter is
-- given), the flag that selects its kind (there is no rule of operands), or an operand
abbrev pub missing_reason : Option ℕ → Option OperandRule → UsageReason
missing_reason (Some letter) rule = OptionMissing
missing_reason None None = KindMissing
missing_reason None (Some rule) = OperandMissing rule.kind

-- which word is missing after the last one, by the rule of the operands, and by what a further word could be
abbrev pub end_reason : Applet → Option OperandRule → NextWord → UsageReason
end_reason applet rule (NextValue other value) = ValueMissing
end_reason applet rule next = missing_reason (required_option_letter applet) rule

-- why a place after the command is wrong: by the wrong word there, or by what is missing if no word is there. The rule
-- is that of the operands, and `next` is what the word could have been
abbrev pub line_reason : Applet → Option OperandRule → NextWord → Option (List ℕ) → UsageReason
line_reason applet rule next None = end_reason applet rule next
line_reason applet rule next (Some word) = word_reason rule word next

-- why a place is wrong if no command was found, by what the word there could have been, and by the word there, if there
-- is one
abbrev pub command_reason : NextWord → Option (List ℕ) → UsageReason
command_reason next None = CommandMissing
command_reason OptionOrCommand (Some word) =
    if is_option_or_double_dash word then OptionEarly else CommandUnknown
command_reason next (Some word) = CommandUnknown

-- why a place up to the command is wrong: no command was found; or one was, and the word there is none of its options
abbrev pub early_reason : Result AppletSite ℕ → NextWord → Option (List ℕ) → UsageReason
early_reason (Err place) next word = command_reason next word
early_reason (Ok site) next word = OptionUnknown

-- which operands the command that was found takes, under all flags that are read
abbrev pub operand_rule_of_words : List (List ℕ) → Start → Option OperandRule
operand_rule_of_words words start =
    operand_rule_if_needed_kind_flag_given start.applet
    (reading_of_rest_of_command_words start words).state.flags

-- why a place offends, by the start (the applet and the flags before it) that was found in the words, if one was
abbrev pub usage_reason_after_start : List (List ℕ) → ℕ → Result Start ℕ → UsageReason
usage_reason_after_start words place (Err at) =
    early_reason (applet_site 1 words) (next_word_of_command_line (take (place - 1) words))
    (slice_get words (place - 1))
usage_reason_after_start words place (Ok start) =
    line_reason start.applet (operand_rule_of_words words start)
    (next_word_of_command_line (take (place - 1) words))
    (slice_get words (place - 1))

-- why the words are a usage error at a place
unfoldable pub usage_reason : List (List ℕ) → ℕ → UsageReason
usage_reason words place = usage_reason_after_start words place (start_of_command_line words)

-- ---- the text of a reason

-- how the line describes a value of an option of this kind
abbrev pub value_kind_description : ValueKind → List ℕ
value_kind_description AnyText = codes "a text"
value_kind_description Nonempty = codes "a text that is not empty"
value_kind_description FileValue = codes "a path below this folder"
value_kind_description Output = codes "a path of at most 1016 bytes below this folder"
value_kind_description Uncompressed = codes "none"
value_kind_description Script =
    codes "TYPE:FILE with TYPE trigger or (pre|post)-(install|deinstall|upgrade)"

-- how the line describes an operand of this kind
abbrev pub operand_kind_description : OperandKind → List ℕ
operand_kind_description File = codes "a path below this folder"
operand_kind_description Any = codes "a text"
operand_kind_description Dependency = codes "a dependency"
operand_kind_description DependencyName = codes "the name of a dependency"
operand_kind_description PackageName = codes "the name of a package"
operand_kind_description Path = codes "a path"
operand_kind_description Number = codes "a number from 1 to 20000"
operand_kind_description Pattern = codes "a pattern"

-- the text of a reason, up to the kind of value or operand that was expected
abbrev pub reason_text : UsageReason → List ℕ
reason_text CommandMissing = codes "a command is missing"
reason_text CommandUnknown = codes "unknown command"
reason_text OptionEarly = codes "no option that can be before the command"
reason_text OptionUnknown = codes "no option of this command"
reason_text OptionRepeated = codes "this option was given before"
reason_text SecondKind = codes "only one such option can be given"
reason_text ValueGiven = codes "this option has no value"
reason_text ValueMissing = codes "the value of the last option is missing"
reason_text (ValueBad kind) = codes "the value must be "
reason_text ScriptRepeated = codes "a script of this type was given before"
reason_text TooManyOperands = codes "too many operands"
reason_text (OperandBad kind) = codes "an operand must be "
reason_text (OperandMissing kind) = codes "an operand is missing: "
reason_text KindMissing = codes "an option is missing: --test or --check"
reason_text OptionMissing = codes "an option is missing: --output"

-- the end of the text of a reason: the kind of value or operand that was expected; empty if the reason has none
abbrev pub description_of_expected_kind : UsageReason → List ℕ
description_of_expected_kind (ValueBad kind) = value_kind_description kind
description_of_expected_kind (OperandBad kind) = operand_kind_description kind
description_of_expected_kind (OperandMissing kind) = operand_kind_description kind
description_of_expected_kind reason = []

-- ---- the line

-- texts, one after another
abbrev pub texts_joined : List (List ℕ) → List ℕ
texts_joined [] = []
texts_joined (text ∷ texts) = text ++ texts_joined texts

-- how many bytes of a word are shown
abbrev pub most_shown_bytes : ℕ
most_shown_bytes = 64

-- the hexadecimal digit of a number below 16, in lower case, as an ASCII code
abbrev pub hex_digit : ℕ → ℕ
hex_digit n = if nat_lt n 10 then 48 + n else 87 + n

-- whether a byte is shown as it is: a space or a visible ASCII character, but no quote or backslash
abbrev pub is_plain_byte : ℕ → Bool
is_plain_byte byte = ((byte == 32) || is_ascii_graphic byte) && not ((byte == 34) || (byte == 92))

-- a byte as it is shown: as it is, or as `\xNN`
abbrev pub shown_byte : ℕ → List ℕ
shown_byte byte =
    if is_plain_byte byte then byte ∷ [] else
    92 ∷ (120 ∷ (hex_digit (byte / 16) ∷ (hex_digit (byte % 16) ∷ [])))

-- bytes as they are shown
abbrev pub shown_bytes : List ℕ → List ℕ
shown_bytes [] = []
shown_bytes (byte ∷ bytes) = shown_byte byte ++ shown_bytes bytes

-- what precedes a word that is shown: its place
abbrev pub text_before_shown_word : ℕ → List ℕ
text_before_shown_word place = texts_joined (codes "word " ∷ (decimal place ∷ (codes ", \"" ∷ [])))

-- what follows a word that is shown; two dots say that it is longer
abbrev pub closing_quote_of_shown_word : List ℕ → List ℕ
closing_quote_of_shown_word word =
    if nat_lt most_shown_bytes (length word) then codes "..\": " else codes "\": "

-- the wrong word, with its place; nothing if a word is missing
abbrev pub shown_word_with_place : ℕ → Option (List ℕ) → List ℕ
shown_word_with_place place None = []
shown_word_with_place place (Some word) =
    text_before_shown_word place ++ shown_bytes (take most_shown_bytes word)
    ++ closing_quote_of_shown_word word

-- the space before the word of the command whose help is named; nothing if no command was found
abbrev pub space_before_help_topic : Result AppletSite ℕ → List ℕ
space_before_help_topic (Err place) = []
space_before_help_topic (Ok site) = codes " "

-- the word of the command whose help is named; nothing if no command was found
abbrev pub help_topic_word : Result AppletSite ℕ → List ℕ
help_topic_word (Err place) = []
help_topic_word (Ok site) = applet_word site.applet

-- the usage of the program if there are no words; empty if there is a word
abbrev pub usage_if_no_words : List (List ℕ) → List ℕ
usage_if_no_words [] = program_usage
usage_if_no_words (word ∷ words) = []

-- the texts after the wrong word: the reason with the kind that was expected, whose help to read, and the usage of the
-- program if there are no words
abbrev pub end_of_usage_hint : List (List ℕ) → UsageReason → List (List ℕ)
end_of_usage_hint words reason =
    reason_text reason ∷ (description_of_expected_kind reason
    ∷ (codes "; see apk" ∷ (space_before_help_topic (applet_site 1 words)
    ∷ (help_topic_word (applet_site 1 words) ∷ (codes " --help\n" ∷ (usage_if_no_words words ∷ []))))))

-- the line that says why the words are a usage error at a place
abbrev pub usage_hint_text : List (List ℕ) → ℕ → List ℕ
usage_hint_text words place =
    codes "apk: " ++ shown_word_with_place place (slice_get words (place - 1))
    ++ texts_joined (end_of_usage_hint words (usage_reason words place))
