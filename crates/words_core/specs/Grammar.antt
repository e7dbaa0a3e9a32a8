-- The command of the words of a command line, or the place of the first wrong word. Places count from
-- 1; a missing word has the place after the last word. The rules are in `docs/commands.md`, "Words".
use Rattle.std.specs.Prelude.{ℕ, ◌+◌, ◌-◌, ◌==◌, Bool, true, false, not, ◌&&◌, ◌||◌, nat_lt, List, [], ◌∷◌, ◌++◌, length, take, drop, codes, Option, Some, None, option_and_then, is_some, Result, Ok, Err, if◌then◌else◌}
use Rattle.std.specs.List.{before_first, position, slice_get}
use Rattle.std.specs.Option.{option_map, option_or}
use Rattle.std.specs.Str.{bytes_eq}
use Rattle.command_core.specs.declared.command.Applet.{Applet}
use Rattle.command_core.specs.declared.command.Applet.TheVariants.{Help}
use Rattle.command_core.specs.declared.command.Flags.{Flags}
use Rattle.command_core.specs.declared.operands.Operand.{Operand}
use Rattle.command_core.specs.declared.operands.OperandRule.{OperandRule}
use Rattle.command_core.specs.declared.values.OptionValue.{OptionValue}
use Rattle.command_core.specs.declared.values.ValueRule.{ValueRule}
use Rattle.command_core.specs.Applets.{required_option_letter, operand_rule_if_needed_kind_flag_given}
use Rattle.command_core.specs.Command.{CommandLine, command_from_parts_and_end_place}
use Rattle.command_core.specs.Flags.{has_flag, has_command_kind_flag, no_flags, with_flag}
use Rattle.command_core.specs.Operands.{place_of_first_refused_operand, operand_at}
use Rattle.command_core.specs.Values.{is_excluded_by_earlier_value, is_single_and_given, is_value_of_kind, is_required_value_missing, option_value_from_place_letter_and_text}
use Rattle.words_core.specs.declared.options.Meaning.{Meaning}
use Rattle.words_core.specs.declared.options.Meaning.TheVariants.{Flag as Plain, Kind, Value}
use Rattle.words_core.specs.declared.next.NextWord.{NextWord}
use Rattle.words_core.specs.declared.next.NextWord.TheVariants.{OptionOrCommand, Command as CommandAlone, OptionOrOperand, Value as NextValue, Operand as OperandAlone, Nothing}
use Rattle.words_core.specs.declared.reading.AppletSite.{AppletSite}
use Rattle.words_core.specs.declared.reading.OptionState.{OptionState}
use Rattle.words_core.specs.declared.reading.Reading.{Reading}
use Rattle.words_core.specs.declared.reading.Start.{Start}
use Rattle.words_core.specs.declared.word.TheConstants.{EQUALS_SIGN}
use Rattle.words_core.specs.Options.{OptionSpec, applet_of, applet_word, applet_of_help_or_version_option, is_option_word_that_may_precede_applet, option_of_word, options_of}

-- ---- a word

-- whether a word is an option, or `--`: it has two or more bytes, the first of which is a dash
abbrev pub is_option_or_double_dash : List ℕ → Bool
is_option_or_double_dash word = nat_lt 1 (length word) && bytes_eq (take 1 word) (codes "-")

-- whether a word is `--`, after which there are no options
abbrev pub is_double_dash : List ℕ → Bool
is_double_dash word = bytes_eq word (codes "--")

-- the word of the option alone: of `--name=value` the part before the first `=`, of `-xvalue` the first
-- two bytes
unfoldable pub option_word_without_value : List ℕ → List ℕ
option_word_without_value word =
    if bytes_eq (take 2 word) (codes "--") then before_first (λ b. b == EQUALS_SIGN) word else
    take 2 word

-- the value that an option's word holds, if it holds one: the part after the first `=` of a long one,
-- and after the first two bytes of a short one
unfoldable pub value_in_long_or_short_option_word : List ℕ → Option (List ℕ)
value_in_long_or_short_option_word word =
    if bytes_eq (take 2 word) (codes "--") then
    option_map (λ i. drop (i + 1) word) (position (λ b. b == EQUALS_SIGN) word) else
    if nat_lt 2 (length word) then Some (drop 2 word) else
    None

-- ---- flags

-- flags with the meaning of an option added. None if the option takes a value, or if it selects a kind of
-- the command other than that of an earlier flag
abbrev pub flags_with_meaning_if_one_command_kind : Flags → Meaning → Option Flags
flags_with_meaning_if_one_command_kind flags (Plain flag) = Some (with_flag flag flags)
flags_with_meaning_if_one_command_kind flags (Kind flag) =
    if has_command_kind_flag flags && not (has_flag flag flags) then None else Some (with_flag flag flags)
flags_with_meaning_if_one_command_kind flags (Value rule) = None

-- flags with an option added; None in the cases of *flags_with_meaning_if_one_command_kind*
abbrev pub flags_with_option_if_one_command_kind : Flags → OptionSpec → Option Flags
flags_with_option_if_one_command_kind flags option =
    flags_with_meaning_if_one_command_kind flags option.meaning

-- flags with the option that a word spells added; None if it spells no option, or in the cases of
-- *flags_with_meaning_if_one_command_kind*
abbrev pub flags_with_option_word_if_one_command_kind : List OptionSpec → Flags → List ℕ → Option Flags
flags_with_option_word_if_one_command_kind options flags word =
    option_and_then (flags_with_option_if_one_command_kind flags) (option_of_word options word)

-- ---- up to the applet

-- the result of `next` on the value, if there is one; otherwise an error at this place
abbrev pub or_err_at : {A B : Type 0} → ℕ → (A → Result B ℕ) → Option A → Result B ℕ
or_err_at place next None = Err place
or_err_at place next (Some x) = next x

-- the site of an applet: the applet, whether the options have ended before it, and how many words are
-- read, including its own
abbrev pub applet_site_from_ended_read_applet : Bool → ℕ → Applet → AppletSite
applet_site_from_ended_read_applet ended place applet =
    record { applet = applet; ended = ended; read = place }

-- the site of the applet that the word at a place names, or this place if it names none
unfoldable pub applet_site_of_word : Bool → ℕ → List ℕ → Result AppletSite ℕ
applet_site_of_word ended place word =
    or_err_at place (λ applet. Ok (applet_site_from_ended_read_applet ended place applet)) (applet_of word)

-- the site of the applet that the first of these words, which follow `--`, names; `place` is the place of this first
-- word
unfoldable pub applet_site_after_double_dash : ℕ → List (List ℕ) → Result AppletSite ℕ
applet_site_after_double_dash place [] = Err place
applet_site_after_double_dash place (word ∷ words) = applet_site_of_word true place word

-- the site of the applet in these words, of which the first is at `place`; or the first wrong place: only some options
-- and `--` may precede the applet
abbrev pub applet_site : ℕ → List (List ℕ) → Result AppletSite ℕ
applet_site place [] = Err place
applet_site place (word ∷ words) =
    if is_double_dash word then applet_site_after_double_dash (place + 1) words else
    if is_option_or_double_dash word then (if is_option_word_that_may_precede_applet word then applet_site
    (place + 1) words else Err place) else
    applet_site_of_word false place word

-- the flags of the words before the applet, added to `flags`, up to `--`; or the place of the first word for which
-- *flags_with_option_word_if_one_command_kind* gives None. `place` is that of the first of these words
abbrev pub flags_with_options_before_applet : List OptionSpec → Flags → ℕ → List (List ℕ) → Result Flags ℕ
flags_with_options_before_applet options flags place [] = Ok flags
flags_with_options_before_applet options flags place (word ∷ words) =
    if is_double_dash word then Ok flags else
    or_err_at place (λ more. flags_with_options_before_applet options more (place + 1) words)
    (flags_with_option_word_if_one_command_kind options flags word)

-- the start of a command line: its applet, the applet's place, and the flags before it
abbrev pub start_from_parts : AppletSite → Flags → Start
start_from_parts site flags =
    record { applet = site.applet; flags = flags; ended = site.ended; read = site.read }

-- the start of a command line: the site of the applet with the flags before it; or the place of the first wrong word
-- before it
abbrev pub start_with_flags_before_applet : AppletSite → Result Flags ℕ → Result Start ℕ
start_with_flags_before_applet site (Err place) = Err place
start_with_flags_before_applet site (Ok flags) = Ok (start_from_parts site flags)

-- the start of a command line, by the site of its applet among these words; or the first wrong place, if no applet or a
-- wrong option before it was found
abbrev pub start_by_applet_site : List (List ℕ) → Result AppletSite ℕ → Result Start ℕ
start_by_applet_site words (Err place) = Err place
start_by_applet_site words (Ok site) =
    start_with_flags_before_applet site
    (flags_with_options_before_applet (options_of site.applet) no_flags 1 (take (site.read - 1) words))

-- the start of a command line: its applet and the flags before it; or the first wrong place up to the applet
abbrev pub start_of_command_line : List (List ℕ) → Result Start ℕ
start_of_command_line words = start_by_applet_site words (applet_site 1 words)

-- ---- options and their values

-- the effect of the options that are read: flags, values, and the rule of the option whose value must be the next word,
-- if there is such an option
abbrev pub option_state_from_parts : Flags → List OptionValue → Option ValueRule → OptionState
option_state_from_parts flags values awaiting =
    record { flags = flags; values = values; awaiting = awaiting }

-- the state after the applet: the flags before it, no values, and none awaited
abbrev pub option_state_at_start : Flags → OptionState
option_state_at_start flags = option_state_from_parts flags [] None

-- a state with a text as a value of the option with this rule, from the word at a place; None if the text is not of the
-- right kind, or an earlier value excludes it
abbrev pub with_option_value : OptionState → ℕ → List ℕ → ValueRule → Option OptionState
with_option_value state place text rule =
    if is_value_of_kind rule.kind text && not (is_excluded_by_earlier_value rule text state.values) then
    Some (option_state_from_parts state.flags
    (state.values ++ (option_value_from_place_letter_and_text place rule.letter text ∷ [])) None) else
    None

-- a state with an option that has values: with the value that its word holds; or, if the word holds none, one that
-- awaits the value as the next word
abbrev pub with_value_or_awaited : OptionState → ℕ → ValueRule → Option (List ℕ) → Option OptionState
with_value_or_awaited state place rule None =
    Some (option_state_from_parts state.flags state.values (Some rule))
with_value_or_awaited state place rule (Some text) = with_option_value state place text rule

-- a state with an option that has values, whose word holds the value `held` or none; None if the option may not be
-- given again, or does not have that value
abbrev pub with_value_option : OptionState → ℕ → Option (List ℕ) → ValueRule → Option OptionState
with_value_option state place held rule =
    if is_single_and_given rule state.values then None else with_value_or_awaited state place rule held

-- a state with these flags in place of its own; None if no flags are given
abbrev pub with_flags_if_some : OptionState → Option Flags → Option OptionState
with_flags_if_some state flags =
    option_map (λ more. option_state_from_parts more state.values state.awaiting) flags

-- a state with an option of this meaning, whose word at a place holds the value `held` or none; None if the option may
-- not be given so: one without a value holds none
abbrev pub state_with_meaning : OptionState → ℕ → Option (List ℕ) → Meaning → Option OptionState
state_with_meaning state place held (Value rule) = with_value_option state place held rule
state_with_meaning state place (Some text) (Plain flag) = None
state_with_meaning state place (Some text) (Kind flag) = None
state_with_meaning state place None (Plain flag) =
    with_flags_if_some state (flags_with_meaning_if_one_command_kind state.flags (Plain flag))
state_with_meaning state place None (Kind flag) =
    with_flags_if_some state (flags_with_meaning_if_one_command_kind state.flags (Kind flag))

-- a state with the option that the word at a place spells; None if it spells none of these options, or the option may
-- not be given so
abbrev pub with_option_word : List OptionSpec → OptionState → ℕ → List ℕ → Option OptionState
with_option_word options state place word =
    option_and_then (λ (o : OptionSpec). state_with_meaning state place
    (value_in_long_or_short_option_word word) o.meaning)
    (option_of_word options (option_word_without_value word))

-- whether a word is read as a value, since an option awaits one, or as an option
abbrev pub is_option_or_value : OptionState → List ℕ → Bool
is_option_or_value state word =
    is_some state.awaiting || (is_option_or_double_dash word && not (is_double_dash word))

-- a state with the word at a place, by the option whose value is awaited, if one is: the word is its
-- value, and otherwise an option; None if it cannot be read
abbrev pub with_word_as_option_or_value : List OptionSpec → OptionState → ℕ → List ℕ → Option ValueRule
    → Option OptionState
with_word_as_option_or_value options state place word None = with_option_word options state place word
with_word_as_option_or_value options state place word (Some rule) = with_option_value state place word rule

-- a state with the word at a place, which is the value that the state awaits, or an option; None if it
-- cannot be read
abbrev pub with_option_or_value_word : List OptionSpec → OptionState → ℕ → List ℕ → Option OptionState
with_option_or_value_word options state place word =
    with_word_as_option_or_value options state place word state.awaiting

-- ---- after the applet

-- the reading of words: the effect of options, the operands, and the place of the word that cannot be read, or of the
-- value that is missing, if one of them ended the reading
abbrev pub words_reading_from_parts : OptionState → List Operand → Option ℕ → Reading
words_reading_from_parts state operands unread =
    record { state = state; operands = operands; unread = unread }

-- all of these words as operands; the first word is at `place`
abbrev pub words_as_operands_from_place : ℕ → List (List ℕ) → List Operand
words_as_operands_from_place place [] = []
words_as_operands_from_place place (word ∷ words) =
    operand_at place word ∷ words_as_operands_from_place (place + 1) words

-- a reading with one more operand, in front of those that it has
abbrev pub with_operand_in_front : Operand → Reading → Reading
with_operand_in_front operand reading = record reading { operands = operand ∷ reading.operands }

-- the reading after the word at a place: if the word gives a new state, `next` continues from it;
-- otherwise the word cannot be read, and the reading ends there
abbrev pub or_stop_at_unread_word : OptionState → ℕ → (OptionState → Reading) → Option OptionState → Reading
or_stop_at_unread_word state place next None = words_reading_from_parts state [] (Some place)
or_stop_at_unread_word state place next (Some more) = next more

-- the reading if the words end at a place; an awaited value is missing there
abbrev pub reading_at_end_of_words : OptionState → ℕ → Reading
reading_at_end_of_words state place =
    words_reading_from_parts state [] (option_map (λ (rule : ValueRule). place) state.awaiting)

-- the reading of the words that begin at `place`, from a state on: options, values and operands, up to the first word
-- that cannot be read
abbrev pub reading_of_words_from_place : List OptionSpec → OptionState → ℕ → List (List ℕ) → Reading
reading_of_words_from_place options state place [] = reading_at_end_of_words state place
reading_of_words_from_place options state place (word ∷ words) =
    if is_option_or_value state word then
    or_stop_at_unread_word state place (λ more. reading_of_words_from_place options more (place + 1) words)
    (with_option_or_value_word options state place word) else
    if is_double_dash word then words_reading_from_parts state
    (words_as_operands_from_place (place + 1) words) None else
    with_operand_in_front (operand_at place word)
    (reading_of_words_from_place options state (place + 1) words)

-- the reading of those of all words of a command line that are after its start (the applet and the words before it); if
-- `--` is in the start, all of them are operands
unfoldable pub reading_of_rest_of_command_words : Start → List (List ℕ) → Reading
reading_of_rest_of_command_words start words =
    let left = drop start.read words in
    if start.ended then
    words_reading_from_parts (option_state_at_start start.flags)
    (words_as_operands_from_place (start.read + 1) left) None else
    reading_of_words_from_place (options_of start.applet) (option_state_at_start start.flags)
    (start.read + 1) left

-- ---- the command, or the first wrong place

-- the place of the first operand that the rule does not take. Without a rule, since the flag is missing that selects
-- the kind of the command, no operand is wrong
abbrev pub place_of_first_operand_refused_by_rule : Option OperandRule → List Operand → Option ℕ
place_of_first_operand_refused_by_rule None operands = None
place_of_first_operand_refused_by_rule (Some rule) operands = place_of_first_refused_operand rule 0 operands

-- whether there are fewer operands than the rule needs, or there is no rule, since the flag is missing that selects the
-- kind of the command
abbrev pub lacks_operand_or_kind_flag : Option OperandRule → List Operand → Bool
lacks_operand_or_kind_flag None operands = true
lacks_operand_or_kind_flag (Some rule) operands = nat_lt (length operands) rule.least

-- whether a word is missing: an operand, the flag that selects the kind of the command, or the option with a value that
-- the applet requires
abbrev pub lacks_operand_kind_flag_or_required_option : Applet → Option OperandRule → Reading → Bool
lacks_operand_kind_flag_or_required_option applet rule reading =
    lacks_operand_or_kind_flag rule reading.operands
    || is_required_value_missing (required_option_letter applet) reading.state.values

-- the command of a reading; `behind` is the place after the last word
abbrev pub command_from_end_place_and_reading : ℕ → Applet → Reading → CommandLine
command_from_end_place_and_reading behind applet reading =
    command_from_parts_and_end_place applet reading.state.flags reading.operands reading.state.values behind

-- an error at the wrong place, if there is one, and otherwise this result
abbrev pub unless_refused_at : Option ℕ → Result CommandLine ℕ → Result CommandLine ℕ
unless_refused_at None otherwise = otherwise
unless_refused_at (Some place) otherwise = Err place

-- the command of a reading, or the first wrong place: an operand that is not taken, the word that cannot be read, or
-- the place after the last word (`behind`) if a word is missing
unfoldable pub command_of_reading_with_end_place : ℕ → Applet → Reading → Result CommandLine ℕ
command_of_reading_with_end_place behind applet reading =
    let rule = operand_rule_if_needed_kind_flag_given applet reading.state.flags in
    unless_refused_at (option_or
    (place_of_first_operand_refused_by_rule rule reading.operands) reading.unread)
    (if lacks_operand_kind_flag_or_required_option applet rule reading then Err behind else Ok
    (command_from_end_place_and_reading behind applet reading))

-- the command of the words, by the start that was found in them; or the place of the first wrong word
abbrev pub spelled_command_by_start : List (List ℕ) → Result Start ℕ → Result CommandLine ℕ
spelled_command_by_start words (Err place) = Err place
spelled_command_by_start words (Ok start) =
    command_of_reading_with_end_place (length words + 1) start.applet
    (reading_of_rest_of_command_words start words)

-- the command that the words spell, or the place of the first wrong word. `--help` and `--version` are no options here
unfoldable pub spelled_command : List (List ℕ) → Result CommandLine ℕ
spelled_command words = spelled_command_by_start words (start_of_command_line words)

-- ---- what the next word can be

-- the rule of the values of an option with this meaning; None if it takes no value
abbrev pub value_rule_of_meaning : Meaning → Option ValueRule
value_rule_of_meaning (Plain flag) = None
value_rule_of_meaning (Kind flag) = None
value_rule_of_meaning (Value rule) = Some rule

-- the rule of the values of the option that a word spells; None if it spells none of these options, or one that takes
-- no value
abbrev pub value_rule_of_word : List OptionSpec → List ℕ → Option ValueRule
value_rule_of_word options word =
    option_and_then (λ (e : OptionSpec). value_rule_of_meaning e.meaning)
    (option_of_word options (option_word_without_value word))

-- a rule of values, unless the option's word holds the value, which is the first argument
abbrev pub value_rule_unless_attached : Option (List ℕ) → Option ValueRule → Option ValueRule
value_rule_unless_attached None rule = rule
value_rule_unless_attached (Some text) rule = None

-- the rule of the values of the option that a word spells, if its value must be the next word
abbrev pub awaited_rule : List OptionSpec → List ℕ → Option ValueRule
awaited_rule options word =
    value_rule_unless_attached (value_in_long_or_short_option_word word) (value_rule_of_word options word)

-- what the word after an option of an applet can be; the rule is that of the option's value, if that must be the next
-- word
abbrev pub next_word_after_option : Applet → Option ValueRule → NextWord
next_word_after_option applet None = OptionOrOperand applet
next_word_after_option applet (Some rule) = NextValue applet rule

-- what the word after the command can be: `next` says so for the applet that the command names; nothing can follow if
-- it names none
abbrev pub next_word_of_applet_or_nothing : (Applet → NextWord) → Option Applet → NextWord
next_word_of_applet_or_nothing next None = Nothing
next_word_of_applet_or_nothing next (Some applet) = next applet

-- what the word after `word` can be, by what `word` itself could be (the first argument)
abbrev pub next_word : NextWord → List ℕ → NextWord
next_word OptionOrCommand word =
    if is_double_dash word then CommandAlone else
    if is_option_or_double_dash word then OptionOrCommand else
    next_word_of_applet_or_nothing OptionOrOperand (applet_of word)
next_word CommandAlone word = next_word_of_applet_or_nothing OperandAlone (applet_of word)
next_word (OptionOrOperand applet) word =
    if is_double_dash word then OperandAlone applet else
    if is_option_or_double_dash word then next_word_after_option applet
    (awaited_rule (options_of applet) word) else
    OptionOrOperand applet
next_word (NextValue applet rule) word = OptionOrOperand applet
next_word (OperandAlone applet) word = OperandAlone applet
next_word Nothing word = Nothing

-- what the word after these words can be, by what the first of these words could be
abbrev pub next_word_after_words : NextWord → List (List ℕ) → NextWord
next_word_after_words next [] = next
next_word_after_words next (word ∷ words) = next_word_after_words (next_word next word) words

-- what the word after the first words of a command line can be
abbrev pub next_word_of_command_line : List (List ℕ) → NextWord
next_word_of_command_line words = next_word_after_words OptionOrCommand words

-- whether the next word can be an option
abbrev pub can_be_option : NextWord → Bool
can_be_option OptionOrCommand = true
can_be_option (OptionOrOperand applet) = true
can_be_option next = false

-- ---- words that ask for help, or for the version

-- the applet `Help` or `ProgramVersion`, if the word at a place asks for it and an option can be there
abbrev pub help_or_version_option_at : List (List ℕ) → ℕ → Option Applet
help_or_version_option_at words place =
    if can_be_option (next_word_of_command_line (take (place - 1) words)) then
    option_and_then applet_of_help_or_version_option (slice_get words (place - 1)) else
    None

-- the operands of `Help`, by the site of the applet in the words: the word of this applet, if one was found
abbrev pub help_topic_operands : Result AppletSite ℕ → List Operand
help_topic_operands (Err place) = []
help_topic_operands (Ok site) = operand_at site.read (applet_word site.applet) ∷ []

-- the operands of the command that asks for help or for the version: the topic of help, if the words name an applet
abbrev pub operands_of_help_or_version : List (List ℕ) → Applet → List Operand
operands_of_help_or_version words Help = help_topic_operands (applet_site 1 words)
operands_of_help_or_version words applet = []

-- the command with the applet `Help` or `ProgramVersion` that words ask for: without flags and values
abbrev pub command_with_help_or_version_applet : List (List ℕ) → Applet → CommandLine
command_with_help_or_version_applet words applet =
    command_from_parts_and_end_place applet no_flags (operands_of_help_or_version words applet) []
    (length words + 1)

-- the command for the applet that the word at a place asks for; an error at this place if it asks for none
abbrev pub help_or_version_or_err : List (List ℕ) → ℕ → Option Applet → Result CommandLine ℕ
help_or_version_or_err words place None = Err place
help_or_version_or_err words place (Some applet) = Ok (command_with_help_or_version_applet words applet)

-- the command that was spelled; otherwise the one that the first wrong word asks for, as `--help` does; otherwise an
-- error at the place of this word
abbrev pub command_else_help_or_version_at_error : List (List ℕ) → Result CommandLine ℕ
    → Result CommandLine ℕ
command_else_help_or_version_at_error words (Ok command) = Ok command
command_else_help_or_version_at_error words (Err place) =
    help_or_version_or_err words place (help_or_version_option_at words place)

-- the command that the words of a command line are; or the place of the first wrong word, or after the last word if a
-- word is missing
unfoldable pub command_of : List (List ℕ) → Result CommandLine ℕ
command_of words = command_else_help_or_version_at_error words (spelled_command words)
