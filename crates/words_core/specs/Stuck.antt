-- Words that cannot become a command, whatever follows: no option can follow, and those before the
-- applet are no applet's, or one is missing; or no text can be the awaited value. Serves the laws
-- `words_before_a_usage_error_can_be_completed` and `stuck_words_are_no_command`, as the README says.
use Rattle.std.specs.Prelude.{ℕ, ◌==◌, Bool, true, false, not, ◌&&◌, ◌||◌, List, [], ◌∷◌, drop, Option, Some, None, is_some, Result, Ok, Err, if◌then◌else◌}
use Rattle.std.specs.List.{list_all, list_any}
use Rattle.std.specs.Result.{is_ok}
use Rattle.std.specs.Str.{bytes_eq}
use Rattle.command_core.specs.declared.command.Applet.{Applet}
use Rattle.command_core.specs.declared.values.OptionValue.{OptionValue}
use Rattle.command_core.specs.declared.values.ValueKind.{ValueKind}
use Rattle.command_core.specs.declared.values.ValueKind.TheVariants.{Script}
use Rattle.command_core.specs.declared.values.ValueRule.{ValueRule}
use Rattle.command_core.specs.Applets.{required_option_letter, operand_rule_if_needed_kind_flag_given}
use Rattle.command_core.specs.Flags.{no_flags}
use Rattle.command_core.specs.Values.{is_required_value_missing, script_type, script_types}
use Rattle.words_core.specs.declared.reading.AppletSite.{AppletSite}
use Rattle.words_core.specs.declared.reading.OptionState.{OptionState}
use Rattle.words_core.specs.declared.reading.Start.{Start}
use Rattle.words_core.specs.Grammar.{applet_site, command_of, flags_with_options_before_applet, is_double_dash, is_option_or_double_dash, reading_of_rest_of_command_words, awaited_rule, start_by_applet_site}
use Rattle.words_core.specs.Options.{OptionSpec, applets, options_of}

-- ---- before the applet

-- whether each of the words before an applet, up to `--`, is an option of it without a value
abbrev pub are_options_of : List (List ℕ) → Applet → Bool
are_options_of words applet = is_ok (flags_with_options_before_applet (options_of applet) no_flags 1 words)

-- ---- after the applet

-- whether the options have ended: `--` is among the words, and not as a value. With a rule the first word is the value
-- of the option with this rule
abbrev pub have_options_ended : List OptionSpec → Option ValueRule → List (List ℕ) → Bool
have_options_ended options rule [] = false
have_options_ended options (Some rule) (word ∷ words) = have_options_ended options None words
have_options_ended options None (word ∷ words) =
    if is_double_dash word then true else
    if is_option_or_double_dash word then have_options_ended options (awaited_rule options word) words else
    have_options_ended options None words

-- whether an option is missing: a flag that selects the kind of the command, or the option with a value that the applet
-- requires
abbrev pub is_required_option_missing : Applet → OptionState → Bool
is_required_option_missing applet state =
    not (is_some (operand_rule_if_needed_kind_flag_given applet state.flags))
    || is_required_value_missing (required_option_letter applet) state.values

-- whether the option with a letter was given a script of the type `t`
abbrev pub has_script : ℕ → List OptionValue → List ℕ → Bool
has_script letter values t =
    list_any (λ (v : OptionValue). (v.letter == letter) && bytes_eq (script_type v.text) t) values

-- whether the option with a letter, whose values are of this kind, can have no further value: it was given a script of
-- each type
abbrev pub has_all_possible_values : ValueKind → ℕ → List OptionValue → Bool
has_all_possible_values Script letter values = list_all (has_script letter values) script_types
has_all_possible_values kind letter values = false

-- whether the value of the option with this rule is awaited, and no text can be one more
abbrev pub awaits_impossible_value : Option ValueRule → List OptionValue → Bool
awaits_impossible_value None values = false
awaits_impossible_value (Some rule) values = has_all_possible_values rule.kind rule.letter values

-- whether words whose start was found are stuck: options have ended and one is missing, or no text can
-- be the awaited value
abbrev pub is_stuck : List (List ℕ) → Start → Bool
is_stuck words start =
    let state = (reading_of_rest_of_command_words start words).state in
    ((start.ended || have_options_ended (options_of start.applet) None (drop start.read words))
    && is_required_option_missing start.applet state)
    || awaits_impossible_value state.awaiting state.values

-- whether words whose applet was found are stuck, by their start (the applet and the flags before it); they are not if
-- an option before the applet is wrong
abbrev pub is_stuck_by : List (List ℕ) → Result Start ℕ → Bool
is_stuck_by words (Err place) = false
is_stuck_by words (Ok start) = is_stuck words start

-- whether words are stuck, by the site of their applet; if none was found they are stuck exactly if
-- `--` has ended the options, and no applet has all of those before it
abbrev pub are_stuck_by : List (List ℕ) → Result AppletSite ℕ → Bool
are_stuck_by words (Err place) = list_any is_double_dash words && not (list_any (are_options_of words)
    applets)
are_stuck_by words (Ok site) = is_stuck_by words (start_by_applet_site words (Ok site))

-- whether words are stuck: they are no command, and no words after them make them one
unfoldable pub is_command_line_stuck : List (List ℕ) → Bool
is_command_line_stuck words =
    not (is_ok (command_of words)) && are_stuck_by words (applet_site 1 words)
