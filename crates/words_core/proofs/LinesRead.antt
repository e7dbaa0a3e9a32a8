-- Words of which a command is read are that command.
use Rattle.std.proofs.Common.{Bool, Err, IfOk, List, None, Ok, Option, Result, Some, [], ap, append-nil, append_assoc, arith, drop, false, inl, inr, length, not, option_and_then, refl, subst, suc, sym, take, true, ℕ, ◌++◌, ◌+◌, ◌-◌, ◌∙◌, ◌∷◌, ◌≡◌, ◌≤◌, if◌then◌else◌}
use Rattle.std.specs.List.{list_all, list_any}
use Rattle.std.specs.Option.{option_map, option_or}
use Rattle.std.specs.Prelude.{is_some, ◌&&◌, ◌||◌}
use Rattle.std.specs.Str.{bytes_eq}
use Rattle.std.proofs.lemmas.Bool.{and_parts, false≢true, ltb-false, or_cases, or_parts}
use Rattle.std.proofs.lemmas.Option.{none-some, option_and_then_some, same_Some}
use Rattle.std.proofs.lemmas.Result.{IfOk-at_ok, IfOk-weaker}
use Rattle.std.proofs.lemmas.Slice.Eq.{bytes_eq-Decides}
use Rattle.command_core.specs.declared.command.Applet.{Applet}
use Rattle.command_core.specs.declared.command.Flags.{Flags}
use Rattle.command_core.specs.declared.operands.Operand.{Operand}
use Rattle.command_core.specs.declared.operands.OperandRule.{OperandRule}
use Rattle.command_core.specs.declared.values.OptionValue.{OptionValue}
use Rattle.command_core.specs.declared.values.ValueRule.{ValueRule}
use Rattle.command_core.specs.Applets.{required_option_letter, operand_rule_if_needed_kind_flag_given}
use Rattle.command_core.specs.Command.{CommandLine}
use Rattle.command_core.specs.Sound.{is_valid_command}
use Rattle.command_core.specs.Flags.{has_flag, has_command_kind_flag, no_flags, with_flag}
use Rattle.command_core.specs.Operands.{operand_at}
use Rattle.command_core.specs.Values.{is_excluded_by_earlier_value, is_single_and_given, is_value_of_kind, is_required_value_missing, option_value_from_place_letter_and_text}
use Rattle.words_core.specs.declared.options.Meaning.{Meaning}
use Rattle.words_core.specs.declared.options.Meaning.TheVariants.{Flag as Plain, Kind, Value}
use Rattle.words_core.specs.declared.reading.AppletSite.{AppletSite}
use Rattle.words_core.specs.declared.reading.OptionState.{OptionState}
use Rattle.words_core.specs.declared.reading.Reading.{Reading}
use Rattle.words_core.specs.declared.reading.Start.{Start}
use Rattle.words_core.specs.Grammar.{applet_site, spelled_command_by_start, command_from_end_place_and_reading, flags_with_options_before_applet, option_state_at_start, value_in_long_or_short_option_word, is_double_dash, is_option_or_double_dash, is_option_or_value, lacks_operand_or_kind_flag, lacks_operand_kind_flag_or_required_option, spelled_command, start_of_command_line, words_as_operands_from_place, option_word_without_value, reading_of_words_from_place, or_err_at, or_stop_at_unread_word, reading_of_rest_of_command_words, words_reading_from_parts, place_of_first_operand_refused_by_rule, value_rule_of_word, awaited_rule, value_rule_of_meaning, value_rule_unless_attached, applet_site_of_word, applet_site_after_double_dash, applet_site_from_ended_read_applet, start_from_parts, option_state_from_parts, unless_refused_at, command_of_reading_with_end_place, with_flags_if_some, with_value_or_awaited, flags_with_meaning_if_one_command_kind, state_with_meaning, with_operand_in_front, flags_with_option_word_if_one_command_kind, flags_with_option_if_one_command_kind, with_option_word, with_option_value, with_option_or_value_word, with_word_as_option_or_value}
use Rattle.words_core.specs.Lines.{AreWordsOfCommand, flags_after, flags_with_held_meaning, operand_words, attached_values, words_that_are_options, may_precede_applet, values_of}
use Rattle.words_core.specs.Options.{OptionSpec, applet_of, option_words_that_may_precede_applet, is_option_word_that_may_precede_applet, option_of_word, options_of}
use Rattle.words_core.specs.Steps.{IsSoundReading}
use Rattle.words_core.proofs.GivenKept.{from_kept}
use Rattle.words_core.proofs.KindsKept.{start_known, start_parts}
use Rattle.words_core.proofs.Sites.{flags_end, flags_step}
use Rattle.words_core.proofs.WhatIsRead.{taken_sound}

-- one more word behind the applet
pub step_taken : (options : List OptionSpec) (state : OptionState) (place : ℕ) (word : List ℕ) (words : List (List ℕ)) (more : Option OptionState) → is_option_or_value state word ≡ true → with_option_or_value_word options state place word ≡ more → reading_of_words_from_place options state place (word ∷ words) ≡ or_stop_at_unread_word state place (λ m. reading_of_words_from_place options m (place + 1) words) more
step_taken options state place word words more t w = rw t (rw w refl)

pub step_end : (options : List OptionSpec) (state : OptionState) (place : ℕ) (word : List ℕ) (words : List (List ℕ)) → is_option_or_value state word ≡ false → is_double_dash word ≡ true → reading_of_words_from_place options state place (word ∷ words) ≡ words_reading_from_parts state (words_as_operands_from_place (place + 1) words) None
step_end options state place word words t e = rw t (rw e refl)

pub step_free : (options : List OptionSpec) (state : OptionState) (place : ℕ) (word : List ℕ) (words : List (List ℕ)) → is_option_or_value state word ≡ false → is_double_dash word ≡ false → reading_of_words_from_place options state place (word ∷ words) ≡ with_operand_in_front (operand_at place word) (reading_of_words_from_place options state (place + 1) words)
step_free options state place word words t e = rw t (rw e refl)

-- which words are taken
pub awaited_taken : (state : OptionState) (word : List ℕ) (rule : ValueRule) → state.awaiting ≡ Some rule → is_option_or_value state word ≡ true
awaited_taken state word rule a = rw a refl

pub end_kept : (state : OptionState) (word : List ℕ) → state.awaiting ≡ None → is_double_dash word ≡ true → is_option_or_value state word ≡ false
end_kept state word a e = rw a (rw e (none (is_option_or_double_dash word)))
  where
    none : (b : Bool) → (b && false) ≡ false
    none true = refl
    none false = refl

pub option_taken : (state : OptionState) (word : List ℕ) → state.awaiting ≡ None → is_double_dash word ≡ false → is_option_or_double_dash word ≡ true → is_option_or_value state word ≡ true
option_taken state word a e o = rw a (rw e (rw o refl))

pub free_kept : (state : OptionState) (word : List ℕ) → state.awaiting ≡ None → is_option_or_double_dash word ≡ false → is_option_or_value state word ≡ false
free_kept state word a o = rw a (rw o refl)

-- the words that are no options, and those that are, at one more word
pub free_end : (options : List OptionSpec) (place : ℕ) (word : List ℕ) (words : List (List ℕ)) → is_double_dash word ≡ true → operand_words options None place (word ∷ words) ≡ words_as_operands_from_place (place + 1) words
free_end options place word words e = rw e refl

pub free_option : (options : List OptionSpec) (place : ℕ) (word : List ℕ) (words : List (List ℕ)) → is_double_dash word ≡ false → is_option_or_double_dash word ≡ true → operand_words options None place (word ∷ words) ≡ operand_words options (awaited_rule options word) (place + 1) words
free_option options place word words e o = rw e (rw o refl)

pub free_here : (options : List OptionSpec) (place : ℕ) (word : List ℕ) (words : List (List ℕ)) → is_double_dash word ≡ false → is_option_or_double_dash word ≡ false → operand_words options None place (word ∷ words) ≡ operand_at place word ∷ operand_words options None (place + 1) words
free_here options place word words e o = rw e (rw o refl)

pub options_end : (options : List OptionSpec) (word : List ℕ) (words : List (List ℕ)) → is_double_dash word ≡ true → words_that_are_options options None (word ∷ words) ≡ []
options_end options word words e = rw e refl

pub options_here : (options : List OptionSpec) (word : List ℕ) (words : List (List ℕ)) → is_double_dash word ≡ false → is_option_or_double_dash word ≡ true → words_that_are_options options None (word ∷ words) ≡ word ∷ words_that_are_options options (awaited_rule options word) words
options_here options word words e o = rw e (rw o refl)

pub options_after : (options : List OptionSpec) (word : List ℕ) (words : List (List ℕ)) → is_double_dash word ≡ false → is_option_or_double_dash word ≡ false → words_that_are_options options None (word ∷ words) ≡ words_that_are_options options None words
options_after options word words e o = rw e (rw o refl)

pub values_end : (options : List OptionSpec) (place : ℕ) (word : List ℕ) (words : List (List ℕ)) → is_double_dash word ≡ true → values_of options None place (word ∷ words) ≡ Some []
values_end options place word words e = rw e refl

pub values_option : (options : List OptionSpec) (place : ℕ) (word : List ℕ) (words : List (List ℕ)) → is_double_dash word ≡ false → is_option_or_double_dash word ≡ true → values_of options None place (word ∷ words) ≡ option_map (λ values. attached_values place (value_rule_of_word options word) (value_in_long_or_short_option_word word) ++ values) (values_of options (awaited_rule options word) (place + 1) words)
values_option options place word words e o = rw e (rw o refl)

pub values_behind : (options : List OptionSpec) (place : ℕ) (word : List ℕ) (words : List (List ℕ)) → is_double_dash word ≡ false → is_option_or_double_dash word ≡ false → values_of options None place (word ∷ words) ≡ values_of options None (place + 1) words
values_behind options place word words e o = rw e (rw o refl)

-- the flags and values of options behind a given one
pub flags_here : (options : List OptionSpec) (flags more : Flags) (word : List ℕ) (words : List (List ℕ)) (e : OptionSpec) → option_of_word options (option_word_without_value word) ≡ Some e → flags_with_held_meaning flags (value_in_long_or_short_option_word word) e.meaning ≡ Some more → flags_after options flags (word ∷ words) ≡ flags_after options more words
flags_here options flags more word words e is says =
    ap (option_and_then (λ (x : OptionSpec). option_and_then (λ m. flags_after options m words) (flags_with_held_meaning flags (value_in_long_or_short_option_word word) x.meaning))) is
    ∙ ap (option_and_then (λ m. flags_after options m words)) says

pub rule_at_is : (options : List OptionSpec) (word : List ℕ) (e : OptionSpec) → option_of_word options (option_word_without_value word) ≡ Some e → value_rule_of_word options word ≡ value_rule_of_meaning e.meaning
rule_at_is options word e is = ap (option_and_then (λ (x : OptionSpec). value_rule_of_meaning x.meaning)) is

-- values behind others
pub values_joined : (before more : List OptionValue) (o : Option (List OptionValue)) → option_map (λ vs. before ++ vs) (option_map (λ vs. more ++ vs) o) ≡ option_map (λ vs. (before ++ more) ++ vs) o
values_joined before more None = refl
values_joined before more (Some vs) = ap Some (sym (append_assoc before more vs))

pub one_joined : (before : List OptionValue) (v : OptionValue) (o : Option (List OptionValue)) → option_map (λ vs. before ++ vs) (option_map (λ vs. v ∷ vs) o) ≡ option_map (λ vs. (before ++ (v ∷ [])) ++ vs) o
one_joined before v None = refl
one_joined before v (Some vs) = ap Some (sym (append_assoc before (v ∷ []) vs))

-- what a value says that was taken
pub value_says : (state more : OptionState) (place : ℕ) (text : List ℕ) (rule : ValueRule) → with_option_value state place text rule ≡ Some more → option_state_from_parts state.flags (state.values ++ (option_value_from_place_letter_and_text place rule.letter text ∷ [])) None ≡ more
value_says state more place text rule w =
    elim (is_value_of_kind rule.kind text && not (is_excluded_by_earlier_value rule text state.values)) as (λ b. (if b then Some (option_state_from_parts state.flags (state.values ++ (option_value_from_place_letter_and_text place rule.letter text ∷ [])) None) else None) ≡ Some more → option_state_from_parts state.flags (state.values ++ (option_value_from_place_letter_and_text place rule.letter text ∷ [])) None ≡ more) [
      | true ↦ λ (h : Some (option_state_from_parts state.flags (state.values ++ (option_value_from_place_letter_and_text place rule.letter text ∷ [])) None) ≡ Some more). same_Some _ _ h
      | false ↦ λ (h : None ≡ Some more). absurd (none-some more h)
    ] w

-- what an option says that was taken
pub record Says (state : OptionState) (place : ℕ) (held : Option (List ℕ)) (meaning : Meaning) (more : OptionState) : Type 0 where
  pub flags : flags_with_held_meaning state.flags held meaning ≡ Some more.flags
  pub values : state.values ++ attached_values place (value_rule_of_meaning meaning) held ≡ more.values
  pub awaiting : value_rule_unless_attached held (value_rule_of_meaning meaning) ≡ more.awaiting

pub flag_says : (flags more : Flags) (meaning : Meaning) → flags_with_meaning_if_one_command_kind flags meaning ≡ Some more → flags_with_held_meaning flags None meaning ≡ Some more
flag_says flags more (Plain flag) e = e
flag_says flags more (Kind flag) e =
    elim (has_command_kind_flag flags && not (has_flag flag flags)) as (λ b. (if b then None else Some (with_flag flag flags)) ≡ Some more → Some (with_flag flag flags) ≡ Some more) [
      | true ↦ λ (none : None ≡ Some more). absurd (none-some more none)
      | false ↦ λ (same : Some (with_flag flag flags) ≡ Some more). same
    ] e
flag_says flags more (Value rule) e = absurd (none-some more e)

pub no_rule : (flags more : Flags) (meaning : Meaning) → flags_with_meaning_if_one_command_kind flags meaning ≡ Some more → value_rule_of_meaning meaning ≡ None
no_rule flags more (Plain flag) e = refl
no_rule flags more (Kind flag) e = refl
no_rule flags more (Value rule) e = absurd (none-some more e)

pub flags_say : (state more : OptionState) (place : ℕ) (meaning : Meaning) (flags : Option Flags) → state.awaiting ≡ None → flags_with_meaning_if_one_command_kind state.flags meaning ≡ flags → with_flags_if_some state flags ≡ Some more → Says state place None meaning more
flags_say state more place meaning None a m w = absurd (none-some more w)
flags_say state more place meaning (Some flags) a m w =
    subst (λ (g : OptionState). Says state place None meaning g) (same_Some (option_state_from_parts flags state.values state.awaiting) more w) (record {
      flags = flag_says state.flags flags meaning m;
      values = ap (λ r. state.values ++ attached_values place r None) (no_rule state.flags flags meaning m) ∙ append-nil state.values;
      awaiting = no_rule state.flags flags meaning m ∙ sym a;
    })

pub held_says : (state more : OptionState) (place : ℕ) (held : Option (List ℕ)) (rule : ValueRule) → with_value_or_awaited state place rule held ≡ Some more → Says state place held (Value rule) more
held_says state more place None rule w =
    subst (λ (g : OptionState). Says state place None (Value rule) g) (same_Some (option_state_from_parts state.flags state.values (Some rule)) more w) (record { flags = refl; values = append-nil state.values; awaiting = refl })
held_says state more place (Some text) rule w =
    subst (λ (g : OptionState). Says state place (Some text) (Value rule) g) (value_says state more place text rule w) (record { flags = refl; values = refl; awaiting = refl })

pub meaning_says : (state more : OptionState) (place : ℕ) (held : Option (List ℕ)) (meaning : Meaning) → state.awaiting ≡ None → state_with_meaning state place held meaning ≡ Some more → Says state place held meaning more
meaning_says state more place held (Value rule) a w =
    elim (is_single_and_given rule state.values) as (λ b. (if b then None else with_value_or_awaited state place rule held) ≡ Some more → Says state place held (Value rule) more) [
      | true ↦ λ (h : None ≡ Some more). absurd (none-some more h)
      | false ↦ λ h. held_says state more place held rule h
    ] w
meaning_says state more place (Some text) (Plain flag) a w = absurd (none-some more w)
meaning_says state more place (Some text) (Kind flag) a w = absurd (none-some more w)
meaning_says state more place None (Plain flag) a w = flags_say state more place (Plain flag) (flags_with_meaning_if_one_command_kind state.flags (Plain flag)) a refl w
meaning_says state more place None (Kind flag) a w = flags_say state more place (Kind flag) (flags_with_meaning_if_one_command_kind state.flags (Kind flag)) a refl w

-- the reading is whole, and so are its operands, flags and values those of the words
abbrev pub IsWellFormed : Reading → List Operand → Option Flags → List OptionValue → Option (List OptionValue) → Type 0
IsWellFormed reading free flags before values =
    reading.unread ≡ None → (reading.operands ≡ free) × (flags ≡ Some reading.state.flags) × (option_map (λ vs. before ++ vs) values ≡ Some reading.state.values)

-- .. at words, where an option may await its value
abbrev pub IsWholeAt : List OptionSpec → OptionState → ℕ → List (List ℕ) → Option ValueRule → Type 0
IsWholeAt options state place words rule =
    IsWellFormed (reading_of_words_from_place options state place words) (operand_words options rule place words) (flags_after options state.flags (words_that_are_options options rule words)) state.values (values_of options rule place words)

pub unread_not : (state : OptionState) (place : ℕ) (free : List Operand) (flags : Option Flags) (before : List OptionValue) (values : Option (List OptionValue)) → IsWellFormed (words_reading_from_parts state [] (Some place)) free flags before values
unread_not state place free flags before values h = absurd (none-some place (sym h))

pub whole_empty : (options : List OptionSpec) (state : OptionState) (place : ℕ) (rule : Option ValueRule) → state.awaiting ≡ rule → IsWholeAt options state place [] rule
whole_empty options state place None a h = (refl, refl, ap Some (append-nil state.values))
whole_empty options state place (Some rule) a h = absurd (none-some place (sym (sym (ap (option_map (λ (r : ValueRule). place)) a) ∙ h)))

-- a value that is awaited
pub whole_value : (options : List OptionSpec) (state : OptionState) (place : ℕ) (word : List ℕ) (words : List (List ℕ)) (rule : ValueRule) → state.awaiting ≡ Some rule → ((more : OptionState) → IsWholeAt options more (place + 1) words more.awaiting) → IsWholeAt options state place (word ∷ words) (Some rule)
whole_value options state place word words rule a rest = by_value (with_option_value state place word rule) refl
  where
    taken : (o : Option OptionState) → with_option_value state place word rule ≡ o → reading_of_words_from_place options state place (word ∷ words) ≡ or_stop_at_unread_word state place (λ m. reading_of_words_from_place options m (place + 1) words) o
    taken o w = step_taken options state place word words o (awaited_taken state word rule a) (ap (with_word_as_option_or_value options state place word) a ∙ w)

    free : List Operand
    free = operand_words options None (place + 1) words

    by_value : (o : Option OptionState) → with_option_value state place word rule ≡ o → IsWholeAt options state place (word ∷ words) (Some rule)
    by_value None w = subst (λ r. IsWellFormed r (operand_words options None (place + 1) words) (flags_after options state.flags (words_that_are_options options None words)) state.values (values_of options (Some rule) place (word ∷ words))) (sym (taken None w)) (unread_not state place _ _ _ _)
    by_value (Some more) w = subst (λ r. IsWellFormed r (operand_words options None (place + 1) words) (flags_after options state.flags (words_that_are_options options None words)) state.values (values_of options (Some rule) place (word ∷ words))) (sym (taken (Some more) w)) behind_it
      where
        says : option_state_from_parts state.flags (state.values ++ (option_value_from_place_letter_and_text place rule.letter word ∷ [])) None ≡ more
        says = value_says state more place word rule w

        behind_it : IsWellFormed (reading_of_words_from_place options more (place + 1) words) (operand_words options None (place + 1) words) (flags_after options state.flags (words_that_are_options options None words)) state.values (values_of options (Some rule) place (word ∷ words))
        behind_it h =
            let left : IsWellFormed (reading_of_words_from_place options more (place + 1) words) (operand_words options None (place + 1) words) (flags_after options state.flags (words_that_are_options options None words)) (state.values ++ (option_value_from_place_letter_and_text place rule.letter word ∷ [])) (values_of options None (place + 1) words) =
            subst (λ (g : OptionState). IsWellFormed (reading_of_words_from_place options more (place + 1) words) (operand_words options g.awaiting (place + 1) words) (flags_after options g.flags (words_that_are_options options g.awaiting words)) g.values (values_of options g.awaiting (place + 1) words)) (sym says) (rest more) in
            let all = left h in
            (all.0, all.1, one_joined state.values (option_value_from_place_letter_and_text place rule.letter word) (values_of options None (place + 1) words) ∙ all.2)

-- an option
pub whole_option : (options : List OptionSpec) (state : OptionState) (place : ℕ) (word : List ℕ) (words : List (List ℕ)) → state.awaiting ≡ None → is_double_dash word ≡ false → is_option_or_double_dash word ≡ true → ((more : OptionState) → IsWholeAt options more (place + 1) words more.awaiting) → IsWholeAt options state place (word ∷ words) None
whole_option options state place word words a e o rest = by_option (with_option_word options state place word) refl
  where
    taken : (x : Option OptionState) → with_option_word options state place word ≡ x → reading_of_words_from_place options state place (word ∷ words) ≡ or_stop_at_unread_word state place (λ m. reading_of_words_from_place options m (place + 1) words) x
    taken x w = step_taken options state place word words x (option_taken state word a e o) (ap (with_word_as_option_or_value options state place word) a ∙ w)

    by_entry : (more : OptionState) (x : OptionSpec) → option_of_word options (option_word_without_value word) ≡ Some x → Says state place (value_in_long_or_short_option_word word) x.meaning more → IsWellFormed (reading_of_words_from_place options more (place + 1) words) (operand_words options None place (word ∷ words)) (flags_after options state.flags (words_that_are_options options None (word ∷ words))) state.values (values_of options None place (word ∷ words))
    by_entry more x is says h =
        let at : value_rule_of_word options word ≡ value_rule_of_meaning x.meaning = rule_at_is options word x is in
        let awaits : awaited_rule options word ≡ more.awaiting = ap (value_rule_unless_attached (value_in_long_or_short_option_word word)) at ∙ says.awaiting in
        let all = rest more h in (
          all.0 ∙ (ap (λ r. operand_words options r (place + 1) words) (sym awaits) ∙ sym (free_option options place word words e o)),
          ap (flags_after options state.flags) (options_here options word words e o)
              ∙ (flags_here options state.flags more.flags word (words_that_are_options options (awaited_rule options word) words) x is says.flags
              ∙ (ap (λ r. flags_after options more.flags (words_that_are_options options r words)) awaits ∙ all.1)),
          ap (option_map (λ vs. state.values ++ vs)) (values_option options place word words e o)
              ∙ (values_joined state.values (attached_values place (value_rule_of_word options word) (value_in_long_or_short_option_word word)) (values_of options (awaited_rule options word) (place + 1) words)
              ∙ (ap (λ r. option_map (λ vs. (state.values ++ attached_values place (value_rule_of_word options word) (value_in_long_or_short_option_word word)) ++ vs) (values_of options r (place + 1) words)) awaits
              ∙ (ap (λ vs. option_map (λ ws. vs ++ ws) (values_of options more.awaiting (place + 1) words)) (ap (λ r. state.values ++ attached_values place r (value_in_long_or_short_option_word word)) at ∙ says.values)
              ∙ all.2))),
        )

    by_option : (x : Option OptionState) → with_option_word options state place word ≡ x → IsWholeAt options state place (word ∷ words) None
    by_option None w = subst (λ r. IsWellFormed r (operand_words options None place (word ∷ words)) (flags_after options state.flags (words_that_are_options options None (word ∷ words))) state.values (values_of options None place (word ∷ words))) (sym (taken None w)) (unread_not state place _ _ _ _)
    by_option (Some more) w = subst (λ r. IsWellFormed r (operand_words options None place (word ∷ words)) (flags_after options state.flags (words_that_are_options options None (word ∷ words))) state.values (values_of options None place (word ∷ words))) (sym (taken (Some more) w))
        (option_and_then_some (λ (x : OptionSpec). state_with_meaning state place (value_in_long_or_short_option_word word) x.meaning) (option_of_word options (option_word_without_value word)) more w
        (λ x is made. by_entry more x is (meaning_says state more place (value_in_long_or_short_option_word word) x.meaning a made)))

-- the end of the options, or an operand
pub whole_end : (options : List OptionSpec) (state : OptionState) (place : ℕ) (word : List ℕ) (words : List (List ℕ)) → state.awaiting ≡ None → is_double_dash word ≡ true → IsWholeAt options state place (word ∷ words) None
whole_end options state place word words a e =
    subst (λ r. IsWellFormed r (operand_words options None place (word ∷ words)) (flags_after options state.flags (words_that_are_options options None (word ∷ words))) state.values (values_of options None place (word ∷ words))) (sym (step_end options state place word words (end_kept state word a e) e))
    (λ h. (
      sym (free_end options place word words e),
      ap (flags_after options state.flags) (options_end options word words e),
      ap (option_map (λ vs. state.values ++ vs)) (values_end options place word words e) ∙ ap Some (append-nil state.values),
    ))

pub whole_free : (options : List OptionSpec) (state : OptionState) (place : ℕ) (word : List ℕ) (words : List (List ℕ)) → state.awaiting ≡ None → is_double_dash word ≡ false → is_option_or_double_dash word ≡ false → IsWholeAt options state (place + 1) words state.awaiting → IsWholeAt options state place (word ∷ words) None
whole_free options state place word words a e o rest =
    subst (λ r. IsWellFormed r (operand_words options None place (word ∷ words)) (flags_after options state.flags (words_that_are_options options None (word ∷ words))) state.values (values_of options None place (word ∷ words))) (sym (step_free options state place word words (free_kept state word a o) e))
    (λ h. (let all = (subst (λ r. IsWholeAt options state (place + 1) words r) a rest) h in (
      ap (λ os. operand_at place word ∷ os) all.0 ∙ sym (free_here options place word words e o),
      ap (flags_after options state.flags) (options_after options word words e o) ∙ all.1,
      ap (option_map (λ vs. state.values ++ vs)) (values_behind options place word words e o) ∙ all.2,
    )))

pub whole_word : (options : List OptionSpec) (state : OptionState) (place : ℕ) (word : List ℕ) (words : List (List ℕ)) (rule : Option ValueRule) → state.awaiting ≡ rule → ((more : OptionState) → IsWholeAt options more (place + 1) words more.awaiting) → IsWholeAt options state place (word ∷ words) rule
whole_word options state place word words (Some rule) a rest = whole_value options state place word words rule a rest
whole_word options state place word words None a rest =
    elim (is_double_dash word) as (λ b. is_double_dash word ≡ b → IsWholeAt options state place (word ∷ words) None) [
      | true ↦ λ e. whole_end options state place word words a e
      | false ↦ λ e. elim (is_option_or_double_dash word) as (λ b. is_option_or_double_dash word ≡ b → IsWholeAt options state place (word ∷ words) None) [
        | true ↦ λ o. whole_option options state place word words a e o rest
        | false ↦ λ o. whole_free options state place word words a e o (rest state)
      ] refl
    ] refl

pub reading_whole : (options : List OptionSpec) (state : OptionState) (place : ℕ) (words : List (List ℕ)) → IsWholeAt options state place words state.awaiting
reading_whole options state place [] = whole_empty options state place state.awaiting refl
reading_whole options state place (word ∷ words) = whole_word options state place word words state.awaiting refl (λ more. reading_whole options more (place + 1) words)

-- what is behind the applet, where the options may have ended
abbrev pub free_rest : Bool → List OptionSpec → ℕ → List (List ℕ) → List Operand
free_rest true options place words = words_as_operands_from_place place words
free_rest false options place words = operand_words options None place words

abbrev pub option_rest : Bool → List OptionSpec → List (List ℕ) → List (List ℕ)
option_rest true options words = []
option_rest false options words = words_that_are_options options None words

abbrev pub value_rest : Bool → List OptionSpec → ℕ → List (List ℕ) → Option (List OptionValue)
value_rest true options place words = Some []
value_rest false options place words = values_of options None place words

-- what is read behind the applet
pub from_whole : (start : Start) (words : List (List ℕ)) → IsWellFormed (reading_of_rest_of_command_words start words) (free_rest start.ended (options_of start.applet) (start.read + 1) (drop start.read words)) (flags_after (options_of start.applet) start.flags (option_rest start.ended (options_of start.applet) (drop start.read words))) [] (value_rest start.ended (options_of start.applet) (start.read + 1) (drop start.read words))
unfolding reading_of_rest_of_command_words
from_whole start words =
    let options = options_of start.applet in
    elim start.ended as (λ b. IsWellFormed (if b then words_reading_from_parts (option_state_at_start start.flags) (words_as_operands_from_place (start.read + 1) (drop start.read words)) None else reading_of_words_from_place options (option_state_at_start start.flags) (start.read + 1) (drop start.read words)) (free_rest b options (start.read + 1) (drop start.read words)) (flags_after options start.flags (option_rest b options (drop start.read words))) [] (value_rest b options (start.read + 1) (drop start.read words))) [
      | true ↦ λ h. (refl, refl, refl)
      | false ↦ reading_whole options (option_state_at_start start.flags) (start.read + 1) (drop start.read words)
    ]

-- the words up to the applet, with their flags, and what the words behind it add
pub record IsFrom (flags : Flags) (place : ℕ) (words : List (List ℕ)) (start : Start) : Type 0 where
  pub count : ℕ
  pub read : start.read ≡ place + count
  pub word : List ℕ
  pub names : applet_of word ≡ Some start.applet
  pub free : operand_words (options_of start.applet) None place words ≡ operand_at start.read word ∷ free_rest start.ended (options_of start.applet) (start.read + 1) (drop (suc count) words)
  pub early : list_all may_precede_applet (take count words) ≡ true
  pub says : flags_after (options_of start.applet) flags (words_that_are_options (options_of start.applet) None words) ≡ flags_after (options_of start.applet) start.flags (option_rest start.ended (options_of start.applet) (drop (suc count) words))
  pub values : values_of (options_of start.applet) None place words ≡ value_rest start.ended (options_of start.applet) (start.read + 1) (drop (suc count) words)

-- .. of a site that was found, where the words before it are options of its applet
abbrev pub IsFromSite : Flags → ℕ → List (List ℕ) → AppletSite → Type 0
IsFromSite flags place words site =
    (more : Flags) → flags_with_options_before_applet (options_of site.applet) flags place (take (site.read - place) words) ≡ Ok more → IsFrom flags place words (start_from_parts site more)

-- the site is no earlier than the words
named_low : (ended : Bool) (place low : ℕ) (word : List ℕ) → low ≤ place → IfOk (applet_site_of_word ended place word) (λ s. low ≤ s.read)
unfolding applet_site_of_word
named_low ended place low word l =
    elim (applet_of word) as (λ o. IfOk (or_err_at place (λ applet. Ok (applet_site_from_ended_read_applet ended place applet)) o) (λ s. low ≤ s.read)) [
      | None ↦ tt
      | Some applet ↦ l
    ]

end_low : (place : ℕ) (words : List (List ℕ)) → IfOk (applet_site_after_double_dash (place + 1) words) (λ s. place ≤ s.read)
unfolding applet_site_after_double_dash
end_low place [] = tt
end_low place (word ∷ words) = named_low true (place + 1) place word (omega arith)

pub site_low : (place : ℕ) (words : List (List ℕ)) → IfOk (applet_site place words) (λ s. place ≤ s.read)
site_low place [] = tt
site_low place (word ∷ words) =
    elim (is_double_dash word) as (λ b. IfOk (if b then applet_site_after_double_dash (place + 1) words else if is_option_or_double_dash word then (if is_option_word_that_may_precede_applet word then applet_site (place + 1) words else Err place) else applet_site_of_word false place word) (λ s. place ≤ s.read)) [
      | true ↦ end_low place words
      | false ↦ elim (is_option_or_double_dash word) as (λ b. IfOk (if b then (if is_option_word_that_may_precede_applet word then applet_site (place + 1) words else Err place) else applet_site_of_word false place word) (λ s. place ≤ s.read)) [
        | true ↦ elim (is_option_word_that_may_precede_applet word) as (λ b. IfOk (if b then applet_site (place + 1) words else Err place) (λ s. place ≤ s.read)) [
          | true ↦ IfOk-weaker (applet_site (place + 1) words) (λ s. place + 1 ≤ s.read) (λ s. place ≤ s.read) (λ s l. omega (arith, l)) (site_low (place + 1) words)
          | false ↦ tt
        ]
        | false ↦ named_low false place place word (omega arith)
      ]
    ]

-- the applet behind `--`
pub from_end : (flags : Flags) (place : ℕ) (word : List ℕ) (words : List (List ℕ)) → is_double_dash word ≡ true → IfOk (applet_site_after_double_dash (place + 1) words) (λ s. IsFromSite flags place (word ∷ words) s)
unfolding applet_site_after_double_dash applet_site_of_word
from_end flags place word [] e = tt
from_end flags place word (next ∷ words) e =
    elim (applet_of next) as (λ o. applet_of next ≡ o → IfOk (or_err_at (place + 1) (λ applet. Ok (applet_site_from_ended_read_applet true (place + 1) applet)) o) (λ s. IsFromSite flags place (word ∷ (next ∷ words)) s)) [
      | None ↦ λ n. tt
      | Some applet ↦ λ n more f.
          let one : place + 1 - place ≡ suc 0 = omega arith in
          let same : Ok flags ≡ Ok more = sym (flags_end (options_of applet) flags place word [] e) ∙ (ap (λ k. flags_with_options_before_applet (options_of applet) flags place (take k (word ∷ (next ∷ words)))) (sym one) ∙ f) in
          let is : flags ≡ more = cc in
          record {
            count = 1;
            read = refl;
            word = next;
            names = n;
            free = free_end (options_of applet) place word (next ∷ words) e;
            early = rw e refl;
            says = ap (flags_after (options_of applet) flags) (options_end (options_of applet) word (next ∷ words) e) ∙ ap Some is;
            values = values_end (options_of applet) place word (next ∷ words) e;
          }
    ] refl

-- the applet at a word
pub from_named : (flags : Flags) (place : ℕ) (word : List ℕ) (words : List (List ℕ)) → is_double_dash word ≡ false → is_option_or_double_dash word ≡ false → IfOk (applet_site_of_word false place word) (λ s. IsFromSite flags place (word ∷ words) s)
unfolding applet_site_of_word
from_named flags place word words e o =
    elim (applet_of word) as (λ a. applet_of word ≡ a → IfOk (or_err_at place (λ applet. Ok (applet_site_from_ended_read_applet false place applet)) a) (λ s. IsFromSite flags place (word ∷ words) s)) [
      | None ↦ λ n. tt
      | Some applet ↦ λ n more f.
          let none : place - place ≡ 0 = omega arith in
          let same : Ok flags ≡ Ok more = ap (λ k. flags_with_options_before_applet (options_of applet) flags place (take k (word ∷ words))) (sym none) ∙ f in
          let is : flags ≡ more = cc in
          record {
            count = 0;
            read = omega arith;
            word = word;
            names = n;
            free = free_here (options_of applet) place word words e o;
            early = refl;
            says = ap (flags_after (options_of applet) flags) (options_after (options_of applet) word words e o) ∙ ap (λ g. flags_after (options_of applet) g (words_that_are_options (options_of applet) None words)) is;
            values = values_behind (options_of applet) place word words e o;
          }
    ] refl

-- ---- an option before the applet is a word as it stands

abbrev pub is_whole : List ℕ → Bool
is_whole word = bytes_eq (option_word_without_value word) word && not (is_some (value_in_long_or_short_option_word word))

-- what holds of each word that may stand before the applet holds of one that does
pub by_early : (p : List ℕ → Bool) (word : List ℕ) → list_all p option_words_that_may_precede_applet ≡ true → is_option_word_that_may_precede_applet word ≡ true → p word ≡ true
by_early p word each early = among option_words_that_may_precede_applet each early
  where
    among : (ws : List (List ℕ)) → list_all p ws ≡ true → list_any (λ w. bytes_eq w word) ws ≡ true → p word ≡ true
    among [] each early = absurd (false≢true early)
    among (w ∷ ws) each early =
        let parts = and_parts (p w) (list_all p ws) each in
        elim (or_cases (bytes_eq w word) (list_any (λ x. bytes_eq x word) ws) early) as (λ _. p word ≡ true) [
          | inl here ↦ subst (λ x. p x ≡ true) ((bytes_eq-Decides w word).0 here) parts.0
          | inr later ↦ among ws parts.1 later
        ]

early_whole : list_all is_whole option_words_that_may_precede_applet ≡ true
unfolding option_words_that_may_precede_applet option_word_without_value value_in_long_or_short_option_word
early_whole = refl

pub record IsWholeWord (word : List ℕ) : Type 0 where
  pub name : option_word_without_value word ≡ word
  pub held : value_in_long_or_short_option_word word ≡ None

pub whole_early : (word : List ℕ) → is_option_word_that_may_precede_applet word ≡ true → IsWholeWord word
whole_early word early =
    let parts = and_parts (bytes_eq (option_word_without_value word) word) (not (is_some (value_in_long_or_short_option_word word))) (by_early is_whole word early_whole early) in
    record { name = (bytes_eq-Decides (option_word_without_value word) word).0 parts.0; held = none_held (value_in_long_or_short_option_word word) parts.1 }
  where
    none_held : (o : Option (List ℕ)) → not (is_some o) ≡ true → o ≡ None
    none_held None h = refl
    none_held (Some text) h = absurd (false≢true h)

-- what an option before the applet says, among the options of the applet
pub record IsEarlier (applet : Applet) (flags more : Flags) (word : List ℕ) : Type 0 where
  pub option : OptionSpec
  pub is : option_of_word (options_of applet) (option_word_without_value word) ≡ Some option
  pub held : value_in_long_or_short_option_word word ≡ None
  pub rule : value_rule_of_word (options_of applet) word ≡ None
  pub says : flags_with_held_meaning flags (value_in_long_or_short_option_word word) option.meaning ≡ Some more

pub earlier : (applet : Applet) (flags more : Flags) (word : List ℕ) → is_option_word_that_may_precede_applet word ≡ true → flags_with_option_word_if_one_command_kind (options_of applet) flags word ≡ Some more → IsEarlier applet flags more word
earlier applet flags more word early m =
    option_and_then_some (flags_with_option_if_one_command_kind flags) (option_of_word (options_of applet) word) more m
    (λ x is made.
    let whole = whole_early word early in
    let found : option_of_word (options_of applet) (option_word_without_value word) ≡ Some x = ap (option_of_word (options_of applet)) whole.name ∙ is in
    record {
      option = x;
      is = found;
      held = whole.held;
      rule = rule_at_is (options_of applet) word x found ∙ no_rule flags more x.meaning made;
      says = ap (λ h. flags_with_held_meaning flags h x.meaning) whole.held ∙ flag_says flags more x.meaning made;
    })

pub no_rule_after : (options : List OptionSpec) (word : List ℕ) → value_in_long_or_short_option_word word ≡ None → value_rule_of_word options word ≡ None → awaited_rule options word ≡ None
no_rule_after options word h r = ap (λ held. value_rule_unless_attached held (value_rule_of_word options word)) h ∙ r

pub values_same : (o : Option (List OptionValue)) → option_map (λ vs. [] ++ vs) o ≡ o
values_same None = refl
values_same (Some vs) = refl

pub from_option : (flags more : Flags) (place : ℕ) (word : List ℕ) (words : List (List ℕ)) (start : Start) → is_double_dash word ≡ false → is_option_or_double_dash word ≡ true → is_option_word_that_may_precede_applet word ≡ true → flags_with_option_word_if_one_command_kind (options_of start.applet) flags word ≡ Some more → IsFrom more (place + 1) words start → IsFrom flags place (word ∷ words) start
from_option flags more place word words start e o y m from = record {
  count = suc from.count;
  read = from.read ∙ omega arith;
  word = from.word;
  names = from.names;
  free = free_option options place word words e o ∙ (ap (λ r. operand_words options r (place + 1) words) none ∙ from.free);
  early = early_word;
  says = ap (flags_after options flags) (options_here options word words e o)
      ∙ (flags_here options flags more word (words_that_are_options options (awaited_rule options word) words) early.option early.is early.says
      ∙ (ap (λ r. flags_after options more (words_that_are_options options r words)) none ∙ from.says));
  values = values_option options place word words e o
      ∙ (ap (λ r. option_map (λ vs. attached_values place r (value_in_long_or_short_option_word word) ++ vs) (values_of options (awaited_rule options word) (place + 1) words)) early.rule
      ∙ (values_same (values_of options (awaited_rule options word) (place + 1) words)
      ∙ (ap (λ r. values_of options r (place + 1) words) none ∙ from.values)));
}
  where
    options : List OptionSpec
    options = options_of start.applet

    early : IsEarlier start.applet flags more word
    early = earlier start.applet flags more word y m

    none : awaited_rule (options_of start.applet) word ≡ None
    none = no_rule_after (options_of start.applet) word early.held early.rule

    early_word : (is_double_dash word || is_option_word_that_may_precede_applet word) && list_all may_precede_applet (take from.count words) ≡ true
    early_word = rw e (rw y from.early)

from_step : (flags : Flags) (place : ℕ) (word : List ℕ) (words : List (List ℕ)) (site : AppletSite) → is_double_dash word ≡ false → is_option_or_double_dash word ≡ true → is_option_word_that_may_precede_applet word ≡ true → place + 1 ≤ site.read → ((g : Flags) → IsFromSite g (place + 1) words site) → IsFromSite flags place (word ∷ words) site
from_step flags place word words site e o y low rest more f = by_option (flags_with_option_word_if_one_command_kind (options_of site.applet) flags word) refl
  where
    next : site.read - place ≡ suc (site.read - (place + 1))
    next = omega (arith, low)

    early : flags_with_options_before_applet (options_of site.applet) flags place (word ∷ take (site.read - (place + 1)) words) ≡ Ok more
    early = ap (λ k. flags_with_options_before_applet (options_of site.applet) flags place (take k (word ∷ words))) (sym next) ∙ f

    by_option : (m : Option Flags) → flags_with_option_word_if_one_command_kind (options_of site.applet) flags word ≡ m → IsFrom flags place (word ∷ words) (start_from_parts site more)
    by_option None m = absurd (let none : Err place ≡ Ok more = sym (flags_step (options_of site.applet) flags place word (take (site.read - (place + 1)) words) None e m) ∙ early in cc)
    by_option (Some g) m =
        from_option flags g place word words (start_from_parts site more) e o y m
        (rest g more (sym (flags_step (options_of site.applet) flags place word (take (site.read - (place + 1)) words) (Some g) e m) ∙ early))

pub site_from : (place : ℕ) (words : List (List ℕ)) → IfOk (applet_site place words) (λ s. (flags : Flags) → IsFromSite flags place words s)
site_from place [] = tt
site_from place (word ∷ words) =
    elim (is_double_dash word) as (λ b. is_double_dash word ≡ b → IfOk (if b then applet_site_after_double_dash (place + 1) words else if is_option_or_double_dash word then (if is_option_word_that_may_precede_applet word then applet_site (place + 1) words else Err place) else applet_site_of_word false place word) (λ s. (flags : Flags) → IsFromSite flags place (word ∷ words) s)) [
      | true ↦ λ e. each (applet_site_after_double_dash (place + 1) words) (λ flags. from_end flags place word words e)
      | false ↦ λ e. elim (is_option_or_double_dash word) as (λ b. is_option_or_double_dash word ≡ b → IfOk (if b then (if is_option_word_that_may_precede_applet word then applet_site (place + 1) words else Err place) else applet_site_of_word false place word) (λ s. (flags : Flags) → IsFromSite flags place (word ∷ words) s)) [
        | true ↦ λ o. elim (is_option_word_that_may_precede_applet word) as (λ b. is_option_word_that_may_precede_applet word ≡ b → IfOk (if b then applet_site (place + 1) words else Err place) (λ s. (flags : Flags) → IsFromSite flags place (word ∷ words) s)) [
          | true ↦ λ y. later (applet_site (place + 1) words) (site_low (place + 1) words) (site_from (place + 1) words) e o y
          | false ↦ λ y. tt
        ] refl
        | false ↦ λ o. each (applet_site_of_word false place word) (λ flags. from_named flags place word words e o)
      ] refl
    ] refl
  where
    each : (r : Result AppletSite ℕ) → ((flags : Flags) → IfOk r (λ s. IsFromSite flags place (word ∷ words) s)) → IfOk r (λ s. (flags : Flags) → IsFromSite flags place (word ∷ words) s)
    each (Err at) h = tt
    each (Ok site) h = h

    later : (r : Result AppletSite ℕ) → IfOk r (λ s. place + 1 ≤ s.read) → IfOk r (λ s. (flags : Flags) → IsFromSite flags (place + 1) words s) → is_double_dash word ≡ false → is_option_or_double_dash word ≡ true → is_option_word_that_may_precede_applet word ≡ true → IfOk r (λ s. (flags : Flags) → IsFromSite flags place (word ∷ words) s)
    later (Err at) low rest e o y = tt
    later (Ok site) low rest e o y = λ flags. from_step flags place word words site e o y low rest

-- the words up to the applet of a line that begins so
pub line_from : (words : List (List ℕ)) (start : Start) → start_of_command_line words ≡ Ok start → IsFrom no_flags 1 words start
line_from words start s =
    let parts = start_parts words start s in
    subst (λ (x : Start). IsFrom no_flags 1 words x) parts.same
    (IfOk-at_ok (λ x. (flags : Flags) → IsFromSite flags 1 words x) parts.found (site_from 1 words) no_flags parts.flags parts.early)

-- a command that is judged good
pub record IsJudged (behind : ℕ) (applet : Applet) (reading : Reading) (command : CommandLine) : Type 0 where
  pub whole : reading.unread ≡ None
  pub same : command_from_end_place_and_reading behind applet reading ≡ command
  pub sound : is_valid_command (command_from_end_place_and_reading behind applet reading) ≡ true

pub judged_good : (behind : ℕ) (applet : Applet) (reading : Reading) (command : CommandLine) → IsSoundReading applet reading → command_of_reading_with_end_place behind applet reading ≡ Ok command → IsJudged behind applet reading command
unfolding command_of_reading_with_end_place
judged_good behind applet reading command m j =
    elim (operand_rule_if_needed_kind_flag_given applet reading.state.flags) as (λ r. operand_rule_if_needed_kind_flag_given applet reading.state.flags ≡ r → unless_refused_at (option_or (place_of_first_operand_refused_by_rule r reading.operands) reading.unread) (if lacks_operand_kind_flag_or_required_option applet r reading then Err behind else Ok (command_from_end_place_and_reading behind applet reading)) ≡ Ok command → IsJudged behind applet reading command) [
      | None ↦ λ r h. absurd (no_kind reading.unread h)
      | Some rule ↦ λ r h. by_rule rule r (place_of_first_operand_refused_by_rule (Some rule) reading.operands) refl reading.unread refl (lacks_operand_kind_flag_or_required_option applet (Some rule) reading) refl h
    ] refl j
  where
    no_kind : (unread : Option ℕ) → unless_refused_at unread (Err behind) ≡ Ok command → ⊥
    no_kind None h = cc
    no_kind (Some place) h = cc

    by_rule : (rule : OperandRule) → operand_rule_if_needed_kind_flag_given applet reading.state.flags ≡ Some rule → (refused : Option ℕ) → place_of_first_operand_refused_by_rule (Some rule) reading.operands ≡ refused → (unread : Option ℕ) → reading.unread ≡ unread → (lacking : Bool) → lacks_operand_kind_flag_or_required_option applet (Some rule) reading ≡ lacking → unless_refused_at (option_or refused unread) (if lacking then Err behind else Ok (command_from_end_place_and_reading behind applet reading)) ≡ Ok command → IsJudged behind applet reading command
    by_rule rule r (Some place) f unread u lacking l h = absurd (cc)
    by_rule rule r None f (Some place) u lacking l h = absurd (cc)
    by_rule rule r None f None u true l h = absurd (cc)
    by_rule rule r None f None u false l h =
        let flags = reading.state.flags in
        let enough = or_parts (lacks_operand_or_kind_flag (Some rule) reading.operands) (is_required_value_missing (required_option_letter applet) reading.state.values) l in
        record {
          whole = u;
          same = cc;
          sound = taken_sound applet flags reading.operands reading.state.values behind rule m.0 m.1 r f (ltb-false (length reading.operands) rule.least enough.0) enough.1;
        }

pub read_line : (words : List (List ℕ)) (command : CommandLine) → spelled_command words ≡ Ok command → AreWordsOfCommand words command
unfolding spelled_command
read_line words command c =
    elim (start_of_command_line words) as (λ s. start_of_command_line words ≡ s → spelled_command_by_start words s ≡ Ok command → AreWordsOfCommand words command) [
      | Err place ↦ λ s h. absurd (cc)
      | Ok start ↦ λ s h. by_start start s h
    ] refl c
  where
    by_start : (start : Start) → start_of_command_line words ≡ Ok start → command_of_reading_with_end_place (length words + 1) start.applet (reading_of_rest_of_command_words start words) ≡ Ok command → AreWordsOfCommand words command
    by_start start s h =
        let options = options_of start.applet in
        let from : IsFrom no_flags 1 words start = line_from words start s in
        let good = judged_good (length words + 1) start.applet (reading_of_rest_of_command_words start words) command (from_kept start (1 + length words) words (start_known words start s)) h in
        let at : suc from.count ≡ start.read = (let is : start.read ≡ 1 + from.count = from.read in omega arith) in
        let rest = from_whole start words good.whole in
        subst (λ (x : CommandLine). AreWordsOfCommand words x) good.same (record {
          applet = operand_at start.read from.word;
          names = from.names;
          free = from.free ∙ ap (λ os. operand_at start.read from.word ∷ os) (ap (λ n. free_rest start.ended options (start.read + 1) (drop n words)) at ∙ sym rest.0);
          early = ap (λ n. list_all may_precede_applet (take n words)) (let is : start.read ≡ 1 + from.count = from.read in let less : start.read - 1 ≡ from.count = omega arith in less) ∙ from.early;
          flags = from.says ∙ (ap (λ n. flags_after options start.flags (option_rest start.ended options (drop n words))) at ∙ rest.1);
          values = from.values ∙ (ap (λ n. value_rest start.ended options (start.read + 1) (drop n words)) at ∙ (sym (values_same (value_rest start.ended options (start.read + 1) (drop start.read words))) ∙ rest.2));
          behind = refl;
          sound = good.sound;
        })
