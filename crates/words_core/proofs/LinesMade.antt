-- Words that are a command are read as it.
use Rattle.std.proofs.Common.{Bool, List, None, Ok, Option, Result, Some, [], ap, append-nil, arith, drop, false, length, option_and_then, refl, subst, suc, sym, take, true, ℕ, ◌++◌, ◌+◌, ◌-◌, ◌∙◌, ◌∷◌, ◌≡◌, ◌≤◌, if◌then◌else◌}
use Rattle.std.specs.List.{list_all}
use Rattle.std.specs.Option.{option_map}
use Rattle.std.specs.Prelude.{◌||◌}
use Rattle.std.specs.Str.{bytes_eq}
use Rattle.std.proofs.lemmas.Bool.{and_parts, false≢true}
use Rattle.std.proofs.lemmas.Option.{none-some, same_Some}
use Rattle.command_core.specs.declared.command.Applet.{Applet}
use Rattle.command_core.specs.declared.command.Applet.TheVariants.{Add}
use Rattle.command_core.specs.declared.command.Flags.{Flags}
use Rattle.command_core.specs.declared.operands.Operand.{Operand}
use Rattle.command_core.specs.declared.values.OptionValue.{OptionValue}
use Rattle.command_core.specs.declared.values.ValueRule.{ValueRule}
use Rattle.command_core.specs.Sound.{may_have_flags, value_rules, is_valid_command, are_allowed_values, value_rule_of_letter}
use Rattle.command_core.specs.Command.{CommandLine, command_from_parts_and_end_place}
use Rattle.command_core.specs.Flags.{no_flags}
use Rattle.command_core.specs.Operands.{operand_at}
use Rattle.command_core.specs.Values.{is_single_and_given, option_value_from_place_letter_and_text}
use Rattle.words_core.specs.declared.options.Meaning.{Meaning}
use Rattle.words_core.specs.declared.options.Meaning.TheVariants.{Flag as Plain, Kind, Value}
use Rattle.words_core.specs.declared.reading.AppletSite.{AppletSite}
use Rattle.words_core.specs.declared.reading.OptionState.{OptionState}
use Rattle.words_core.specs.declared.reading.Reading.{Reading}
use Rattle.words_core.specs.declared.reading.Start.{Start}
use Rattle.words_core.specs.Grammar.{applet_site, spelled_command_by_start, command_from_end_place_and_reading, flags_with_options_before_applet, option_state_at_start, value_in_long_or_short_option_word, is_double_dash, is_option_or_double_dash, spelled_command, start_of_command_line, words_as_operands_from_place, option_word_without_value, reading_of_words_from_place, or_err_at, reading_of_rest_of_command_words, words_reading_from_parts, awaited_rule, value_rule_of_meaning, value_rule_unless_attached, applet_site_of_word, applet_site_after_double_dash, applet_site_from_ended_read_applet, start_from_parts, start_by_applet_site, start_with_flags_before_applet, option_state_from_parts, command_of_reading_with_end_place, flags_with_meaning_if_one_command_kind, state_with_meaning, flags_with_option_word_if_one_command_kind, flags_with_option_if_one_command_kind, with_option_word, with_word_as_option_or_value}
use Rattle.words_core.specs.Lines.{AreWordsOfCommand, flags_after, flags_with_held_meaning, operand_words, attached_values, words_that_are_options, may_precede_applet, values_of}
use Rattle.words_core.specs.Options.{OptionSpec, applet_of, common_options, option_words_that_may_precede_applet, is_option_word_that_may_precede_applet, option_of_word, options_of}
use Rattle.words_core.proofs.GivenKept.{IsOwn, all_own, found_own}
use Rattle.words_core.proofs.KindsKept.{find_passes}
use Rattle.words_core.proofs.LinesFit.{Fits, IsFirstOption, all_stand, first_option, fits_in, flag_made, joined, joined_one, less_kept, same_head, same_tail, located, stands_as, value_made}
use Rattle.words_core.proofs.LinesJudged.{has_parts, sound_judged}
use Rattle.words_core.proofs.LinesRead.{IsFrom, awaited_taken, by_early, end_kept, free_end, free_here, free_kept, free_option, free_rest, line_from, no_rule_after, one_joined, option_rest, option_taken, options_after, options_end, options_here, rule_at_is, step_end, step_free, step_taken, value_rest, values_behind, values_end, values_joined, values_option, values_same, whole_early}
use Rattle.words_core.proofs.Sites.{flags_end, flags_step, seek_early, seek_end, seek_here}

-- the words from a place on give flags and values, with those that were given before
pub record IsMade (applet : Applet) (state : OptionState) (more : Flags) (all : List OptionValue) (place : ℕ) (words : List (List ℕ)) (rule : Option ValueRule) : Type 0 where
  pub flags : flags_after (options_of applet) state.flags (words_that_are_options (options_of applet) rule words) ≡ Some more
  pub values : option_map (λ vs. state.values ++ vs) (values_of (options_of applet) rule place words) ≡ Some all
  pub awaiting : state.awaiting ≡ rule
  pub own : (r : ValueRule) → rule ≡ Some r → value_rule_of_letter (value_rules applet) r.letter ≡ Some r

pub given_is : (state : OptionState) (more : Flags) (all : List OptionValue) → state.flags ≡ more → state.values ≡ all → state.awaiting ≡ None → state ≡ option_state_from_parts more all None
given_is state more all f v a =
    ap (λ x. option_state_from_parts x state.values state.awaiting) f ∙ (ap (λ x. option_state_from_parts more x state.awaiting) v ∙ ap (λ x. option_state_from_parts more all x) a)

pub no_own : (applet : Applet) (r : ValueRule) → None ≡ Some r → value_rule_of_letter (value_rules applet) r.letter ≡ Some r
no_own applet r h = absurd (none-some r h)

-- the reading of words that are made so
abbrev pub ReadsOldOrReplaced : Applet → OptionState → Flags → List OptionValue → ℕ → List (List ℕ) → Option ValueRule → Type 0
ReadsOldOrReplaced applet state more all place words rule =
    reading_of_words_from_place (options_of applet) state place words ≡ words_reading_from_parts (option_state_from_parts more all None) (operand_words (options_of applet) rule place words) None

pub made_empty : (applet : Applet) (state : OptionState) (more : Flags) (all : List OptionValue) (place : ℕ) (rule : Option ValueRule) → IsMade applet state more all place [] rule → ReadsOldOrReplaced applet state more all place [] rule
made_empty applet state more all place None made =
    ap (λ r. words_reading_from_parts state [] (option_map (λ (x : ValueRule). place) r)) made.awaiting
    ∙ ap (λ g. words_reading_from_parts g [] None) (given_is state more all (same_Some state.flags more made.flags) (sym (append-nil state.values) ∙ same_Some (state.values ++ []) all made.values) made.awaiting)
made_empty applet state more all place (Some rule) made = absurd (none-some all made.values)

pub made_value : (applet : Applet) (state : OptionState) (more : Flags) (all : List OptionValue) (place : ℕ) (word : List ℕ) (words : List (List ℕ)) (rule : ValueRule) → are_allowed_values (value_rules applet) all ≡ true → ((next : OptionState) (r : Option ValueRule) → IsMade applet next more all (place + 1) words r → ReadsOldOrReplaced applet next more all (place + 1) words r) → IsMade applet state more all place (word ∷ words) (Some rule) → ReadsOldOrReplaced applet state more all place (word ∷ words) (Some rule)
made_value applet state more all place word words rule are rest made =
    step_taken options state place word words (Some next) (awaited_taken state word rule made.awaiting) (ap (with_word_as_option_or_value options state place word) made.awaiting ∙ value_made state place word rule fits)
    ∙ rest next None (record {
      flags = made.flags;
      values = sym (one_joined state.values v (values_of options None (place + 1) words)) ∙ made.values;
      awaiting = refl;
      own = no_own applet;
    })
  where
    options : List OptionSpec
    options = options_of applet

    v : OptionValue
    v = option_value_from_place_letter_and_text place rule.letter word

    next : OptionState
    next = option_state_from_parts state.flags (state.values ++ (v ∷ [])) None

    fits : Fits rule word state.values
    fits =
        let outer = joined state.values all (option_map (λ vs. v ∷ vs) (values_of options None (place + 1) words)) made.values in
        let inner = joined_one v outer.more (values_of options None (place + 1) words) outer.some in
        fits_in (value_rules applet) rule word place state.values inner.more (made.own rule refl)
        (subst (λ vs. are_allowed_values (value_rules applet) vs ≡ true) (sym (ap (λ vs. state.values ++ vs) inner.same ∙ outer.same)) are)

-- there is room for what an option says
abbrev pub IsOutputPathFree : OptionState → Option (List ℕ) → Meaning → Type 0
IsOutputPathFree state held (Plain flag) = Unit {0}
IsOutputPathFree state held (Kind flag) = Unit {0}
IsOutputPathFree state None (Value rule) = is_single_and_given rule state.values ≡ false
IsOutputPathFree state (Some text) (Value rule) = Fits rule text state.values

pub meaning_made : (applet : Applet) (state : OptionState) (next : Flags) (place : ℕ) (held : Option (List ℕ)) (meaning : Meaning) → state.awaiting ≡ None → stands_as applet state.flags meaning ≡ true → flags_with_held_meaning state.flags held meaning ≡ Some next → may_have_flags applet next ≡ true → IsOutputPathFree state held meaning → state_with_meaning state place held meaning ≡ Some (option_state_from_parts next (state.values ++ attached_values place (value_rule_of_meaning meaning) held) (value_rule_unless_attached held (value_rule_of_meaning meaning)))
meaning_made applet state next place None (Value rule) a s f m room =
    rw room (ap Some (ap (λ x. option_state_from_parts x state.values (Some rule)) (same_Some state.flags next f) ∙ ap (λ vs. option_state_from_parts next vs (Some rule)) (sym (append-nil state.values))))
meaning_made applet state next place (Some text) (Value rule) a s f m room =
    rw room.spent (value_made state place text rule room ∙ ap (λ x. Some (option_state_from_parts x (state.values ++ (option_value_from_place_letter_and_text place rule.letter text ∷ [])) None)) (same_Some state.flags next f))
meaning_made applet state next place (Some text) (Plain flag) a s f m room = absurd (none-some next f)
meaning_made applet state next place (Some text) (Kind flag) a s f m room = absurd (none-some next f)
meaning_made applet state next place None (Plain flag) a s f m room =
    ap (option_map (λ x. option_state_from_parts x state.values state.awaiting)) (flag_made applet state.flags next (Plain flag) refl s f m)
    ∙ ap Some (ap (λ vs. option_state_from_parts next vs state.awaiting) (sym (append-nil state.values)) ∙ ap (λ r. option_state_from_parts next (state.values ++ []) r) a)
meaning_made applet state next place None (Kind flag) a s f m room =
    ap (option_map (λ x. option_state_from_parts x state.values state.awaiting)) (flag_made applet state.flags next (Kind flag) refl s f m)
    ∙ ap Some (ap (λ vs. option_state_from_parts next vs state.awaiting) (sym (append-nil state.values)) ∙ ap (λ r. option_state_from_parts next (state.values ++ []) r) a)

-- the value that is awaited comes first
pub record ComesFirst (rule : ValueRule) (all : List OptionValue) : Type 0 where
  pub place : ℕ
  pub text : List ℕ
  pub more : List OptionValue
  pub same : option_value_from_place_letter_and_text place rule.letter text ∷ more ≡ all

pub comes_first : (options : List OptionSpec) (rule : ValueRule) (place : ℕ) (words : List (List ℕ)) (all : List OptionValue) → values_of options (Some rule) place words ≡ Some all → ComesFirst rule all
comes_first options rule place [] all h = absurd (none-some all h)
comes_first options rule place (word ∷ words) all h =
    let one = joined_one (option_value_from_place_letter_and_text place rule.letter word) all (values_of options None (place + 1) words) h in
    record { place = place; text = word; more = one.more; same = one.same }

pub room_for : (applet : Applet) (state : OptionState) (all : List OptionValue) (place : ℕ) (words : List (List ℕ)) (held : Option (List ℕ)) (meaning : Meaning) → IsOwn applet meaning → are_allowed_values (value_rules applet) all ≡ true → option_map (λ vs. state.values ++ vs) (option_map (λ vs. attached_values place (value_rule_of_meaning meaning) held ++ vs) (values_of (options_of applet) (value_rule_unless_attached held (value_rule_of_meaning meaning)) (place + 1) words)) ≡ Some all → IsOutputPathFree state held meaning
room_for applet state all place words held (Plain flag) own are h = tt
room_for applet state all place words held (Kind flag) own are h = tt
room_for applet state all place words None (Value rule) own are h =
    let outer = joined state.values all (option_map (λ vs. [] ++ vs) (values_of (options_of applet) (Some rule) (place + 1) words)) h in
    let first = comes_first (options_of applet) rule (place + 1) words outer.more (sym (values_same (values_of (options_of applet) (Some rule) (place + 1) words)) ∙ outer.some) in
    (fits_in (value_rules applet) rule first.text first.place state.values first.more own
    (subst (λ vs. are_allowed_values (value_rules applet) vs ≡ true) (sym (ap (λ vs. state.values ++ vs) first.same ∙ outer.same)) are)).spent
room_for applet state all place words (Some text) (Value rule) own are h =
    let v = option_value_from_place_letter_and_text place rule.letter text in
    let outer = joined state.values all (option_map (λ vs. (v ∷ []) ++ vs) (values_of (options_of applet) None (place + 1) words)) h in
    let inner = joined (v ∷ []) outer.more (values_of (options_of applet) None (place + 1) words) outer.some in
    fits_in (value_rules applet) rule text place state.values inner.more own
    (subst (λ vs. are_allowed_values (value_rules applet) vs ≡ true) (sym (ap (λ vs. state.values ++ vs) inner.same ∙ outer.same)) are)

pub own_rule : (applet : Applet) (held : Option (List ℕ)) (meaning : Meaning) (r : ValueRule) → IsOwn applet meaning → value_rule_unless_attached held (value_rule_of_meaning meaning) ≡ Some r → value_rule_of_letter (value_rules applet) r.letter ≡ Some r
own_rule applet (Some text) meaning r own h = absurd (none-some r h)
own_rule applet None (Plain flag) r own h = absurd (none-some r h)
own_rule applet None (Kind flag) r own h = absurd (none-some r h)
own_rule applet None (Value rule) r own h = subst (λ (x : ValueRule). value_rule_of_letter (value_rules applet) x.letter ≡ Some x) (same_Some rule r h) own

pub made_option : (applet : Applet) (state : OptionState) (more : Flags) (all : List OptionValue) (place : ℕ) (word : List ℕ) (words : List (List ℕ)) → may_have_flags applet more ≡ true → are_allowed_values (value_rules applet) all ≡ true → is_double_dash word ≡ false → is_option_or_double_dash word ≡ true → ((next : OptionState) (r : Option ValueRule) → IsMade applet next more all (place + 1) words r → ReadsOldOrReplaced applet next more all (place + 1) words r) → IsMade applet state more all place (word ∷ words) None → ReadsOldOrReplaced applet state more all place (word ∷ words) None
made_option applet state more all place word words m are e o rest made =
    step_taken options state place word words (Some next) (option_taken state word made.awaiting e o) (ap (with_word_as_option_or_value options state place word) made.awaiting ∙ spelled)
    ∙ (rest next (value_rule_unless_attached held (value_rule_of_meaning x.meaning)) (record {
      flags = ap (λ r. flags_after options first.next (words_that_are_options options r words)) (sym awaits) ∙ first.rest;
      values = sym (values_joined state.values (attached_values place (value_rule_of_meaning x.meaning) held) (values_of options (value_rule_unless_attached held (value_rule_of_meaning x.meaning)) (place + 1) words)) ∙ values;
      awaiting = refl;
      own = λ r h. own_rule applet held x.meaning r own h;
    })
    ∙ ap (λ os. words_reading_from_parts (option_state_from_parts more all None) os None) (ap (λ r. operand_words options r (place + 1) words) (sym awaits) ∙ sym (free_option options place word words e o)))
  where
    options : List OptionSpec
    options = options_of applet

    held : Option (List ℕ)
    held = value_in_long_or_short_option_word word

    first : IsFirstOption (options_of applet) state.flags more word (words_that_are_options (options_of applet) (awaited_rule (options_of applet) word) words)
    first = first_option (options_of applet) state.flags more word (words_that_are_options (options_of applet) (awaited_rule (options_of applet) word) words) (sym (ap (flags_after (options_of applet) state.flags) (options_here (options_of applet) word words e o)) ∙ made.flags)

    x : OptionSpec
    x = first.entry

    own : IsOwn applet first.entry.meaning
    own = found_own applet (options_of applet) (option_word_without_value word) first.entry (all_own applet) first.is

    awaits : awaited_rule (options_of applet) word ≡ value_rule_unless_attached (value_in_long_or_short_option_word word) (value_rule_of_meaning first.entry.meaning)
    awaits = ap (value_rule_unless_attached (value_in_long_or_short_option_word word)) (rule_at_is (options_of applet) word first.entry first.is)

    values : option_map (λ vs. state.values ++ vs) (option_map (λ vs. attached_values place (value_rule_of_meaning first.entry.meaning) (value_in_long_or_short_option_word word) ++ vs) (values_of (options_of applet) (value_rule_unless_attached (value_in_long_or_short_option_word word) (value_rule_of_meaning first.entry.meaning)) (place + 1) words)) ≡ Some all
    values =
        ap (λ r. option_map (λ vs. state.values ++ vs) (option_map (λ vs. attached_values place r (value_in_long_or_short_option_word word) ++ vs) (values_of (options_of applet) (value_rule_unless_attached (value_in_long_or_short_option_word word) r) (place + 1) words))) (sym (rule_at_is (options_of applet) word first.entry first.is))
        ∙ (ap (option_map (λ vs. state.values ++ vs)) (sym (values_option (options_of applet) place word words e o)) ∙ made.values)

    next : OptionState
    next = option_state_from_parts first.next (state.values ++ attached_values place (value_rule_of_meaning first.entry.meaning) (value_in_long_or_short_option_word word)) (value_rule_unless_attached (value_in_long_or_short_option_word word) (value_rule_of_meaning first.entry.meaning))

    spelled : with_option_word (options_of applet) state place word ≡ Some (option_state_from_parts first.next (state.values ++ attached_values place (value_rule_of_meaning first.entry.meaning) (value_in_long_or_short_option_word word)) (value_rule_unless_attached (value_in_long_or_short_option_word word) (value_rule_of_meaning first.entry.meaning)))
    spelled =
        ap (option_and_then (λ (y : OptionSpec). state_with_meaning state place (value_in_long_or_short_option_word word) y.meaning)) first.is
        ∙ meaning_made applet state first.next place (value_in_long_or_short_option_word word) first.entry.meaning made.awaiting
        (find_passes (located applet state.flags) (λ (y : OptionSpec). bytes_eq y.long (option_word_without_value word) || bytes_eq y.short (option_word_without_value word)) (options_of applet) first.entry (all_stand applet state.flags) first.is)
        first.says (less_kept applet (options_of applet) first.next more _ first.rest m)
        (room_for applet state all place words (value_in_long_or_short_option_word word) first.entry.meaning own are values)

pub made_end : (applet : Applet) (state : OptionState) (more : Flags) (all : List OptionValue) (place : ℕ) (word : List ℕ) (words : List (List ℕ)) → is_double_dash word ≡ true → IsMade applet state more all place (word ∷ words) None → ReadsOldOrReplaced applet state more all place (word ∷ words) None
made_end applet state more all place word words e made =
    let options = options_of applet in
    let flags = same_Some state.flags more (sym (ap (flags_after options state.flags) (options_end options word words e)) ∙ made.flags) in
    let values = sym (append-nil state.values) ∙ same_Some (state.values ++ []) all (sym (ap (option_map (λ vs. state.values ++ vs)) (values_end options place word words e)) ∙ made.values) in
    step_end options state place word words (end_kept state word made.awaiting e) e
    ∙ (ap (λ g. words_reading_from_parts g (words_as_operands_from_place (place + 1) words) None) (given_is state more all flags values made.awaiting)
    ∙ ap (λ os. words_reading_from_parts (option_state_from_parts more all None) os None) (sym (free_end options place word words e)))

pub made_free : (applet : Applet) (state : OptionState) (more : Flags) (all : List OptionValue) (place : ℕ) (word : List ℕ) (words : List (List ℕ)) → is_double_dash word ≡ false → is_option_or_double_dash word ≡ false → (IsMade applet state more all (place + 1) words None → ReadsOldOrReplaced applet state more all (place + 1) words None) → IsMade applet state more all place (word ∷ words) None → ReadsOldOrReplaced applet state more all place (word ∷ words) None
made_free applet state more all place word words e o rest made =
    let options = options_of applet in
    let left = rest (record {
      flags = sym (ap (flags_after options state.flags) (options_after options word words e o)) ∙ made.flags;
      values = sym (ap (option_map (λ vs. state.values ++ vs)) (values_behind options place word words e o)) ∙ made.values;
      awaiting = made.awaiting;
      own = made.own;
    }) in
    step_free options state place word words (free_kept state word made.awaiting o) e
    ∙ (ap (λ (r : Reading). words_reading_from_parts r.state (operand_at place word ∷ r.operands) r.unread) left
    ∙ ap (λ os. words_reading_from_parts (option_state_from_parts more all None) os None) (sym (free_here options place word words e o)))

pub made_word : (applet : Applet) (state : OptionState) (more : Flags) (all : List OptionValue) (place : ℕ) (word : List ℕ) (words : List (List ℕ)) (rule : Option ValueRule) → may_have_flags applet more ≡ true → are_allowed_values (value_rules applet) all ≡ true → ((next : OptionState) (r : Option ValueRule) → IsMade applet next more all (place + 1) words r → ReadsOldOrReplaced applet next more all (place + 1) words r) → IsMade applet state more all place (word ∷ words) rule → ReadsOldOrReplaced applet state more all place (word ∷ words) rule
made_word applet state more all place word words (Some rule) m are rest made = made_value applet state more all place word words rule are rest made
made_word applet state more all place word words None m are rest made =
    elim (is_double_dash word) as (λ b. is_double_dash word ≡ b → ReadsOldOrReplaced applet state more all place (word ∷ words) None) [
      | true ↦ λ e. made_end applet state more all place word words e made
      | false ↦ λ e. elim (is_option_or_double_dash word) as (λ b. is_option_or_double_dash word ≡ b → ReadsOldOrReplaced applet state more all place (word ∷ words) None) [
        | true ↦ λ o. made_option applet state more all place word words m are e o rest made
        | false ↦ λ o. made_free applet state more all place word words e o (rest state None) made
      ] refl
    ] refl

-- options, values and operands of an applet are read
pub reading_made : (applet : Applet) (more : Flags) (all : List OptionValue) → may_have_flags applet more ≡ true → are_allowed_values (value_rules applet) all ≡ true → (place : ℕ) (words : List (List ℕ)) (state : OptionState) (rule : Option ValueRule) → IsMade applet state more all place words rule → ReadsOldOrReplaced applet state more all place words rule
reading_made applet more all m are place [] state rule made = made_empty applet state more all place rule made
reading_made applet more all m are place (word ∷ words) state rule made =
    made_word applet state more all place word words rule m are (λ next r h. reading_made applet more all m are (place + 1) words next r h) made

-- the first word that is no option stands no earlier than the words
pub free_place : (options : List OptionSpec) (rule : Option ValueRule) (place : ℕ) (words : List (List ℕ)) (first : Operand) (rest : List Operand) → operand_words options rule place words ≡ first ∷ rest → place ≤ first.place
free_place options rule place [] first rest h = absurd (cc)
free_place options (Some rule) place (word ∷ words) first rest h =
    let later : place + 1 ≤ first.place = free_place options None (place + 1) words first rest h in omega arith
free_place options None place (word ∷ words) first rest h =
    elim (is_double_dash word) as (λ b. is_double_dash word ≡ b → place ≤ first.place) [
      | true ↦ λ e. by_operands words (sym (free_end options place word words e) ∙ h)
      | false ↦ λ e. elim (is_option_or_double_dash word) as (λ b. is_option_or_double_dash word ≡ b → place ≤ first.place) [
        | true ↦ λ o. (let later : place + 1 ≤ first.place = free_place options (awaited_rule options word) (place + 1) words first rest (sym (free_option options place word words e o) ∙ h) in omega arith)
        | false ↦ λ o. (let same : place ≡ first.place = ap (λ (x : Operand). x.place) (same_head (operand_at place word) first _ rest (sym (free_here options place word words e o) ∙ h)) in omega arith)
      ] refl
    ] refl
  where
    by_operands : (left : List (List ℕ)) → words_as_operands_from_place (place + 1) left ≡ first ∷ rest → place ≤ first.place
    by_operands [] e = absurd (cc)
    by_operands (next ∷ left) e = (let same : place + 1 ≡ first.place = ap (λ (x : Operand). x.place) (same_head (operand_at (place + 1) next) first _ rest e) in omega arith)

-- a word that names an applet is found
pub at_named : (ended : Bool) (place : ℕ) (word : List ℕ) (applet : Applet) → applet_of word ≡ Some applet → applet_site_of_word ended place word ≡ Ok (applet_site_from_ended_read_applet ended place applet)
unfolding applet_site_of_word
at_named ended place word applet n = ap (or_err_at place (λ a. Ok (applet_site_from_ended_read_applet ended place a))) n

-- the applet is found, where a word names it
pub record IsFound (applet : Applet) (flags : Flags) (place : ℕ) (words : List (List ℕ)) (read : ℕ) (r : Result AppletSite ℕ) : Type 0 where
  pub ended : Bool
  pub is : r ≡ Ok (applet_site_from_ended_read_applet ended read applet)
  pub more : Flags
  pub early : flags_with_options_before_applet (options_of applet) flags place (take (read - place) words) ≡ Ok more

after_end_found : (place : ℕ) (words : List (List ℕ)) (first : Operand) (rest : List Operand) (applet : Applet) → applet_of first.text ≡ Some applet → words_as_operands_from_place place words ≡ first ∷ rest → (first.place ≡ place) × (applet_site_after_double_dash place words ≡ Ok (applet_site_from_ended_read_applet true place applet))
unfolding applet_site_after_double_dash
after_end_found place [] first rest applet n h = absurd (cc)
after_end_found place (word ∷ words) first rest applet n h = (
  sym (ap (λ (x : Operand). x.place) (same_head (operand_at place word) first _ rest h)),
  at_named true place word applet (ap (λ (x : Operand). applet_of x.text) (same_head (operand_at place word) first _ rest h) ∙ n),
)

-- an option before the applet is a flag of its own
abbrev pub is_flag_meaning : Meaning → Bool
is_flag_meaning (Plain flag) = true
is_flag_meaning meaning = false

abbrev pub is_flag : Option OptionSpec → Bool
is_flag None = true
is_flag (Some o) = is_flag_meaning o.meaning

abbrev pub says_flag : Applet → List ℕ → Bool
says_flag applet word = is_flag (option_of_word (options_of applet) word)

pub early_flag : (applet : Applet) → list_all (says_flag applet) option_words_that_may_precede_applet ≡ true
unfolding common_options options_of option_words_that_may_precede_applet
early_flag Add = refl
early_flag applet = refl

flag_read : (flags more : Flags) (meaning : Meaning) → is_flag_meaning meaning ≡ true → flags_with_held_meaning flags None meaning ≡ Some more → flags_with_meaning_if_one_command_kind flags meaning ≡ Some more
flag_read flags more (Plain flag) f h = h
flag_read flags more (Kind flag) f h = absurd (false≢true f)
flag_read flags more (Value rule) f h = absurd (false≢true f)

early_read : (applet : Applet) (flags next : Flags) (word : List ℕ) (option : OptionSpec) → is_option_word_that_may_precede_applet word ≡ true → option_of_word (options_of applet) (option_word_without_value word) ≡ Some option → flags_with_held_meaning flags (value_in_long_or_short_option_word word) option.meaning ≡ Some next → flags_with_option_word_if_one_command_kind (options_of applet) flags word ≡ Some next
early_read applet flags next word option early is says =
    let whole = whole_early word early in
    let found : option_of_word (options_of applet) word ≡ Some option = ap (option_of_word (options_of applet)) (sym whole.name) ∙ is in
    let flag : is_flag_meaning option.meaning ≡ true = ap is_flag (sym found) ∙ by_early (says_flag applet) word (early_flag applet) early in
    ap (option_and_then (flags_with_option_if_one_command_kind flags)) found
    ∙ flag_read flags next option.meaning flag (ap (λ h. flags_with_held_meaning flags h option.meaning) (sym whole.held) ∙ says)

-- the words up to the applet are read
pub site_found : (flags all : Flags) (place : ℕ) (words : List (List ℕ)) (first : Operand) (rest : List Operand) (applet : Applet) → applet_of first.text ≡ Some applet → operand_words (options_of applet) None place words ≡ first ∷ rest → list_all may_precede_applet (take (first.place - place) words) ≡ true → flags_after (options_of applet) flags (words_that_are_options (options_of applet) None words) ≡ Some all → IsFound applet flags place words first.place (applet_site place words)
site_found flags all place [] first rest applet n h early says = absurd (cc)
site_found flags all place (word ∷ words) first rest applet n h early says =
    elim (is_double_dash word) as (λ b. is_double_dash word ≡ b → IsFound applet flags place (word ∷ words) first.place (applet_site place (word ∷ words))) [
      | true ↦ λ e.
          let found = after_end_found (place + 1) words first rest applet n (sym (free_end (options_of applet) place word words e) ∙ h) in
          let one : first.place - place ≡ suc 0 = omega (arith, found.0) in
          record {
            ended = true;
            is = seek_end place word words e ∙ (found.1 ∙ ap (λ k. Ok (applet_site_from_ended_read_applet true k applet)) (sym found.0));
            more = flags;
            early = ap (λ k. flags_with_options_before_applet (options_of applet) flags place (take k (word ∷ words))) one ∙ flags_end (options_of applet) flags place word [] e;
          }
      | false ↦ λ e. elim (is_option_or_double_dash word) as (λ b. is_option_or_double_dash word ≡ b → IsFound applet flags place (word ∷ words) first.place (applet_site place (word ∷ words))) [
        | true ↦ λ o. by_option (λ next h early says. site_found next all (place + 1) words first rest applet n h early says) e o
        | false ↦ λ o.
            let same : operand_at place word ≡ first = same_head (operand_at place word) first _ rest (sym (free_here (options_of applet) place word words e o) ∙ h) in
            let at : place ≡ first.place = ap (λ (x : Operand). x.place) same in
            let none : first.place - place ≡ 0 = omega (arith, at) in
            record {
              ended = false;
              is = seek_here place word words e o ∙ (at_named false place word applet (ap (λ (x : Operand). applet_of x.text) same ∙ n) ∙ ap (λ k. Ok (applet_site_from_ended_read_applet false k applet)) at);
              more = flags;
              early = ap (λ k. flags_with_options_before_applet (options_of applet) flags place (take k (word ∷ words))) none;
            }
      ] refl
    ] refl
  where
    flag_rule : (meaning : Meaning) → is_flag_meaning meaning ≡ true → value_rule_of_meaning meaning ≡ None
    flag_rule (Plain flag) f = refl
    flag_rule (Kind flag) f = refl
    flag_rule (Value rule) f = absurd (false≢true f)

    by_option : ((next : Flags) → operand_words (options_of applet) None (place + 1) words ≡ first ∷ rest → list_all may_precede_applet (take (first.place - (place + 1)) words) ≡ true → flags_after (options_of applet) next (words_that_are_options (options_of applet) None words) ≡ Some all → IsFound applet next (place + 1) words first.place (applet_site (place + 1) words)) → is_double_dash word ≡ false → is_option_or_double_dash word ≡ true → IsFound applet flags place (word ∷ words) first.place (applet_site place (word ∷ words))
    by_option later_found e o =
        let options = options_of applet in
        let behind_it : operand_words options (awaited_rule options word) (place + 1) words ≡ first ∷ rest = sym (free_option options place word words e o) ∙ h in
        let later : place + 1 ≤ first.place = free_place options (awaited_rule options word) (place + 1) words first rest behind_it in
        let next : suc (first.place - (place + 1)) ≡ first.place - place = omega (arith, later) in
        let parts = and_parts (may_precede_applet word) (list_all may_precede_applet (take (first.place - (place + 1)) words)) (ap (λ k. list_all may_precede_applet (take k (word ∷ words))) next ∙ early) in
        let y : is_option_word_that_may_precede_applet word ≡ true = ap (λ b. b || is_option_word_that_may_precede_applet word) (sym e) ∙ parts.0 in
        let option = first_option options flags all word (words_that_are_options options (awaited_rule options word) words) (sym (ap (flags_after options flags) (options_here options word words e o)) ∙ says) in
        let whole = whole_early word y in
        let flag : is_flag_meaning option.entry.meaning ≡ true =
        ap is_flag (sym (ap (option_of_word options) (sym whole.name) ∙ option.is)) ∙ by_early (says_flag applet) word (early_flag applet) y in
        let none : awaited_rule options word ≡ None = no_rule_after options word whole.held (rule_at_is options word option.entry option.is ∙ flag_rule option.entry.meaning flag) in
        let m : flags_with_option_word_if_one_command_kind options flags word ≡ Some option.next = early_read applet flags option.next word option.entry y option.is option.says in
        let found = later_found option.next
        (ap (λ r. operand_words options r (place + 1) words) (sym none) ∙ behind_it) parts.1
        (ap (λ r. flags_after options option.next (words_that_are_options options r words)) (sym none) ∙ option.rest) in
        record {
          ended = found.ended;
          is = seek_early place word words e o y ∙ found.is;
          more = found.more;
          early = ap (λ k. flags_with_options_before_applet options flags place (take k (word ∷ words))) (sym next)
              ∙ (flags_step options flags place word (take (first.place - (place + 1)) words) (Some option.next) e m ∙ found.early);
        }

-- the words behind the applet are read
pub from_made : (start : Start) (more : Flags) (all : List OptionValue) (words : List (List ℕ)) → flags_after (options_of start.applet) start.flags (option_rest start.ended (options_of start.applet) (drop start.read words)) ≡ Some more → value_rest start.ended (options_of start.applet) (start.read + 1) (drop start.read words) ≡ Some all → may_have_flags start.applet more ≡ true → are_allowed_values (value_rules start.applet) all ≡ true → reading_of_rest_of_command_words start words ≡ words_reading_from_parts (option_state_from_parts more all None) (free_rest start.ended (options_of start.applet) (start.read + 1) (drop start.read words)) None
unfolding reading_of_rest_of_command_words
from_made start more all words f v m are =
    let options = options_of start.applet in
    elim start.ended as (λ b. flags_after options start.flags (option_rest b options (drop start.read words)) ≡ Some more → value_rest b options (start.read + 1) (drop start.read words) ≡ Some all → (if b then words_reading_from_parts (option_state_at_start start.flags) (words_as_operands_from_place (start.read + 1) (drop start.read words)) None else reading_of_words_from_place options (option_state_at_start start.flags) (start.read + 1) (drop start.read words)) ≡ words_reading_from_parts (option_state_from_parts more all None) (free_rest b options (start.read + 1) (drop start.read words)) None) [
      | true ↦ λ (h : Some start.flags ≡ Some more) (w : Some [] ≡ Some all). ap (λ g. words_reading_from_parts g (words_as_operands_from_place (start.read + 1) (drop start.read words)) None) (given_is (option_state_at_start start.flags) more all (same_Some start.flags more h) (same_Some [] all w) refl)
      | false ↦ λ h w. reading_made start.applet more all m are (start.read + 1) (drop start.read words) (option_state_at_start start.flags) None (record {
        flags = h;
        values = values_same (values_of options None (start.read + 1) (drop start.read words)) ∙ w;
        awaiting = refl;
        own = no_own start.applet;
      })
    ] f v

pub made_line : (words : List (List ℕ)) (command : CommandLine) → AreWordsOfCommand words command → spelled_command words ≡ Ok command
unfolding spelled_command
made_line words command line =
    let found = site_found no_flags command.flags 1 words line.applet command.operands command.applet line.names line.free line.early line.flags in
    let site : AppletSite = applet_site_from_ended_read_applet found.ended line.applet.place command.applet in
    by_start (start_from_parts site found.more) refl
    (ap (start_by_applet_site words) found.is ∙ ap (start_with_flags_before_applet site) found.early)
  where
    by_start : (start : Start) → start.applet ≡ command.applet → start_of_command_line words ≡ Ok start → spelled_command_by_start words (start_of_command_line words) ≡ Ok command
    by_start start applet s =
        let options = options_of start.applet in
        let from : IsFrom no_flags 1 words start = line_from words start s in
        let at : suc from.count ≡ start.read = (let is : start.read ≡ 1 + from.count = from.read in omega arith) in
        let free : operand_words options None 1 words ≡ line.applet ∷ command.operands = subst (λ a. operand_words (options_of a) None 1 words ≡ line.applet ∷ command.operands) (sym applet) line.free in
        let operands : free_rest start.ended options (start.read + 1) (drop start.read words) ≡ command.operands = ap (λ n. free_rest start.ended options (start.read + 1) (drop n words)) (sym at) ∙ same_tail (operand_at start.read from.word) line.applet _ _ (sym from.free ∙ free) in
        let says : flags_after options no_flags (words_that_are_options options None words) ≡ Some command.flags = subst (λ a. flags_after (options_of a) no_flags (words_that_are_options (options_of a) None words) ≡ Some command.flags) (sym applet) line.flags in
        let flags : flags_after options start.flags (option_rest start.ended options (drop start.read words)) ≡ Some command.flags = ap (λ n. flags_after options start.flags (option_rest start.ended options (drop n words))) (sym at) ∙ (sym from.says ∙ says) in
        let give : values_of options None 1 words ≡ Some command.values = subst (λ a. values_of (options_of a) None 1 words ≡ Some command.values) (sym applet) line.values in
        let values : value_rest start.ended options (start.read + 1) (drop start.read words) ≡ Some command.values = ap (λ n. value_rest start.ended options (start.read + 1) (drop n words)) (sym at) ∙ (sym from.values ∙ give) in
        let whole : Reading = words_reading_from_parts (option_state_from_parts command.flags command.values None) command.operands None in
        let sound : is_valid_command (command_from_end_place_and_reading (length words + 1) start.applet whole) ≡ true =
        subst (λ a. is_valid_command (command_from_parts_and_end_place a command.flags command.operands command.values (length words + 1)) ≡ true) (sym applet)
        (ap (λ n. is_valid_command (command_from_parts_and_end_place command.applet command.flags command.operands command.values n)) (sym line.behind) ∙ line.sound) in
        let parts = has_parts (command_from_end_place_and_reading (length words + 1) start.applet whole) sound in
        let read : reading_of_rest_of_command_words start words ≡ whole = from_made start command.flags command.values words flags values parts.flags parts.values ∙ ap (λ os. words_reading_from_parts (option_state_from_parts command.flags command.values None) os None) operands in
        ap (spelled_command_by_start words) s
        ∙ (ap (command_of_reading_with_end_place (length words + 1) start.applet) read
        ∙ (sound_judged (length words + 1) start.applet whole refl sound
        ∙ (ap (λ a. Ok (command_from_end_place_and_reading (length words + 1) a whole)) applet
        ∙ ap (λ n. Ok (command_from_end_place_and_reading n command.applet whole)) (sym line.behind))))
