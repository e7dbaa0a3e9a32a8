-- How what was read of words goes on with more words.
use Rattle.std.proofs.Common.{Bool, List, None, Option, Some, [], ap, arith, drop, false, inl, inr, length, length-drop, not, refl, subst, sym, true, ℕ, ◌++◌, ◌+◌, ◌<◌, ◌∙◌, ◌∷◌, ◌≡◌, ◌≤◌, ◌⊎◌, if◌then◌else◌}
use Rattle.std.specs.Option.{option_map}
use Rattle.std.specs.Prelude.{is_some, ◌&&◌, ◌||◌}
use Rattle.std.proofs.lemmas.Bool.{and_parts, or_parts, true≢false, not-true}
use Rattle.std.proofs.lemmas.Option.{option_and_then_some}
use Rattle.command_core.specs.declared.operands.Operand.{Operand}
use Rattle.command_core.specs.declared.values.ValueRule.{ValueRule}
use Rattle.command_core.specs.Operands.{operand_at}
use Rattle.words_core.specs.declared.reading.OptionState.{OptionState}
use Rattle.words_core.specs.declared.reading.Reading.{Reading}
use Rattle.words_core.specs.declared.reading.Start.{Start}
use Rattle.words_core.specs.Grammar.{option_state_at_start, value_in_long_or_short_option_word, is_double_dash, is_option_or_double_dash, is_option_or_value, words_as_operands_from_place, option_word_without_value, reading_of_words_from_place, or_stop_at_unread_word, reading_of_rest_of_command_words, words_reading_from_parts, awaited_rule, value_rule_unless_attached, state_with_meaning, with_operand_in_front, with_option_or_value_word, with_word_as_option_or_value}
use Rattle.words_core.specs.Options.{OptionSpec, option_of_word, options_of}
use Rattle.words_core.specs.Stuck.{have_options_ended}
use Rattle.words_core.proofs.LinesRead.{Says, meaning_says, rule_at_is, value_says}
use Rattle.words_core.proofs.MoreWords.{drop_append, operands_append}
use Rattle.words_core.proofs.OneMore.{behind}

-- a word cannot be read, and what follows changes nothing
abbrev pub IsStopped : ℕ → Reading → (List (List ℕ) → Reading) → Type 0
IsStopped end reading longer = (at : ℕ) × (reading.unread ≡ Some at) × (at < end) × ((more : List (List ℕ)) → longer more ≡ reading)

-- options can follow, or the value that is awaited
pub record IsOn (options : List OptionSpec) (end : ℕ) (ended : Bool) (reading : Reading) (longer : List (List ℕ) → Reading) : Type 0 where
  pub over : ended ≡ false
  pub unread : reading.unread ≡ option_map (λ (rule : ValueRule). end) reading.state.awaiting
  pub goes_on : (more : List (List ℕ)) → longer more ≡ behind reading.operands (reading_of_words_from_place options reading.state end more)

-- only operands can follow
pub record IsOff (end : ℕ) (ended : Bool) (reading : Reading) (longer : List (List ℕ) → Reading) : Type 0 where
  pub over : ended ≡ true
  pub unread : reading.unread ≡ None
  pub awaiting : reading.state.awaiting ≡ None
  pub goes_on : (more : List (List ℕ)) → longer more ≡ behind reading.operands (words_reading_from_parts reading.state (words_as_operands_from_place end more) None)

abbrev pub IsRemovedPackage : List OptionSpec → ℕ → Bool → Reading → (List (List ℕ) → Reading) → Type 0
IsRemovedPackage options end ended reading longer = IsStopped end reading longer ⊎ (IsOn options end ended reading longer ⊎ IsOff end ended reading longer)

pub going_off : (options : List OptionSpec) (state : OptionState) (end place : ℕ) (words : List (List ℕ)) → place + length words ≡ end → state.awaiting ≡ None → IsRemovedPackage options end true (words_reading_from_parts state (words_as_operands_from_place place words) None) (λ more. words_reading_from_parts state (words_as_operands_from_place place (words ++ more)) None)
going_off options state end place words l a = inr (inr (record {
  over = refl;
  unread = refl;
  awaiting = a;
  goes_on = λ more. ap (λ os. words_reading_from_parts state os None) (operands_append place words more ∙ ap (λ k. words_as_operands_from_place place words ++ words_as_operands_from_place k more) l);
}))

pub going_after : (options : List OptionSpec) (end : ℕ) (ended : Bool) (operand : Operand) (reading : Reading) (longer : List (List ℕ) → Reading) → IsRemovedPackage options end ended reading longer → IsRemovedPackage options end ended (with_operand_in_front operand reading) (λ more. with_operand_in_front operand (longer more))
going_after options end ended operand reading longer (inl stopped) = inl (stopped.0, stopped.1, stopped.2, λ more. ap (with_operand_in_front operand) (stopped.3 more))
going_after options end ended operand reading longer (inr (inl on)) = inr (inl (record { over = on.over; unread = on.unread; goes_on = λ more. ap (with_operand_in_front operand) (on.goes_on more) }))
going_after options end ended operand reading longer (inr (inr off)) = inr (inr (record { over = off.over; unread = off.unread; awaiting = off.awaiting; goes_on = λ more. ap (with_operand_in_front operand) (off.goes_on more) }))

pub going_same : (options : List OptionSpec) (end : ℕ) (ended : Bool) (reading : Reading) (longer same : List (List ℕ) → Reading) → ((more : List (List ℕ)) → same more ≡ longer more) → IsRemovedPackage options end ended reading longer → IsRemovedPackage options end ended reading same
going_same options end ended reading longer same e (inl stopped) = inl (stopped.0, stopped.1, stopped.2, λ more. e more ∙ stopped.3 more)
going_same options end ended reading longer same e (inr (inl on)) = inr (inl (record { over = on.over; unread = on.unread; goes_on = λ more. e more ∙ on.goes_on more }))
going_same options end ended reading longer same e (inr (inr off)) = inr (inr (record { over = off.over; unread = off.unread; awaiting = off.awaiting; goes_on = λ more. e more ∙ off.goes_on more }))

-- whether the options have ended, at one more word
pub none_ended : (options : List OptionSpec) (rule : Option ValueRule) → have_options_ended options rule [] ≡ false
none_ended options None = refl
none_ended options (Some rule) = refl

pub ended_here : (options : List OptionSpec) (word : List ℕ) (words : List (List ℕ)) → is_double_dash word ≡ true → have_options_ended options None (word ∷ words) ≡ true
ended_here options word words e = rw e refl

pub ended_option : (options : List OptionSpec) (word : List ℕ) (words : List (List ℕ)) → is_double_dash word ≡ false → is_option_or_double_dash word ≡ true → have_options_ended options None (word ∷ words) ≡ have_options_ended options (awaited_rule options word) words
ended_option options word words e o = rw e (rw o refl)

pub ended_after : (options : List OptionSpec) (word : List ℕ) (words : List (List ℕ)) → is_double_dash word ≡ false → is_option_or_double_dash word ≡ false → have_options_ended options None (word ∷ words) ≡ have_options_ended options None words
ended_after options word words e o = rw e (rw o refl)

pub ended_taken : (options : List OptionSpec) (state more : OptionState) (place : ℕ) (word : List ℕ) (words : List (List ℕ)) → is_option_or_value state word ≡ true → with_option_or_value_word options state place word ≡ Some more → have_options_ended options state.awaiting (word ∷ words) ≡ have_options_ended options more.awaiting words
ended_taken options state more place word words t w = by_rule state.awaiting refl t w
  where
    by_rule : (rule : Option ValueRule) → state.awaiting ≡ rule → (is_some rule || (is_option_or_double_dash word && not (is_double_dash word))) ≡ true → with_word_as_option_or_value options state place word rule ≡ Some more → have_options_ended options rule (word ∷ words) ≡ have_options_ended options more.awaiting words
    by_rule (Some rule) a t h = ap (λ o. have_options_ended options o words) (ap (λ (g : OptionState). g.awaiting) (value_says state more place word rule h))
    by_rule None a t h =
        let parts = and_parts (is_option_or_double_dash word) (not (is_double_dash word)) t in
        option_and_then_some (λ (e : OptionSpec). state_with_meaning state place (value_in_long_or_short_option_word word) e.meaning) (option_of_word options (option_word_without_value word)) more h
        (λ found is made.
        (let says : Says state place (value_in_long_or_short_option_word word) found.meaning more = meaning_says state more place (value_in_long_or_short_option_word word) found.meaning a made in
        ended_option options word words (not-true (is_double_dash word) parts.1) parts.0
        ∙ ap (λ o. have_options_ended options o words) (ap (value_rule_unless_attached (value_in_long_or_short_option_word word)) (rule_at_is options word found is) ∙ says.awaiting)))

-- what is said of a word that is not taken
pub none_is : (o : Option ValueRule) → is_some o ≡ false → o ≡ None
none_is None h = refl
none_is (Some rule) h = absurd (true≢false h)

pub not_option : (option end : Bool) → end ≡ false → (option && not end) ≡ false → option ≡ false
not_option true true e h = e
not_option true false e h = h
not_option false end e h = refl

pub going : (options : List OptionSpec) (state : OptionState) (end place : ℕ) (words : List (List ℕ)) → place + length words ≡ end → IsRemovedPackage options end (have_options_ended options state.awaiting words) (reading_of_words_from_place options state place words) (λ more. reading_of_words_from_place options state place (words ++ more))
going options state end place [] l =
    let same : place ≡ end = omega arith in
    inr (inl (record {
      over = none_ended options state.awaiting;
      unread = ap (λ k. option_map (λ (rule : ValueRule). k) state.awaiting) same;
      goes_on = λ more. ap (λ k. reading_of_words_from_place options state k more) same;
    }))
going options state end place (word ∷ words) l =
    let next : place + 1 + length words ≡ end = omega arith in
    let here : place < end = omega arith in
    elim (is_option_or_value state word) as (λ b. is_option_or_value state word ≡ b → IsRemovedPackage options end (have_options_ended options state.awaiting (word ∷ words)) (if b then or_stop_at_unread_word state place (λ m. reading_of_words_from_place options m (place + 1) words) (with_option_or_value_word options state place word) else if is_double_dash word then words_reading_from_parts state (words_as_operands_from_place (place + 1) words) None else with_operand_in_front (operand_at place word) (reading_of_words_from_place options state (place + 1) words)) (λ more. if b then or_stop_at_unread_word state place (λ m. reading_of_words_from_place options m (place + 1) (words ++ more)) (with_option_or_value_word options state place word) else if is_double_dash word then words_reading_from_parts state (words_as_operands_from_place (place + 1) (words ++ more)) None else with_operand_in_front (operand_at place word) (reading_of_words_from_place options state (place + 1) (words ++ more)))) [
      | true ↦ λ t. elim (with_option_or_value_word options state place word) as (λ w. with_option_or_value_word options state place word ≡ w → IsRemovedPackage options end (have_options_ended options state.awaiting (word ∷ words)) (or_stop_at_unread_word state place (λ m. reading_of_words_from_place options m (place + 1) words) w) (λ more. or_stop_at_unread_word state place (λ m. reading_of_words_from_place options m (place + 1) (words ++ more)) w)) [
        | None ↦ λ w. inl (place, refl, here, λ more. refl)
        | Some g ↦ λ w. subst (λ b. IsRemovedPackage options end b (reading_of_words_from_place options g (place + 1) words) (λ more. reading_of_words_from_place options g (place + 1) (words ++ more))) (sym (ended_taken options state g place word words t w)) (going options g end (place + 1) words next)
      ] refl
      | false ↦ λ t.
          let parts = or_parts (is_some state.awaiting) (is_option_or_double_dash word && not (is_double_dash word)) t in
          let a : state.awaiting ≡ None = none_is state.awaiting parts.0 in
          elim (is_double_dash word) as (λ b. is_double_dash word ≡ b → IsRemovedPackage options end (have_options_ended options state.awaiting (word ∷ words)) (if b then words_reading_from_parts state (words_as_operands_from_place (place + 1) words) None else with_operand_in_front (operand_at place word) (reading_of_words_from_place options state (place + 1) words)) (λ more. if b then words_reading_from_parts state (words_as_operands_from_place (place + 1) (words ++ more)) None else with_operand_in_front (operand_at place word) (reading_of_words_from_place options state (place + 1) (words ++ more)))) [
            | true ↦ λ e. subst (λ b. IsRemovedPackage options end b (words_reading_from_parts state (words_as_operands_from_place (place + 1) words) None) (λ more. words_reading_from_parts state (words_as_operands_from_place (place + 1) (words ++ more)) None)) (sym (ap (λ o. have_options_ended options o (word ∷ words)) a ∙ ended_here options word words e)) (going_off options state end (place + 1) words next a)
            | false ↦ λ e. subst (λ b. IsRemovedPackage options end b (with_operand_in_front (operand_at place word) (reading_of_words_from_place options state (place + 1) words)) (λ more. with_operand_in_front (operand_at place word) (reading_of_words_from_place options state (place + 1) (words ++ more))))
                (sym (ap (λ o. have_options_ended options o (word ∷ words)) a ∙ (ended_after options word words e (not_option (is_option_or_double_dash word) (is_double_dash word) e parts.1) ∙ ap (λ o. have_options_ended options o words) (sym a))))
                (going_after options end (have_options_ended options state.awaiting words) (operand_at place word) (reading_of_words_from_place options state (place + 1) words) (λ more. reading_of_words_from_place options state (place + 1) (words ++ more)) (going options state end (place + 1) words next))
          ] refl
    ] refl

-- .. behind the applet
pub from_going : (start : Start) (words : List (List ℕ)) → start.read ≤ length words → IsRemovedPackage (options_of start.applet) (length words + 1) (start.ended || have_options_ended (options_of start.applet) None (drop start.read words)) (reading_of_rest_of_command_words start words) (λ more. reading_of_rest_of_command_words start (words ++ more))
unfolding reading_of_rest_of_command_words
from_going start words l =
    let options = options_of start.applet in
    let state = option_state_at_start start.flags in
    let left = drop start.read words in
    let ends : start.read + 1 + length (drop start.read words) ≡ length words + 1 = omega (arith, length-drop start.read words) in
    going_same options (length words + 1) (start.ended || have_options_ended options None left) (reading_of_rest_of_command_words start words)
    (λ more. if start.ended then words_reading_from_parts state (words_as_operands_from_place (start.read + 1) (left ++ more)) None else reading_of_words_from_place options state (start.read + 1) (left ++ more))
    (λ more. reading_of_rest_of_command_words start (words ++ more))
    (λ more. ap (λ rest. if start.ended then words_reading_from_parts state (words_as_operands_from_place (start.read + 1) rest) None else reading_of_words_from_place options state (start.read + 1) rest) (drop_append start.read words more l))
    (elim start.ended as (λ b. IsRemovedPackage options (length words + 1) (b || have_options_ended options None left) (if b then words_reading_from_parts state (words_as_operands_from_place (start.read + 1) left) None else reading_of_words_from_place options state (start.read + 1) left) (λ more. if b then words_reading_from_parts state (words_as_operands_from_place (start.read + 1) (left ++ more)) None else reading_of_words_from_place options state (start.read + 1) (left ++ more))) [
      | true ↦ going_off options state (length words + 1) (start.read + 1) left ends refl
      | false ↦ going options state (length words + 1) (start.read + 1) left ends
    ])
