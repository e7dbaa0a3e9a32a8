-- A usage error is at a word, or behind the last one; and where it is at a word, more words change nothing.
use Rattle.std.proofs.Common.{Bool, Err, List, None, Ok, Option, Result, Some, [], ap, arith, drop, false, inl, inr, length, length-drop, refl, subst, true, ℕ, ◌+◌, ◌<◌, ◌∙◌, ◌∷◌, ◌≡◌, ◌≤◌, ◌⊎◌, if◌then◌else◌}
use Rattle.std.specs.Option.{option_map, option_or}
use Rattle.std.proofs.lemmas.Option.{none-some, same_Some}
use Rattle.command_core.specs.declared.command.Applet.{Applet}
use Rattle.command_core.specs.declared.operands.Operand.{Operand}
use Rattle.command_core.specs.declared.operands.OperandRule.{OperandRule}
use Rattle.command_core.specs.declared.values.ValueRule.{ValueRule}
use Rattle.command_core.specs.Applets.{operand_rule_if_needed_kind_flag_given}
use Rattle.command_core.specs.Operands.{place_of_first_refused_operand, operand_at, takes}
use Rattle.words_core.specs.declared.reading.AppletSite.{AppletSite}
use Rattle.words_core.specs.declared.reading.OptionState.{OptionState}
use Rattle.words_core.specs.declared.reading.Reading.{Reading}
use Rattle.words_core.specs.declared.reading.Start.{Start}
use Rattle.words_core.specs.Grammar.{applet_site, spelled_command_by_start, spelled_command, command_from_end_place_and_reading, option_state_at_start, is_double_dash, is_option_or_double_dash, is_option_or_value, lacks_operand_kind_flag_or_required_option, start_of_command_line, words_as_operands_from_place, reading_of_words_from_place, or_err_at, or_stop_at_unread_word, reading_of_rest_of_command_words, words_reading_from_parts, reading_at_end_of_words, place_of_first_operand_refused_by_rule, applet_site_of_word, applet_site_after_double_dash, applet_site_from_ended_read_applet, unless_refused_at, command_of_reading_with_end_place, with_operand_in_front, with_option_or_value_word}
use Rattle.words_core.specs.Options.{OptionSpec, applet_of, is_option_word_that_may_precede_applet, options_of}
use Rattle.words_core.proofs.KindsKept.{IsPlain, start_known}
use Rattle.words_core.proofs.Sites.{IsForeign, foreign_between, no_start}

-- operands at places from one on and below another
abbrev pub IsBetween : ℕ → ℕ → ℕ → Type 0
IsBetween low behind place = (low ≤ place) × (place < behind)

abbrev pub AllBetween : ℕ → ℕ → List Operand → Type 0
AllBetween low behind [] = Unit {0}
AllBetween low behind (o ∷ os) = IsBetween low behind o.place × AllBetween low behind os

pub all_lower : (low lower behind : ℕ) (operands : List Operand) → lower ≤ low → AllBetween low behind operands → AllBetween lower behind operands
all_lower low lower behind [] l h = tt
all_lower low lower behind (o ∷ os) l h = ((omega (arith, h.0.0), h.0.1), all_lower low lower behind os l h.1)

pub operands_between : (place behind : ℕ) (words : List (List ℕ)) → place + length words ≤ behind → AllBetween place behind (words_as_operands_from_place place words)
operands_between place behind [] l = tt
operands_between place behind (word ∷ words) l =
    let less : place + 1 + length words ≤ behind = omega arith in
    ((omega arith, omega arith), all_lower (place + 1) place behind (words_as_operands_from_place (place + 1) words) (omega arith) (operands_between (place + 1) behind words less))

pub refused_between : (rule : OperandRule) (before low behind place : ℕ) (operands : List Operand) → AllBetween low behind operands → place_of_first_refused_operand rule before operands ≡ Some place → IsBetween low behind place
refused_between rule before low behind place [] h e = absurd (none-some place e)
refused_between rule before low behind place (o ∷ os) h e =
    elim (takes rule before o.text) as (λ b. (if b then place_of_first_refused_operand rule (before + 1) os else Some o.place) ≡ Some place → IsBetween low behind place) [
      | true ↦ λ (later : place_of_first_refused_operand rule (before + 1) os ≡ Some place). refused_between rule (before + 1) low behind place os h.1 later
      | false ↦ λ (here : Some o.place ≡ Some place). subst (λ n. IsBetween low behind n) (same_Some o.place place here) h.0
    ] e

-- the places of a reading: of operands before the end of the words, and of what cannot be read at most there
pub record IsPlaced (low behind : ℕ) (reading : Reading) : Type 0 where
  pub operands : AllBetween low behind reading.operands
  pub unread : (place : ℕ) → reading.unread ≡ Some place → IsBetween low (behind + 1) place

pub placed_lower : (low lower behind : ℕ) (reading : Reading) → lower ≤ low → IsPlaced low behind reading → IsPlaced lower behind reading
placed_lower low lower behind reading l h = record {
  operands = all_lower low lower behind reading.operands l h.operands;
  unread = λ place e. (let is = h.unread place e in (omega (arith, is.0), is.1));
}

pub placed_operands : (state : OptionState) (low behind : ℕ) (operands : List Operand) → AllBetween low behind operands → IsPlaced low behind (words_reading_from_parts state operands None)
placed_operands state low behind operands h = record { operands = h; unread = λ place e. absurd (none-some place e) }

pub placed_unread : (state : OptionState) (low behind at : ℕ) → IsBetween low (behind + 1) at → IsPlaced low behind (words_reading_from_parts state [] (Some at))
placed_unread state low behind at h = record { operands = tt; unread = λ place e. subst (λ n. IsBetween low (behind + 1) n) (same_Some at place e) h }

pub placed_end : (state : OptionState) (place behind : ℕ) → place ≤ behind → IsPlaced place behind (reading_at_end_of_words state place)
placed_end state place behind l =
    elim state.awaiting as (λ a. IsPlaced place behind (words_reading_from_parts state [] (option_map (λ (rule : ValueRule). place) a))) [
      | None ↦ placed_operands state place behind [] tt
      | Some rule ↦ placed_unread state place behind place (omega arith, omega arith)
    ]

pub reading_placed : (options : List OptionSpec) (state : OptionState) (place behind : ℕ) (words : List (List ℕ)) → place + length words ≤ behind → IsPlaced place behind (reading_of_words_from_place options state place words)
reading_placed options state place behind [] l = placed_end state place behind (omega arith)
reading_placed options state place behind (word ∷ words) l =
    let less : place + 1 + length words ≤ behind = omega arith in
    let here : IsBetween place behind place = (omega arith, omega arith) in
    elim (is_option_or_value state word) as (λ b. IsPlaced place behind (if b then or_stop_at_unread_word state place (λ more. reading_of_words_from_place options more (place + 1) words) (with_option_or_value_word options state place word) else if is_double_dash word then words_reading_from_parts state (words_as_operands_from_place (place + 1) words) None else with_operand_in_front (operand_at place word) (reading_of_words_from_place options state (place + 1) words))) [
      | true ↦ elim (with_option_or_value_word options state place word) as (λ m. IsPlaced place behind (or_stop_at_unread_word state place (λ more. reading_of_words_from_place options more (place + 1) words) m)) [
        | None ↦ placed_unread state place behind place (omega arith, omega arith)
        | Some more ↦ placed_lower (place + 1) place behind (reading_of_words_from_place options more (place + 1) words) (omega arith) (reading_placed options more (place + 1) behind words less)
      ]
      | false ↦ elim (is_double_dash word) as (λ b. IsPlaced place behind (if b then words_reading_from_parts state (words_as_operands_from_place (place + 1) words) None else with_operand_in_front (operand_at place word) (reading_of_words_from_place options state (place + 1) words))) [
        | true ↦ placed_lower (place + 1) place behind (words_reading_from_parts state (words_as_operands_from_place (place + 1) words) None) (omega arith) (placed_operands state (place + 1) behind (words_as_operands_from_place (place + 1) words) (operands_between (place + 1) behind words less))
        | false ↦
            let rest = placed_lower (place + 1) place behind (reading_of_words_from_place options state (place + 1) words) (omega arith) (reading_placed options state (place + 1) behind words less) in
            record { operands = (here, rest.operands); unread = rest.unread }
      ]
    ]

pub from_placed : (start : Start) (words : List (List ℕ)) → start.read ≤ length words → IsPlaced (start.read + 1) (length words + 1) (reading_of_rest_of_command_words start words)
unfolding reading_of_rest_of_command_words
from_placed start words l =
    let less : start.read + 1 + length (drop start.read words) ≤ length words + 1 = omega (arith, length-drop start.read words) in
    elim start.ended as (λ b. IsPlaced (start.read + 1) (length words + 1) (if b then words_reading_from_parts (option_state_at_start start.flags) (words_as_operands_from_place (start.read + 1) (drop start.read words)) None else reading_of_words_from_place (options_of start.applet) (option_state_at_start start.flags) (start.read + 1) (drop start.read words))) [
      | true ↦ placed_operands (option_state_at_start start.flags) (start.read + 1) (length words + 1) (words_as_operands_from_place (start.read + 1) (drop start.read words)) (operands_between (start.read + 1) (length words + 1) (drop start.read words) less)
      | false ↦ reading_placed (options_of start.applet) (option_state_at_start start.flags) (start.read + 1) (length words + 1) (drop start.read words) less
    ]

-- the first that offends, at most behind the words
pub first_between : (rule : Option OperandRule) (low behind place : ℕ) (reading : Reading) → IsPlaced low behind reading → option_or (place_of_first_operand_refused_by_rule rule reading.operands) reading.unread ≡ Some place → IsBetween low (behind + 1) place
first_between None low behind place reading p h = p.unread place h
first_between (Some rule) low behind place reading p h =
    elim (place_of_first_refused_operand rule 0 reading.operands) as (λ o. place_of_first_refused_operand rule 0 reading.operands ≡ o → option_or o reading.unread ≡ Some place → IsBetween low (behind + 1) place) [
      | None ↦ λ f e. p.unread place e
      | Some at ↦ λ f (e : Some at ≡ Some place).
          let is = refused_between rule 0 low behind place reading.operands p.operands (f ∙ e) in (is.0, omega (arith, is.1))
    ] refl h

-- what is judged bad: at a place of the reading, or behind the words
abbrev pub IsJudgedAt : ℕ → Option ℕ → ℕ → Type 0
IsJudgedAt behind first place = (first ≡ Some place) ⊎ ((first ≡ None) × (place ≡ behind))

pub judged_at : (applet : Applet) (reading : Reading) (behind place : ℕ) → command_of_reading_with_end_place behind applet reading ≡ Err place → IsJudgedAt behind (option_or (place_of_first_operand_refused_by_rule (operand_rule_if_needed_kind_flag_given applet reading.state.flags) reading.operands) reading.unread) place
unfolding command_of_reading_with_end_place
judged_at applet reading behind place h =
    let rule = operand_rule_if_needed_kind_flag_given applet reading.state.flags in
    elim (option_or (place_of_first_operand_refused_by_rule rule reading.operands) reading.unread) as (λ o. unless_refused_at o (if lacks_operand_kind_flag_or_required_option applet rule reading then Err behind else Ok (command_from_end_place_and_reading behind applet reading)) ≡ Err place → IsJudgedAt behind o place) [
      | None ↦ elim (lacks_operand_kind_flag_or_required_option applet rule reading) as (λ b. (if b then Err behind else Ok (command_from_end_place_and_reading behind applet reading)) ≡ Err place → IsJudgedAt behind None place) [
        | true ↦ λ (e : Err behind ≡ Err place). inr (refl, cc)
        | false ↦ λ (e : Ok (command_from_end_place_and_reading behind applet reading) ≡ Err place). absurd (cc)
      ]
      | Some at ↦ λ (e : Err at ≡ Err place). inl cc
    ] h

pub judged_bad : (applet : Applet) (reading : Reading) (behind place : ℕ) → option_or (place_of_first_operand_refused_by_rule (operand_rule_if_needed_kind_flag_given applet reading.state.flags) reading.operands) reading.unread ≡ Some place → command_of_reading_with_end_place behind applet reading ≡ Err place
unfolding command_of_reading_with_end_place
judged_bad applet reading behind place h =
    ap (λ o. unless_refused_at o (if lacks_operand_kind_flag_or_required_option applet (operand_rule_if_needed_kind_flag_given applet reading.state.flags) reading then Err behind else Ok (command_from_end_place_and_reading behind applet reading))) h

-- where the search for the applet ends
abbrev pub IsSearched : ℕ → ℕ → Result AppletSite ℕ → Type 0
IsSearched low behind (Ok site) = Unit {0}
IsSearched low behind (Err place) = IsBetween low behind place

pub named_searched : (ended : Bool) (place low behind : ℕ) (word : List ℕ) → IsBetween low behind place → IsSearched low behind (applet_site_of_word ended place word)
unfolding applet_site_of_word
named_searched ended place low behind word h =
    elim (applet_of word) as (λ o. IsSearched low behind (or_err_at place (λ applet. Ok (applet_site_from_ended_read_applet ended place applet)) o)) [
      | None ↦ h
      | Some applet ↦ tt
    ]

pub end_searched : (place low behind : ℕ) (words : List (List ℕ)) → IsBetween low behind place → IsSearched low behind (applet_site_after_double_dash place words)
unfolding applet_site_after_double_dash
end_searched place low behind [] h = h
end_searched place low behind (word ∷ words) h = named_searched true place low behind word h

pub site_searched : (place low behind : ℕ) (words : List (List ℕ)) → low ≤ place → place + length words < behind → IsSearched low behind (applet_site place words)
site_searched place low behind [] l h = (omega arith, omega arith)
site_searched place low behind (word ∷ words) l h =
    let less : place + 1 + length words < behind = omega arith in
    let here : IsBetween low behind place = (omega arith, omega arith) in
    elim (is_double_dash word) as (λ b. IsSearched low behind (if b then applet_site_after_double_dash (place + 1) words else if is_option_or_double_dash word then (if is_option_word_that_may_precede_applet word then applet_site (place + 1) words else Err place) else applet_site_of_word false place word)) [
      | true ↦ end_searched (place + 1) low behind words (omega arith, omega arith)
      | false ↦ elim (is_option_or_double_dash word) as (λ b. IsSearched low behind (if b then (if is_option_word_that_may_precede_applet word then applet_site (place + 1) words else Err place) else applet_site_of_word false place word)) [
        | true ↦ elim (is_option_word_that_may_precede_applet word) as (λ b. IsSearched low behind (if b then applet_site (place + 1) words else Err place)) [
          | true ↦ site_searched (place + 1) low behind words (omega arith) less
          | false ↦ here
        ]
        | false ↦ named_searched false place low behind word here
      ]
    ]

-- a usage error is at a word, or behind the last one
pub usage_between : (words : List (List ℕ)) (place : ℕ) → spelled_command words ≡ Err place → (1 ≤ place) × (place ≤ length words + 1)
unfolding spelled_command
usage_between words place c =
    elim (start_of_command_line words) as (λ s. start_of_command_line words ≡ s → spelled_command_by_start words s ≡ Err place → (1 ≤ place) × (place ≤ length words + 1)) [
      | Err at ↦ λ s (e : Err at ≡ Err place). by_place at place (cc) (no_start words at s)
      | Ok start ↦ λ s e. by_start start s e
    ] refl c
  where
    by_place : (at place : ℕ) → at ≡ place → (applet_site 1 words ≡ Err at) ⊎ IsForeign words at → (1 ≤ place) × (place ≤ length words + 1)
    by_place at place e (inl s) =
        let is : IsBetween 1 (length words + 2) at = subst (λ r. IsSearched 1 (length words + 2) r) s (site_searched 1 1 (length words + 2) words (omega arith) (omega arith)) in
        (omega (arith, is.0), omega (arith, is.1))
    by_place at place e (inr f) = (let is = foreign_between words at f in (omega (arith, is.0), omega (arith, is.1)))

    by_start : (start : Start) → start_of_command_line words ≡ Ok start → command_of_reading_with_end_place (length words + 1) start.applet (reading_of_rest_of_command_words start words) ≡ Err place → (1 ≤ place) × (place ≤ length words + 1)
    by_start start s e =
        let known : IsPlain start (1 + length words) = start_known words start s in
        let placed : IsPlaced (start.read + 1) (length words + 1) (reading_of_rest_of_command_words start words) = from_placed start words (omega (arith, known.read)) in
        elim (judged_at start.applet (reading_of_rest_of_command_words start words) (length words + 1) place e) as (λ _. (1 ≤ place) × (place ≤ length words + 1)) [
          | inl first ↦ (let is = first_between (operand_rule_if_needed_kind_flag_given start.applet (reading_of_rest_of_command_words start words).state.flags) (start.read + 1) (length words + 1) place (reading_of_rest_of_command_words start words) placed first in (omega (arith, is.0), omega (arith, is.1)))
          | inr last ↦ (omega (arith, last.1), omega (arith, last.1))
        ]
