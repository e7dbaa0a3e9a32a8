-- What follows a command offends behind it, unless `info` can still get its kind.
use Rattle.std.proofs.Common.{Err, List, None, Ok, Some, [], ap, arith, drop, false, inl, inr, length, length-append, length-drop, refl, subst, sym, true, ℕ, ◌++◌, ◌+◌, ◌<◌, ◌∙◌, ◌∷◌, ◌≡◌, ◌≤◌, if◌then◌else◌}
use Rattle.std.specs.Option.{option_or}
use Rattle.std.proofs.lemmas.Option.{none-some}
use Rattle.command_core.specs.declared.command.Applet.{Applet}
use Rattle.command_core.specs.declared.operands.Operand.{Operand}
use Rattle.command_core.specs.declared.operands.OperandRule.{OperandRule}
use Rattle.command_core.specs.Applets.{operand_rule_if_needed_kind_flag_given}
use Rattle.command_core.specs.Command.{CommandLine}
use Rattle.command_core.specs.Operands.{place_of_first_refused_operand, operand_at}
use Rattle.words_core.specs.declared.reading.OptionState.{OptionState}
use Rattle.words_core.specs.declared.reading.Reading.{Reading}
use Rattle.words_core.specs.declared.reading.Start.{Start}
use Rattle.words_core.specs.Grammar.{spelled_command_by_start, spelled_command, command_from_end_place_and_reading, option_state_at_start, is_double_dash, is_option_or_value, lacks_operand_kind_flag_or_required_option, start_of_command_line, words_as_operands_from_place, reading_of_words_from_place, or_stop_at_unread_word, reading_of_rest_of_command_words, words_reading_from_parts, place_of_first_operand_refused_by_rule, unless_refused_at, command_of_reading_with_end_place, with_operand_in_front, with_option_or_value_word}
use Rattle.words_core.specs.Kinds.{can_info_kind_follow, can_started_words_get_info_kind}
use Rattle.words_core.specs.Options.{OptionSpec, options_of}
use Rattle.words_core.proofs.KindsKept.{IsPlain, start_known}
use Rattle.words_core.proofs.MoreWords.{drop_append, operands_append}
use Rattle.words_core.proofs.OffendingWords.{AllBetween, judged_at, operands_between, reading_placed, refused_between}
use Rattle.words_core.proofs.Sites.{start_stays}
use Rattle.words_core.proofs.StillOffending.{cannot_from, longer_or_same}
use Rattle.words_core.proofs.WordsCompleted.{both_none, refused_then}

-- a reading of more words has more operands, and what cannot be read, behind it
pub record IsAdded (end far : ℕ) (reading longer : Reading) : Type 0 where
  pub new : List Operand
  pub operands : reading.unread ≡ None → longer.operands ≡ reading.operands ++ new
  pub placed : AllBetween end far new
  pub unread : reading.unread ≡ None → (at : ℕ) → longer.unread ≡ Some at → end ≤ at

pub added_texts : (state : OptionState) (end far place : ℕ) (words more : List (List ℕ)) → place + length words ≡ end → end + length more ≤ far → IsAdded end far (words_reading_from_parts state (words_as_operands_from_place place words) None) (words_reading_from_parts state (words_as_operands_from_place place (words ++ more)) None)
added_texts state end far place words more l f = record {
  new = words_as_operands_from_place end more;
  operands = λ u. operands_append place words more ∙ ap (λ k. words_as_operands_from_place place words ++ words_as_operands_from_place k more) l;
  placed = operands_between end far more f;
  unread = λ u at h. absurd (none-some at h);
}

pub added : (options : List OptionSpec) (state : OptionState) (end far place : ℕ) (words more : List (List ℕ)) → place + length words ≡ end → end + length more ≤ far → IsAdded end far (reading_of_words_from_place options state place words) (reading_of_words_from_place options state place (words ++ more))
added options state end far place [] more l f =
    let same : end ≡ place = omega arith in
    let is = reading_placed options state end far more f in record {
      new = (reading_of_words_from_place options state end more).operands;
      operands = λ u. ap (λ k. (reading_of_words_from_place options state k more).operands) (sym same);
      placed = is.operands;
      unread = λ u at h. (is.unread at (ap (λ k. (reading_of_words_from_place options state k more).unread) same ∙ h)).0;
    }
added options state end far place (word ∷ words) more l f =
    let next : place + 1 + length words ≡ end = omega arith in
    elim (is_option_or_value state word) as (λ b. IsAdded end far (if b then or_stop_at_unread_word state place (λ m. reading_of_words_from_place options m (place + 1) words) (with_option_or_value_word options state place word) else if is_double_dash word then words_reading_from_parts state (words_as_operands_from_place (place + 1) words) None else with_operand_in_front (operand_at place word) (reading_of_words_from_place options state (place + 1) words)) (if b then or_stop_at_unread_word state place (λ m. reading_of_words_from_place options m (place + 1) (words ++ more)) (with_option_or_value_word options state place word) else if is_double_dash word then words_reading_from_parts state (words_as_operands_from_place (place + 1) (words ++ more)) None else with_operand_in_front (operand_at place word) (reading_of_words_from_place options state (place + 1) (words ++ more)))) [
      | true ↦ elim (with_option_or_value_word options state place word) as (λ w. IsAdded end far (or_stop_at_unread_word state place (λ m. reading_of_words_from_place options m (place + 1) words) w) (or_stop_at_unread_word state place (λ m. reading_of_words_from_place options m (place + 1) (words ++ more)) w)) [
        | None ↦ record { new = []; operands = λ u. refl; placed = tt; unread = λ u. absurd (none-some place (sym u)) }
        | Some g ↦ added options g end far (place + 1) words more next f
      ]
      | false ↦ elim (is_double_dash word) as (λ b. IsAdded end far (if b then words_reading_from_parts state (words_as_operands_from_place (place + 1) words) None else with_operand_in_front (operand_at place word) (reading_of_words_from_place options state (place + 1) words)) (if b then words_reading_from_parts state (words_as_operands_from_place (place + 1) (words ++ more)) None else with_operand_in_front (operand_at place word) (reading_of_words_from_place options state (place + 1) (words ++ more)))) [
        | true ↦ added_texts state end far (place + 1) words more next f
        | false ↦ (let rest = added options state end far (place + 1) words more next f in record {
          new = rest.new;
          operands = λ u. ap (λ os. operand_at place word ∷ os) (rest.operands u);
          placed = rest.placed;
          unread = rest.unread;
        })
      ]
    ]

pub from_added : (start : Start) (words more : List (List ℕ)) → start.read ≤ length words → IsAdded (length words + 1) (length words + 1 + length more) (reading_of_rest_of_command_words start words) (reading_of_rest_of_command_words start (words ++ more))
unfolding reading_of_rest_of_command_words
from_added start words more l =
    let state = option_state_at_start start.flags in
    let end : ℕ = length words + 1 in
    let far : ℕ = length words + 1 + length more in
    let ends : start.read + 1 + length (drop start.read words) ≡ length words + 1 = omega (arith, length-drop start.read words) in
    let fits : length words + 1 + length more ≤ length words + 1 + length more = omega arith in
    subst (λ left. IsAdded end far (if start.ended then words_reading_from_parts state (words_as_operands_from_place (start.read + 1) (drop start.read words)) None else reading_of_words_from_place (options_of start.applet) state (start.read + 1) (drop start.read words)) (if start.ended then words_reading_from_parts state (words_as_operands_from_place (start.read + 1) left) None else reading_of_words_from_place (options_of start.applet) state (start.read + 1) left)) (sym (drop_append start.read words more l))
    (elim start.ended as (λ b. IsAdded end far (if b then words_reading_from_parts state (words_as_operands_from_place (start.read + 1) (drop start.read words)) None else reading_of_words_from_place (options_of start.applet) state (start.read + 1) (drop start.read words)) (if b then words_reading_from_parts state (words_as_operands_from_place (start.read + 1) (drop start.read words ++ more)) None else reading_of_words_from_place (options_of start.applet) state (start.read + 1) (drop start.read words ++ more))) [
      | true ↦ added_texts state end far (start.read + 1) (drop start.read words) more ends fits
      | false ↦ added (options_of start.applet) state end far (start.read + 1) (drop start.read words) more ends fits
    ])

-- what is judged good has a rule, and nothing of it offends
abbrev pub IsGood : Applet → Reading → Type 0
IsGood applet reading = (rule : OperandRule) × (operand_rule_if_needed_kind_flag_given applet reading.state.flags ≡ Some rule) × (place_of_first_refused_operand rule 0 reading.operands ≡ None) × (reading.unread ≡ None)

pub good_of : (applet : Applet) (reading : Reading) (behind : ℕ) (command : CommandLine) → command_of_reading_with_end_place behind applet reading ≡ Ok command → IsGood applet reading
unfolding command_of_reading_with_end_place
good_of applet reading behind command h =
    elim (operand_rule_if_needed_kind_flag_given applet reading.state.flags) as (λ r. operand_rule_if_needed_kind_flag_given applet reading.state.flags ≡ r → unless_refused_at (option_or (place_of_first_operand_refused_by_rule r reading.operands) reading.unread) (if lacks_operand_kind_flag_or_required_option applet r reading then Err behind else Ok (command_from_end_place_and_reading behind applet reading)) ≡ Ok command → IsGood applet reading) [
      | None ↦ λ r. elim reading.unread as (λ u. unless_refused_at (option_or None u) (Err behind) ≡ Ok command → IsGood applet reading) [
        | None ↦ λ (e : Err behind ≡ Ok command). absurd (cc)
        | Some at ↦ λ (e : Err at ≡ Ok command). absurd (cc)
      ]
      | Some rule ↦ λ r. elim (option_or (place_of_first_refused_operand rule 0 reading.operands) reading.unread) as (λ o. option_or (place_of_first_refused_operand rule 0 reading.operands) reading.unread ≡ o → unless_refused_at o (if lacks_operand_kind_flag_or_required_option applet (Some rule) reading then Err behind else Ok (command_from_end_place_and_reading behind applet reading)) ≡ Ok command → IsGood applet reading) [
        | None ↦ λ o e. (let both = both_none (place_of_first_refused_operand rule 0 reading.operands) reading.unread o in (rule, r, both.0, both.1))
        | Some at ↦ λ o (e : Err at ≡ Ok command). absurd (cc)
      ] refl
    ] refl h

pub offends_after : (words more : List (List ℕ)) (command : CommandLine) (place : ℕ) → can_info_kind_follow words ≡ false → spelled_command words ≡ Ok command → spelled_command (words ++ more) ≡ Err place → length words < place
unfolding spelled_command
offends_after words more command place k c h =
    elim (start_of_command_line words) as (λ s. start_of_command_line words ≡ s → spelled_command_by_start words s ≡ Ok command → length words < place) [
      | Err at ↦ λ s (e : Err at ≡ Ok command). absurd (cc)
      | Ok start ↦ λ s e. by_start start s e
    ] refl c
  where
    rule_goes : (start : Start) → IsPlain start (1 + length words) → can_started_words_get_info_kind words start ≡ false → (rule : OperandRule) → operand_rule_if_needed_kind_flag_given start.applet (reading_of_rest_of_command_words start words).state.flags ≡ Some rule → (reading_of_rest_of_command_words start words).unread ≡ None
        → operand_rule_if_needed_kind_flag_given start.applet (reading_of_rest_of_command_words start (words ++ more)).state.flags ≡ Some rule
    rule_goes start known fixed rule r u =
        elim (longer_or_same words more start known fixed) as (λ _. operand_rule_if_needed_kind_flag_given start.applet (reading_of_rest_of_command_words start (words ++ more)).state.flags ≡ Some rule) [
          | inl same ↦ absurd (same.1 u)
          | inr long ↦ long.rule rule r
        ]

    by_first : (start : Start) → IsPlain start (1 + length words) → can_started_words_get_info_kind words start ≡ false → IsGood start.applet (reading_of_rest_of_command_words start words) → option_or (place_of_first_operand_refused_by_rule (operand_rule_if_needed_kind_flag_given start.applet (reading_of_rest_of_command_words start (words ++ more)).state.flags) (reading_of_rest_of_command_words start (words ++ more)).operands) (reading_of_rest_of_command_words start (words ++ more)).unread ≡ Some place → length words < place
    by_first start known fixed good first =
        let low : start.read ≤ length words = omega (arith, known.read) in
        let longer = reading_of_rest_of_command_words start (words ++ more) in
        let add = from_added start words more low in
        let rule_is : operand_rule_if_needed_kind_flag_given start.applet longer.state.flags ≡ Some good.0 = rule_goes start known fixed good.0 good.1 good.3 in
        let refused : place_of_first_refused_operand good.0 0 longer.operands ≡ place_of_first_refused_operand good.0 (0 + length (reading_of_rest_of_command_words start words).operands) add.new =
        ap (place_of_first_refused_operand good.0 0) (add.operands good.3) ∙ refused_then good.0 0 (reading_of_rest_of_command_words start words).operands add.new good.2 in
        elim (place_of_first_refused_operand good.0 (0 + length (reading_of_rest_of_command_words start words).operands) add.new) as (λ o. place_of_first_refused_operand good.0 (0 + length (reading_of_rest_of_command_words start words).operands) add.new ≡ o → option_or o longer.unread ≡ Some place → length words < place) [
          | None ↦ λ f e. (let behind : length words + 1 ≤ place = add.unread good.3 place e in omega arith)
          | Some at ↦ λ f (e : Some at ≡ Some place). (let is = refused_between good.0 (0 + length (reading_of_rest_of_command_words start words).operands) (length words + 1) (length words + 1 + length more) place add.new add.placed (f ∙ e) in omega (arith, is.0))
        ] refl (ap (λ o. option_or o longer.unread) (sym refused) ∙ (ap (λ r. option_or (place_of_first_operand_refused_by_rule r longer.operands) longer.unread) (sym rule_is) ∙ first))

    by_start : (start : Start) → start_of_command_line words ≡ Ok start → command_of_reading_with_end_place (length words + 1) start.applet (reading_of_rest_of_command_words start words) ≡ Ok command → length words < place
    by_start start s e =
        let last : ℕ = length (words ++ more) + 1 in
        let longer : command_of_reading_with_end_place last start.applet (reading_of_rest_of_command_words start (words ++ more)) ≡ Err place =
        sym (ap (spelled_command_by_start (words ++ more)) (start_stays words more start s)) ∙ h in
        elim (judged_at start.applet (reading_of_rest_of_command_words start (words ++ more)) last place longer) as (λ _. length words < place) [
          | inl first ↦ by_first start (start_known words start s) (cannot_from words start k s) (good_of start.applet (reading_of_rest_of_command_words start words) (length words + 1) command e) first
          | inr behind ↦ omega (arith, behind.1, length-append words more)
        ]
