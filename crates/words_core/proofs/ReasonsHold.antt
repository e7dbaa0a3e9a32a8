-- The reason of each usage error is so.
use Rattle.std.proofs.Common.{Bool, Err, List, None, Ok, Option, Some, [], ap, arith, drop, false, inl, inr, is_some, length, not, option_and_then, refl, subst, suc, sym, take, true, zero, ℕ, ◌++◌, ◌+◌, ◌-◌, ◌<◌, ◌∙◌, ◌∷◌, ◌≡◌, ◌≤◌, ◌⊎◌, if◌then◌else◌}
use Rattle.std.specs.List.{slice_get}
use Rattle.std.specs.Option.{option_or}
use Rattle.std.specs.Prelude.{nat_lt, ◌&&◌, ◌||◌, ◌==◌}
use Rattle.std.proofs.lemmas.Bool.{and_parts, false≢true, le-ltb, ltb-false, ltb-true, or_cases, or_right, true≢false}
use Rattle.std.proofs.lemmas.List.{length-take-le, take-append-drop, take_all}
use Rattle.std.proofs.lemmas.Option.{none-some, same_Some}
use Rattle.command_core.specs.declared.command.Applet.{Applet}
use Rattle.command_core.specs.declared.command.Applet.TheVariants.{Mkndx}
use Rattle.command_core.specs.declared.command.Flags.{Flags}
use Rattle.command_core.specs.declared.operands.Operand.{Operand}
use Rattle.command_core.specs.declared.operands.OperandKind.TheVariants.{File}
use Rattle.command_core.specs.declared.operands.OperandRule.{OperandRule}
use Rattle.command_core.specs.declared.values.OptionValue.{OptionValue}
use Rattle.command_core.specs.declared.values.ValueRule.{ValueRule}
use Rattle.command_core.specs.Applets.{required_option_letter, operand_rule_if_needed_kind_flag_given}
use Rattle.command_core.specs.Flags.{has_flag, has_command_kind_flag, no_flags, with_flag}
use Rattle.command_core.specs.Operands.{at_least, place_of_first_refused_operand, allows_one_more_operand, is_operand_of_kind, takes}
use Rattle.command_core.specs.Values.{excludes, is_excluded_by_earlier_value, is_given, is_single_and_given, is_value_of_kind, is_required_value_missing, option_value_from_place_letter_and_text}
use Rattle.words_core.specs.declared.next.NextWord.{NextWord}
use Rattle.words_core.specs.declared.next.NextWord.TheVariants.{OptionOrCommand, OptionOrOperand, Value as NextValue, Operand as OperandAlone}
use Rattle.words_core.specs.declared.options.Meaning.{Meaning}
use Rattle.words_core.specs.declared.options.Meaning.TheVariants.{Flag as Plain, Kind, Value}
use Rattle.words_core.specs.declared.reading.OptionState.{OptionState}
use Rattle.words_core.specs.declared.reading.Reading.{Reading}
use Rattle.words_core.specs.declared.reading.Start.{Start}
use Rattle.words_core.specs.declared.usage.UsageReason.{UsageReason}
use Rattle.words_core.specs.declared.usage.UsageReason.TheVariants.{OptionRepeated, OperandBad, ScriptRepeated, SecondKind, TooManyOperands, ValueBad}
use Rattle.words_core.specs.Grammar.{applet_site, spelled_command_by_start, command_of, command_from_end_place_and_reading, option_state_at_start, value_in_long_or_short_option_word, is_double_dash, is_option_or_double_dash, lacks_operand_or_kind_flag, lacks_operand_kind_flag_or_required_option, spelled_command, start_of_command_line, next_word_of_command_line, next_word_after_option, next_word_after_words, words_as_operands_from_place, option_word_without_value, reading_of_words_from_place, reading_of_rest_of_command_words, words_reading_from_parts, place_of_first_operand_refused_by_rule, value_rule_of_meaning, option_state_from_parts, command_of_reading_with_end_place, with_flags_if_some, state_with_meaning, with_option_value, with_word_as_option_or_value}
use Rattle.words_core.specs.Options.{OptionSpec, option_of_word, options_of}
use Rattle.words_core.specs.Reasons.{IsUsageReason, IsValueRuleOfWord, HasOptionValue}
use Rattle.words_core.specs.Usage.{early_reason, end_reason, line_reason, operand_rule_of_words, meaning_reason, missing_reason, operand_reason, option_reason, usage_reason_after_start, repeated_value_reason, usage_reason, value_reason, word_reason}
use Rattle.words_core.proofs.Asked.{found_next, next_append, operand_stays}
use Rattle.words_core.proofs.AskedLaws.{offends_unasked}
use Rattle.words_core.proofs.KindsKept.{IsPlain, start_known, start_parts}
use Rattle.words_core.proofs.OffendingWords.{judged_at}
use Rattle.words_core.proofs.Reasons.{AreOperandsAt, IsFreeNext, IsOperandNext, IsUnreadAt, IsUnreadWord, end_at, operands_at, texts_at, unread_at}
use Rattle.words_core.proofs.WordsCompleted.{both_none, judged_good}
use Rattle.words_core.proofs.ReasonsEarly.{command_why, foreign_word, get_none, sought_err, unspelled}
use Rattle.words_core.proofs.Sites.{no_start}

-- ---- places

get_taken : (count i : ℕ) (words : List (List ℕ)) (word : List ℕ) → slice_get (take count words) i ≡ Some word → slice_get words i ≡ Some word
get_taken zero i words word h = absurd (none-some word h)
get_taken (suc count) i [] word h = absurd (none-some word h)
get_taken (suc count) zero (w ∷ words) word h = h
get_taken (suc count) (suc i) (w ∷ words) word h = get_taken count i words word h

-- ---- operands

record IsRefused (applet : Applet) (words : List (List ℕ)) (rule : OperandRule) (end place : ℕ) : Type 0 where
  word : List ℕ
  at : slice_get words (place - 1) ≡ Some word
  next : IsOperandNext applet (next_word_of_command_line (take (place - 1) words)) word
  count : ℕ
  less : count < end
  refuses : takes rule count word ≡ false

refused_is : (applet : Applet) (words : List (List ℕ)) (rule : OperandRule) (before place : ℕ) (operands : List Operand) → AreOperandsAt applet words operands → place_of_first_refused_operand rule before operands ≡ Some place → IsRefused applet words rule (before + length operands) place
refused_is applet words rule before place [] at h = absurd (none-some place h)
refused_is applet words rule before place (o ∷ operands) at h =
    elim (takes rule before o.text) as (λ b. takes rule before o.text ≡ b → (if b then place_of_first_refused_operand rule (before + 1) operands else Some o.place) ≡ Some place → IsRefused applet words rule (before + length (o ∷ operands)) place) [
      | true ↦ λ t h.
          let end : before + 1 + length operands ≡ before + length (o ∷ operands) = omega arith in
          subst (λ n. IsRefused applet words rule n place) end (refused_is applet words rule (before + 1) place operands at.1 h)
      | false ↦ λ t (h : Some o.place ≡ Some place). subst (λ p. IsRefused applet words rule (before + length (o ∷ operands)) p) (same_Some o.place place h) (record {
        word = o.text;
        at = at.0.at;
        next = at.0.next;
        count = before;
        less = omega arith;
        refuses = t;
      })
    ] refl h

operand_why : (applet : Applet) (rule : Option OperandRule) (word : List ℕ) (next : NextWord) → IsOperandNext applet next word → word_reason rule word next ≡ operand_reason word rule
operand_why applet rule word next (inl e) = ap (word_reason rule word) e
operand_why applet rule word next (inr e) =
    ap (word_reason rule word) e.0
    ∙ ap (λ b. if b then option_reason word (option_of_word (options_of applet) (option_word_without_value word)) else operand_reason word rule) e.1

-- ---- values

excluded_given : (rule : ValueRule) (text : List ℕ) (values : List OptionValue) → is_excluded_by_earlier_value rule text values ≡ true → is_given rule.letter values ≡ true
excluded_given rule text [] h = absurd (false≢true h)
excluded_given rule text (v ∷ values) h =
    elim (or_cases ((v.letter == rule.letter) && excludes rule.kind v.text text) (is_excluded_by_earlier_value rule text values) h) as (λ _. ((v.letter == rule.letter) || is_given rule.letter values) ≡ true) [
      | inl here ↦ ap (λ b. b || is_given rule.letter values) (and_parts (v.letter == rule.letter) (excludes rule.kind v.text text) here).0
      | inr later ↦ or_right (v.letter == rule.letter) (is_given rule.letter values) (excluded_given rule text values later)
    ]

not_both : (a b : Bool) → a ≡ true → (a && not b) ≡ false → b ≡ true
not_both true true a h = refl
not_both true false a h = absurd (true≢false h)
not_both false b a h = absurd (false≢true a)

-- ---- the place after a command that was found

module _ (words : List (List ℕ)) (start : Start) (s : start_of_command_line words ≡ Ok start) where
  abbrev applet : Applet
  applet = start.applet

  abbrev reading : Reading
  reading = reading_of_rest_of_command_words start words

  abbrev front : List (List ℕ)
  front = take start.read words

  abbrev left : List (List ℕ)
  left = drop start.read words

  low : start.read ≤ length words
  low = (let known : IsPlain start (1 + length words) = start_known words start s in omega (arith, known.read))

  size : length (take start.read words) ≡ start.read
  size = length-take-le start.read words low

  whole : take start.read words ++ drop start.read words ≡ words
  whole = take-append-drop start.read words

  next_front : next_word_of_command_line (take start.read words) ≡ (if start.ended then OperandAlone start.applet else OptionOrOperand start.applet)
  next_front =
      let parts = start_parts words start s in
      let found = found_next 1 words parts.site parts.found in
      let read : suc found.count ≡ parts.site.read = omega (arith, found.read) in
      subst (λ (x : Start). next_word_of_command_line (take x.read words) ≡ (if x.ended then OperandAlone x.applet else OptionOrOperand x.applet)) parts.same
      (ap (λ k. next_word_of_command_line (take k words)) (sym read) ∙ found.front)

  operands : AreOperandsAt start.applet words (reading_of_rest_of_command_words start words).operands
  unfolding reading_of_rest_of_command_words
  operands =
      elim start.ended as (λ b. next_word_of_command_line front ≡ (if b then OperandAlone applet else OptionOrOperand applet) → AreOperandsAt applet words (if b then words_reading_from_parts (option_state_at_start start.flags) (words_as_operands_from_place (start.read + 1) left) None else reading_of_words_from_place (options_of applet) (option_state_at_start start.flags) (start.read + 1) left).operands) [
        | true ↦ λ n. subst (λ ws. AreOperandsAt applet ws (words_as_operands_from_place (start.read + 1) left)) whole (subst (λ k. AreOperandsAt applet (front ++ left) (words_as_operands_from_place (k + 1) left)) size (texts_at applet front left n))
        | false ↦ λ n. subst (λ ws. AreOperandsAt applet ws (reading_of_words_from_place (options_of applet) (option_state_at_start start.flags) (start.read + 1) left).operands) whole
            (subst (λ k. AreOperandsAt applet (front ++ left) (reading_of_words_from_place (options_of applet) (option_state_at_start start.flags) (k + 1) left).operands) size (operands_at applet (option_state_at_start start.flags) front left n))
      ] next_front

  unread : (place : ℕ) → (reading_of_rest_of_command_words start words).unread ≡ Some place → IsUnreadAt start.applet words place (reading_of_rest_of_command_words start words).state
  unfolding reading_of_rest_of_command_words
  unread place =
      elim start.ended as (λ b. next_word_of_command_line front ≡ (if b then OperandAlone applet else OptionOrOperand applet) → (if b then words_reading_from_parts (option_state_at_start start.flags) (words_as_operands_from_place (start.read + 1) left) None else reading_of_words_from_place (options_of applet) (option_state_at_start start.flags) (start.read + 1) left).unread ≡ Some place → IsUnreadAt applet words place (if b then words_reading_from_parts (option_state_at_start start.flags) (words_as_operands_from_place (start.read + 1) left) None else reading_of_words_from_place (options_of applet) (option_state_at_start start.flags) (start.read + 1) left).state) [
        | true ↦ λ n u. absurd (none-some place u)
        | false ↦ λ n. subst (λ k. (reading_of_words_from_place (options_of applet) (option_state_at_start start.flags) (k + 1) left).unread ≡ Some place → IsUnreadAt applet words place (reading_of_words_from_place (options_of applet) (option_state_at_start start.flags) (k + 1) left).state) size
            (λ u. subst (λ ws. IsUnreadAt applet ws place (reading_of_words_from_place (options_of applet) (option_state_at_start start.flags) (length front + 1) left).state) whole (unread_at applet (option_state_at_start start.flags) front left place n u))
      ] next_front

  free : (reading_of_rest_of_command_words start words).unread ≡ None → IsFreeNext start.applet (next_word_of_command_line words)
  unfolding reading_of_rest_of_command_words
  free =
      elim start.ended as (λ b. next_word_of_command_line front ≡ (if b then OperandAlone applet else OptionOrOperand applet) → (if b then words_reading_from_parts (option_state_at_start start.flags) (words_as_operands_from_place (start.read + 1) left) None else reading_of_words_from_place (options_of applet) (option_state_at_start start.flags) (start.read + 1) left).unread ≡ None → IsFreeNext applet (next_word_of_command_line words)) [
        | true ↦ λ n u. inl (ap next_word_of_command_line (sym whole) ∙ (next_append OptionOrCommand front left ∙ (ap (λ x. next_word_after_words x left) n ∙ operand_stays applet left)))
        | false ↦ λ n. subst (λ k. (reading_of_words_from_place (options_of applet) (option_state_at_start start.flags) (k + 1) left).unread ≡ None → IsFreeNext applet (next_word_of_command_line words)) size
            (λ u. subst (λ ws. IsFreeNext applet (next_word_of_command_line ws)) whole (end_at applet (option_state_at_start start.flags) front left n u))
      ] next_front

  -- ---- the reason, by the word there

  reason_is : (place : ℕ) → usage_reason words place ≡ line_reason start.applet (operand_rule_of_words words start) (next_word_of_command_line (take (place - 1) words)) (slice_get words (place - 1))
  unfolding usage_reason
  reason_is place = ap (usage_reason_after_start words place) s

  word_is : (place : ℕ) (word : List ℕ) (next : NextWord) → slice_get words (place - 1) ≡ Some word → next_word_of_command_line (take (place - 1) words) ≡ next → usage_reason words place ≡ word_reason (operand_rule_of_words words start) word next
  word_is place word next at n =
      reason_is place
      ∙ (ap (line_reason start.applet (operand_rule_of_words words start) (next_word_of_command_line (take (place - 1) words))) at
      ∙ ap (word_reason (operand_rule_of_words words start) word) n)

  end_is : (place : ℕ) (next : NextWord) → place ≡ length words + 1 → next_word_of_command_line words ≡ next → usage_reason words place ≡ end_reason start.applet (operand_rule_of_words words start) next
  end_is place next e n =
      let far : length words ≤ place - 1 = omega (arith, e) in
      reason_is place
      ∙ (ap (line_reason start.applet (operand_rule_of_words words start) (next_word_of_command_line (take (place - 1) words))) (get_none words (place - 1) far)
      ∙ ap (end_reason start.applet (operand_rule_of_words words start)) (ap next_word_of_command_line (take_all (place - 1) words far) ∙ n))

  holds : (place : ℕ) (reason : UsageReason) → usage_reason words place ≡ reason → IsUsageReason reason words place → IsUsageReason (usage_reason words place) words place
  holds place reason e h = subst (λ r. IsUsageReason r words place) (sym e) h

  -- an operand that is refused
  refused_why : (place : ℕ) (rule : OperandRule) → operand_rule_of_words words start ≡ Some rule → IsRefused start.applet words rule (0 + length (reading_of_rest_of_command_words start words).operands) place → IsUsageReason (usage_reason words place) words place
  refused_why place rule r h =
      holds place (operand_reason h.word (Some rule))
      (word_is place h.word (next_word_of_command_line (take (place - 1) words)) h.at refl
      ∙ (operand_why start.applet (operand_rule_of_words words start) h.word (next_word_of_command_line (take (place - 1) words)) h.next
      ∙ ap (operand_reason h.word) r))
      (elim (is_operand_of_kind rule.kind h.word) as (λ b. is_operand_of_kind rule.kind h.word ≡ b → IsUsageReason (if b then TooManyOperands else OperandBad rule.kind) words place) [
        | true ↦ λ k. too_many k (allows_one_more_operand rule.most h.count) refl (sym (ap (λ b. allows_one_more_operand rule.most h.count && b) k) ∙ h.refuses)
        | false ↦ λ k. (h.word, h.at, (start, s, (rule, r, (refl, k))))
      ] refl)
    where
      by_most : (most : Option ℕ) → rule.most ≡ most → allows_one_more_operand most h.count ≡ false → IsUsageReason TooManyOperands words place
      by_most None m n = absurd (true≢false n)
      by_most (Some most) m n = (let full : most ≤ h.count = ltb-false h.count most n in let less = h.less in (start, s, (rule, r, (most, m, omega (arith, full, less)))))

      too_many : is_operand_of_kind rule.kind h.word ≡ true → (room : Bool) → allows_one_more_operand rule.most h.count ≡ room → (allows_one_more_operand rule.most h.count && true) ≡ false → IsUsageReason TooManyOperands words place
      too_many k true e n = absurd (true≢false (sym (ap (λ b. b && true) e) ∙ n))
      too_many k false e n = by_most rule.most refl e

  -- a text that is no value of an option
  value_why : (place : ℕ) (word : List ℕ) (rule : ValueRule) (text : List ℕ) → slice_get words (place - 1) ≡ Some word → IsValueRuleOfWord start (reading_of_rest_of_command_words start words) word rule
      → ((P : ValueRule → List ℕ → Type 0) → P rule text → HasOptionValue start (reading_of_rest_of_command_words start words) word P)
      → ((is_value_of_kind rule.kind text && not (is_excluded_by_earlier_value rule text (reading_of_rest_of_command_words start words).state.values)) ≡ false) ⊎ (is_single_and_given rule (reading_of_rest_of_command_words start words).state.values ≡ true)
      → IsUsageReason (value_reason rule text) words place
  value_why place word rule text at own as_value bad =
      elim (is_value_of_kind rule.kind text) as (λ b. is_value_of_kind rule.kind text ≡ b → IsUsageReason (if b then repeated_value_reason rule else ValueBad rule.kind) words place) [
        | true ↦ λ v. repeated v bad
        | false ↦ λ v. (word, at, (start, s, as_value (λ r t. (r.kind ≡ rule.kind) × (is_value_of_kind rule.kind t ≡ false)) (refl, v)))
      ] refl
    where
      values : List OptionValue
      values = (reading_of_rest_of_command_words start words).state.values

      given_is : is_value_of_kind rule.kind text ≡ true → ((is_value_of_kind rule.kind text && not (is_excluded_by_earlier_value rule text (reading_of_rest_of_command_words start words).state.values)) ≡ false) ⊎ (is_single_and_given rule (reading_of_rest_of_command_words start words).state.values ≡ true) → is_given rule.letter (reading_of_rest_of_command_words start words).state.values ≡ true
      given_is v (inl e) = excluded_given rule text values (not_both (is_value_of_kind rule.kind text) (is_excluded_by_earlier_value rule text values) v e)
      given_is v (inr e) = (and_parts rule.single (is_given rule.letter values) e).1

      excluded_is : is_value_of_kind rule.kind text ≡ true → rule.single ≡ false → ((is_value_of_kind rule.kind text && not (is_excluded_by_earlier_value rule text (reading_of_rest_of_command_words start words).state.values)) ≡ false) ⊎ (is_single_and_given rule (reading_of_rest_of_command_words start words).state.values ≡ true) → is_excluded_by_earlier_value rule text (reading_of_rest_of_command_words start words).state.values ≡ true
      excluded_is v g (inl e) = not_both (is_value_of_kind rule.kind text) (is_excluded_by_earlier_value rule text values) v e
      excluded_is v g (inr e) = absurd (true≢false (sym (and_parts rule.single (is_given rule.letter values) e).0 ∙ g))

      repeated : is_value_of_kind rule.kind text ≡ true → ((is_value_of_kind rule.kind text && not (is_excluded_by_earlier_value rule text (reading_of_rest_of_command_words start words).state.values)) ≡ false) ⊎ (is_single_and_given rule (reading_of_rest_of_command_words start words).state.values ≡ true) → IsUsageReason (repeated_value_reason rule) words place
      repeated v bad =
          elim rule.single as (λ b. rule.single ≡ b → IsUsageReason (if b then OptionRepeated else ScriptRepeated) words place) [
            | true ↦ λ g. (word, at, (start, s, (rule, g, given_is v bad, own)))
            | false ↦ λ g. (word, at, (start, s, as_value (λ r t. is_excluded_by_earlier_value r t (reading_of_rest_of_command_words start words).state.values ≡ true) (excluded_is v g bad)))
          ] refl

  -- an option of the command that cannot be given
  meaning_why : (place : ℕ) (word : List ℕ) (option : OptionSpec) → slice_get words (place - 1) ≡ Some word → option_of_word (options_of start.applet) (option_word_without_value word) ≡ Some option → (held : Option (List ℕ)) → value_in_long_or_short_option_word word ≡ held → (meaning : Meaning) → option.meaning ≡ meaning
      → state_with_meaning (reading_of_rest_of_command_words start words).state place held meaning ≡ None → IsUsageReason (meaning_reason held meaning) words place
  meaning_why place word option at o (Some text) h (Plain flag) m u = (word, at, (start, s, ((option, o, ap value_rule_of_meaning m), ap is_some h)))
  meaning_why place word option at o (Some text) h (Kind flag) m u = (word, at, (start, s, ((option, o, ap value_rule_of_meaning m), ap is_some h)))
  meaning_why place word option at o (Some text) h (Value rule) m u =
      value_why place word rule text at (inr (option, o, m)) (λ P p. inr (option, o, (rule, text, m, h, p)))
      (elim (is_single_and_given rule (reading_of_rest_of_command_words start words).state.values) as (λ b. is_single_and_given rule (reading_of_rest_of_command_words start words).state.values ≡ b → (if b then None else with_option_value (reading_of_rest_of_command_words start words).state place text rule) ≡ None → ((is_value_of_kind rule.kind text && not (is_excluded_by_earlier_value rule text (reading_of_rest_of_command_words start words).state.values)) ≡ false) ⊎ (is_single_and_given rule (reading_of_rest_of_command_words start words).state.values ≡ true)) [
        | true ↦ λ e n. inr e
        | false ↦ λ e n. inl (no_value rule text place n)
      ] refl u)
    where
      no_value : (rule : ValueRule) (text : List ℕ) (place : ℕ) → with_option_value (reading_of_rest_of_command_words start words).state place text rule ≡ None → (is_value_of_kind rule.kind text && not (is_excluded_by_earlier_value rule text (reading_of_rest_of_command_words start words).state.values)) ≡ false
      no_value rule text place n =
          elim (is_value_of_kind rule.kind text && not (is_excluded_by_earlier_value rule text (reading_of_rest_of_command_words start words).state.values)) as (λ b. (if b then Some (option_state_from_parts (reading_of_rest_of_command_words start words).state.flags ((reading_of_rest_of_command_words start words).state.values ++ (option_value_from_place_letter_and_text place rule.letter text ∷ [])) None) else None) ≡ None → b ≡ false) [
            | true ↦ λ (k : Some (option_state_from_parts (reading_of_rest_of_command_words start words).state.flags ((reading_of_rest_of_command_words start words).state.values ++ (option_value_from_place_letter_and_text place rule.letter text ∷ [])) None) ≡ None). absurd (none-some (option_state_from_parts (reading_of_rest_of_command_words start words).state.flags ((reading_of_rest_of_command_words start words).state.values ++ (option_value_from_place_letter_and_text place rule.letter text ∷ [])) None) (sym k))
            | false ↦ λ k. refl
          ] n
  meaning_why place word option at o None h (Plain flag) m u = absurd (none-some (option_state_from_parts (with_flag flag (reading_of_rest_of_command_words start words).state.flags) (reading_of_rest_of_command_words start words).state.values (reading_of_rest_of_command_words start words).state.awaiting) (sym u))
  meaning_why place word option at o None h (Kind flag) m u =
      elim (has_command_kind_flag (reading_of_rest_of_command_words start words).state.flags && not (has_flag flag (reading_of_rest_of_command_words start words).state.flags)) as (λ b. (has_command_kind_flag (reading_of_rest_of_command_words start words).state.flags && not (has_flag flag (reading_of_rest_of_command_words start words).state.flags)) ≡ b → with_flags_if_some (reading_of_rest_of_command_words start words).state (if b then None else Some (with_flag flag (reading_of_rest_of_command_words start words).state.flags)) ≡ None → IsUsageReason SecondKind words place) [
        | true ↦ λ e n. (let both = and_parts (has_command_kind_flag (reading_of_rest_of_command_words start words).state.flags) (not (has_flag flag (reading_of_rest_of_command_words start words).state.flags)) e in (word, at, (start, s, (flag, both.0, is_false (has_flag flag (reading_of_rest_of_command_words start words).state.flags) both.1, (option, o, m)))))
        | false ↦ λ e n. absurd (none-some (option_state_from_parts (with_flag flag (reading_of_rest_of_command_words start words).state.flags) (reading_of_rest_of_command_words start words).state.values (reading_of_rest_of_command_words start words).state.awaiting) (sym n))
      ] refl u
    where
      is_false : (b : Bool) → not b ≡ true → b ≡ false
      is_false true h = absurd (false≢true h)
      is_false false h = refl
  meaning_why place word option at o None h (Value rule) m u =
      elim (is_single_and_given rule (reading_of_rest_of_command_words start words).state.values) as (λ b. is_single_and_given rule (reading_of_rest_of_command_words start words).state.values ≡ b → (if b then None else Some (option_state_from_parts (reading_of_rest_of_command_words start words).state.flags (reading_of_rest_of_command_words start words).state.values (Some rule))) ≡ None → IsUsageReason OptionRepeated words place) [
        | true ↦ λ e n. (let both = and_parts rule.single (is_given rule.letter (reading_of_rest_of_command_words start words).state.values) e in (word, at, (start, s, (rule, both.0, both.1, inr (option, o, m)))))
        | false ↦ λ e n. absurd (none-some (option_state_from_parts (reading_of_rest_of_command_words start words).state.flags (reading_of_rest_of_command_words start words).state.values (Some rule)) (sym n))
      ] refl u

  -- a word that cannot be read
  word_why : (place : ℕ) → IsUnreadWord start.applet words place (reading_of_rest_of_command_words start words).state → IsUsageReason (usage_reason words place) words place
  word_why place u = by_awaiting (reading_of_rest_of_command_words start words).state.awaiting refl
    where
      state : OptionState
      state = (reading_of_rest_of_command_words start words).state

      no_value : (rule : ValueRule) → with_option_value (reading_of_rest_of_command_words start words).state place u.word rule ≡ None → (is_value_of_kind rule.kind u.word && not (is_excluded_by_earlier_value rule u.word (reading_of_rest_of_command_words start words).state.values)) ≡ false
      no_value rule n =
          elim (is_value_of_kind rule.kind u.word && not (is_excluded_by_earlier_value rule u.word (reading_of_rest_of_command_words start words).state.values)) as (λ b. (if b then Some (option_state_from_parts (reading_of_rest_of_command_words start words).state.flags ((reading_of_rest_of_command_words start words).state.values ++ (option_value_from_place_letter_and_text place rule.letter u.word ∷ [])) None) else None) ≡ None → b ≡ false) [
            | true ↦ λ (k : Some (option_state_from_parts (reading_of_rest_of_command_words start words).state.flags ((reading_of_rest_of_command_words start words).state.values ++ (option_value_from_place_letter_and_text place rule.letter u.word ∷ [])) None) ≡ None). absurd (none-some (option_state_from_parts (reading_of_rest_of_command_words start words).state.flags ((reading_of_rest_of_command_words start words).state.values ++ (option_value_from_place_letter_and_text place rule.letter u.word ∷ [])) None) (sym k))
            | false ↦ λ k. refl
          ] n

      unknown : option_of_word (options_of start.applet) (option_word_without_value u.word) ≡ None → IsUsageReason (option_reason u.word None) words place
      unknown o =
          let parts = start_parts words start s in
          (u.word, u.at, (parts.site, parts.found, subst (λ (x : Start). option_of_word (options_of x.applet) (option_word_without_value u.word) ≡ None) (sym parts.same) o))

      by_option : (reading_of_rest_of_command_words start words).state.awaiting ≡ None → (found : Option OptionSpec) → option_of_word (options_of start.applet) (option_word_without_value u.word) ≡ found → IsUsageReason (option_reason u.word found) words place
      by_option a None o = unknown o
      by_option a (Some option) o =
          meaning_why place u.word option u.at o (value_in_long_or_short_option_word u.word) refl option.meaning refl
          (sym (ap (with_word_as_option_or_value (options_of start.applet) (reading_of_rest_of_command_words start words).state place u.word) a
          ∙ ap (option_and_then (λ (e : OptionSpec). state_with_meaning (reading_of_rest_of_command_words start words).state place (value_in_long_or_short_option_word u.word) e.meaning)) o) ∙ u.unread)

      by_awaiting : (awaiting : Option ValueRule) → (reading_of_rest_of_command_words start words).state.awaiting ≡ awaiting → IsUsageReason (usage_reason words place) words place
      by_awaiting (Some rule) a =
          holds place (value_reason rule u.word)
          (word_is place u.word (NextValue start.applet rule) u.at (u.next ∙ ap (next_word_after_option start.applet) a))
          (value_why place u.word rule u.word u.at (inl a) (λ P p. inl (rule, a, p))
          (inl (no_value rule (sym (ap (with_word_as_option_or_value (options_of start.applet) (reading_of_rest_of_command_words start words).state place u.word) a) ∙ u.unread))))
      by_awaiting None a =
          let option : (is_option_or_double_dash u.word && not (is_double_dash u.word)) ≡ true = sym (ap (λ o. is_some o || (is_option_or_double_dash u.word && not (is_double_dash u.word))) a) ∙ u.taken in
          holds place (option_reason u.word (option_of_word (options_of start.applet) (option_word_without_value u.word)))
          (word_is place u.word (OptionOrOperand start.applet) u.at (u.next ∙ ap (next_word_after_option start.applet) a)
          ∙ ap (λ b. if b then option_reason u.word (option_of_word (options_of start.applet) (option_word_without_value u.word)) else operand_reason u.word (operand_rule_of_words words start)) option)
          (by_option a (option_of_word (options_of start.applet) (option_word_without_value u.word)) refl)

  unread_why : (place : ℕ) → IsUnreadAt start.applet words place (reading_of_rest_of_command_words start words).state → IsUsageReason (usage_reason words place) words place
  unread_why place (inl u) = word_why place u
  unread_why place (inr u) = subst (λ r. IsUsageReason r words place) (sym (end_is place (NextValue start.applet u.rule) u.end u.next)) (u.end, (start, s, ap is_some u.awaits))

  -- a word that is missing
  missing_why : (place : ℕ) → place ≡ length words + 1 → lacks_operand_kind_flag_or_required_option start.applet (operand_rule_of_words words start) (reading_of_rest_of_command_words start words) ≡ true → IsUsageReason (missing_reason (required_option_letter start.applet) (operand_rule_of_words words start)) words place
  missing_why place e k = by_needed (required_option_letter start.applet) refl
    where
      operands_read : List Operand
      operands_read = (reading_of_rest_of_command_words start words).operands

      needed_rule : (applet : Applet) (flags : Flags) (letter : ℕ) → required_option_letter applet ≡ Some letter → operand_rule_if_needed_kind_flag_given applet flags ≡ Some (at_least 0 File)
      needed_rule Mkndx flags letter n = refl
      needed_rule applet flags letter n = absurd (none-some letter n)

      second : (a b : Bool) → a ≡ false → (a || b) ≡ true → b ≡ true
      second true b h k = absurd (true≢false h)
      second false b h k = k

      first : (a b : Bool) → b ≡ false → (a || b) ≡ true → a ≡ true
      first true b h k = refl
      first false b h k = absurd (false≢true (sym h ∙ k))

      not_given : (b : Bool) → not b ≡ true → b ≡ false
      not_given true h = absurd (false≢true h)
      not_given false h = refl

      by_rule : required_option_letter start.applet ≡ None → (rule : Option OperandRule) → operand_rule_of_words words start ≡ rule → IsUsageReason (missing_reason None rule) words place
      by_rule n None r = (e, (start, s, r))
      by_rule n (Some rule) r =
          let short : nat_lt (length operands_read) rule.least ≡ true =
          first (nat_lt (length operands_read) rule.least) (is_required_value_missing (required_option_letter start.applet) (reading_of_rest_of_command_words start words).state.values) (ap (λ o. is_required_value_missing o (reading_of_rest_of_command_words start words).state.values) n)
          (sym (ap (λ o. lacks_operand_or_kind_flag o operands_read || is_required_value_missing (required_option_letter start.applet) (reading_of_rest_of_command_words start words).state.values) r) ∙ k) in
          (e, (start, s, (rule, r, (refl, ltb-true (length operands_read) rule.least short))))

      by_needed : (needed : Option ℕ) → required_option_letter start.applet ≡ needed → IsUsageReason (missing_reason needed (operand_rule_of_words words start)) words place
      by_needed (Some letter) n =
          let enough : lacks_operand_or_kind_flag (operand_rule_of_words words start) operands_read ≡ false =
          ap (λ o. lacks_operand_or_kind_flag o operands_read) (needed_rule start.applet (reading_of_rest_of_command_words start words).state.flags letter n) ∙ le-ltb (length operands_read) 0 (omega arith) in
          let none : not (is_given letter (reading_of_rest_of_command_words start words).state.values) ≡ true =
          sym (ap (λ o. is_required_value_missing o (reading_of_rest_of_command_words start words).state.values) n) ∙ second (lacks_operand_or_kind_flag (operand_rule_of_words words start) operands_read) (is_required_value_missing (required_option_letter start.applet) (reading_of_rest_of_command_words start words).state.values) enough k in
          (e, (start, s, (letter, n, not_given (is_given letter (reading_of_rest_of_command_words start words).state.values) none)))
      by_needed None n = by_rule n (operand_rule_of_words words start) refl

  lacks_why : (place : ℕ) → place ≡ length words + 1 → (reading_of_rest_of_command_words start words).unread ≡ None → lacks_operand_kind_flag_or_required_option start.applet (operand_rule_of_words words start) (reading_of_rest_of_command_words start words) ≡ true → IsUsageReason (usage_reason words place) words place
  lacks_why place e u k =
      elim (free u) as (λ _. IsUsageReason (usage_reason words place) words place) [
        | inl n ↦ subst (λ r. IsUsageReason r words place) (sym (end_is place (OperandAlone start.applet) e n)) (missing_why place e k)
        | inr n ↦ subst (λ r. IsUsageReason r words place) (sym (end_is place (OptionOrOperand start.applet) e n)) (missing_why place e k)
      ]

  -- all that can be judged bad
  judged_why : (place : ℕ) → command_of_reading_with_end_place (length words + 1) start.applet (reading_of_rest_of_command_words start words) ≡ Err place → IsUsageReason (usage_reason words place) words place
  judged_why place h = elim (judged_at start.applet (reading_of_rest_of_command_words start words) (length words + 1) place h) as (λ _. IsUsageReason (usage_reason words place) words place) [
    | inl first ↦ by_refused (place_of_first_operand_refused_by_rule (operand_rule_of_words words start) (reading_of_rest_of_command_words start words).operands) refl first
    | inr last ↦ (let none = both_none (place_of_first_operand_refused_by_rule (operand_rule_of_words words start) (reading_of_rest_of_command_words start words).operands) (reading_of_rest_of_command_words start words).unread last.0 in
        lacks_why place last.1 none.1 (lacking none.0 none.1 (lacks_operand_kind_flag_or_required_option start.applet (operand_rule_of_words words start) (reading_of_rest_of_command_words start words)) refl))
  ]
    where
      by_rule : (rule : Option OperandRule) → operand_rule_of_words words start ≡ rule → place_of_first_operand_refused_by_rule rule (reading_of_rest_of_command_words start words).operands ≡ Some place → IsUsageReason (usage_reason words place) words place
      by_rule None r e = absurd (none-some place e)
      by_rule (Some rule) r e = refused_why place rule r (refused_is start.applet words rule 0 place (reading_of_rest_of_command_words start words).operands operands e)

      by_refused : (o : Option ℕ) → place_of_first_operand_refused_by_rule (operand_rule_of_words words start) (reading_of_rest_of_command_words start words).operands ≡ o → option_or o (reading_of_rest_of_command_words start words).unread ≡ Some place → IsUsageReason (usage_reason words place) words place
      by_refused None e f = unread_why place (unread place f)
      by_refused (Some at) e f = by_rule (operand_rule_of_words words start) refl (e ∙ f)

      lacking : place_of_first_operand_refused_by_rule (operand_rule_of_words words start) (reading_of_rest_of_command_words start words).operands ≡ None → (reading_of_rest_of_command_words start words).unread ≡ None → (b : Bool) → lacks_operand_kind_flag_or_required_option start.applet (operand_rule_of_words words start) (reading_of_rest_of_command_words start words) ≡ b → lacks_operand_kind_flag_or_required_option start.applet (operand_rule_of_words words start) (reading_of_rest_of_command_words start words) ≡ true
      lacking r u true k = k
      lacking r u false k = absurd (let good : Ok (command_from_end_place_and_reading (length words + 1) start.applet (reading_of_rest_of_command_words start words)) ≡ Err place = sym (judged_good start.applet (reading_of_rest_of_command_words start words) (length words + 1) r u k) ∙ h in cc)

pub reason_so : (words : List (List ℕ)) (place : ℕ) → command_of words ≡ Err place → IsUsageReason (usage_reason words place) words place
unfolding spelled_command usage_reason
reason_so words place c =
    elim (start_of_command_line words) as (λ s. start_of_command_line words ≡ s → spelled_command_by_start words s ≡ Err place → IsUsageReason (usage_reason_after_start words place s) words place) [
      | Ok start ↦ λ s h. subst (λ r. IsUsageReason r words place) (ap (usage_reason_after_start words place) s) (judged_why words start s place h)
      | Err at ↦ λ s (h : Err at ≡ Err place). (let same : at ≡ place = cc in early_why (s ∙ ap Err same))
    ] refl (offends_unasked words place c).offends
  where
    early_why : start_of_command_line words ≡ Err place → IsUsageReason (early_reason (applet_site 1 words) (next_word_of_command_line (take (place - 1) words)) (slice_get words (place - 1))) words place
    early_why s =
        elim (no_start words place s) as (λ _. IsUsageReason (early_reason (applet_site 1 words) (next_word_of_command_line (take (place - 1) words)) (slice_get words (place - 1))) words place) [
          | inl e ↦ subst (λ r. IsUsageReason (early_reason r (next_word_of_command_line (take (place - 1) words)) (slice_get words (place - 1))) words place) (sym e)
              (command_why words place e (sought_err [] words place refl e))
          | inr f ↦ subst (λ r. IsUsageReason (early_reason r (next_word_of_command_line (take (place - 1) words)) (slice_get words (place - 1))) words place) (sym f.found)
              (let word = foreign_word no_flags 1 place words f.site f.found f.early in
              (word.word, word.at, (f.site, f.found, unspelled f.site.applet word.flags word.word word.early word.refused)))
        ]
