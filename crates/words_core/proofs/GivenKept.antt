-- What options have given while a line is read: flags of the applet's own, and values that may stand together.
use Rattle.std.proofs.Common.{Bool, List, None, Option, Some, [], ap, cond, drop, false, refl, rules, subst, true, ℕ, ◌++◌, ◌+◌, ◌∙◌, ◌∷◌, ◌≡◌, if◌then◌else◌}
use Rattle.std.specs.List.{list_all}
use Rattle.std.specs.Prelude.{not, ◌&&◌, ◌==◌, ◌||◌}
use Rattle.std.specs.Str.{bytes_eq}
use Rattle.std.proofs.lemmas.Bool.{and_from, and_parts, eqb-true, or_parts}
use Rattle.std.proofs.lemmas.List.Folds.{list_all-append}
use Rattle.std.proofs.lemmas.Option.{none-some, option_and_then_some, same_Some}
use Rattle.command_core.specs.declared.command.Applet.{Applet}
use Rattle.command_core.specs.declared.command.Applet.TheVariants.{Add, Del, Fix, Help, Info, List as ListApplet, Mkndx, Mkpkg, ProgramVersion, Upgrade, Version}
use Rattle.command_core.specs.declared.command.Flags.{Flags}
use Rattle.command_core.specs.declared.values.OptionValue.{OptionValue}
use Rattle.command_core.specs.declared.values.ValueRule.{ValueRule}
use Rattle.command_core.specs.Sound.{may_have_flags, value_rules, may_both_be_given, are_allowed_values, are_exclusive_values, is_allowed_value, value_rule_of_letter}
use Rattle.command_core.specs.Operands.{operand_at}
use Rattle.command_core.specs.Values.{excludes, is_excluded_by_earlier_value, is_given, is_single_and_given, is_value_of_kind, option_value_from_place_letter_and_text}
use Rattle.words_core.specs.declared.options.Meaning.{Meaning}
use Rattle.words_core.specs.declared.options.Meaning.TheVariants.{Flag as Plain, Kind, Value}
use Rattle.words_core.specs.declared.reading.OptionState.{OptionState}
use Rattle.words_core.specs.declared.reading.Start.{Start}
use Rattle.words_core.specs.Grammar.{option_state_at_start, value_in_long_or_short_option_word, is_double_dash, is_option_or_value, words_as_operands_from_place, option_word_without_value, reading_of_words_from_place, or_stop_at_unread_word, reading_of_rest_of_command_words, words_reading_from_parts, option_state_from_parts, with_flags_if_some, with_value_or_awaited, flags_with_meaning_if_one_command_kind, state_with_meaning, with_operand_in_front, with_value_option, flags_with_option_if_one_command_kind, with_option_word, with_option_value, with_option_or_value_word, with_word_as_option_or_value}
use Rattle.words_core.specs.Options.{OptionSpec, common_options, option_of_word, options_of}
use Rattle.words_core.specs.Steps.{IsSoundReading}
use Rattle.words_core.proofs.KindsKept.{IsPlain, find_passes, options_kept, pass_or_none}

-- an option with values is found by its letter
abbrev pub IsOwn : Applet → Meaning → Type 0
IsOwn applet (Plain flag) = Unit {0}
IsOwn applet (Kind flag) = Unit {0}
IsOwn applet (Value rule) = value_rule_of_letter (value_rules applet) rule.letter ≡ Some rule

abbrev pub AllOwn : Applet → List OptionSpec → Type 0
AllOwn applet [] = Unit {0}
AllOwn applet (e ∷ options) = IsOwn applet e.meaning × AllOwn applet options

pub all_own : (applet : Applet) → AllOwn applet (options_of applet)
unfolding common_options options_of
all_own Add = (tt, (tt, (tt, (tt, tt))))
all_own Del = (tt, (tt, (tt, (tt, tt))))
all_own Upgrade = (tt, (tt, (tt, tt)))
all_own Fix = (tt, (tt, (tt, tt)))
all_own Info = (tt, (tt, (tt, (tt, (tt, (tt, tt))))))
all_own Mkpkg = (tt, (tt, (refl, (refl, (refl, (refl, (refl, (refl, tt))))))))
all_own Mkndx = (tt, (tt, (refl, (refl, (refl, tt)))))
all_own Version = (tt, (tt, (tt, (tt, tt))))
all_own ListApplet = (tt, (tt, (tt, tt)))
all_own Help = tt
all_own ProgramVersion = tt
all_own applet = (tt, (tt, tt))

pub found_own : (applet : Applet) (options : List OptionSpec) (word : List ℕ) (e : OptionSpec) → AllOwn applet options → option_of_word options word ≡ Some e → IsOwn applet e.meaning
found_own applet [] word e own f = absurd (none-some e f)
found_own applet (x ∷ xs) word e own f =
    elim (bytes_eq x.long word || bytes_eq x.short word) as (λ b. cond b (Some x) (option_of_word xs word) ≡ Some e → IsOwn applet e.meaning) [
      | true ↦ λ (same : Some x ≡ Some e). subst (λ (z : OptionSpec). IsOwn applet z.meaning) (same_Some x e same) own.0
      | false ↦ λ (later : option_of_word xs word ≡ Some e). found_own applet xs word e own.1 later
    ] f

-- one more value that no earlier one excludes
pub both_false : (a b c : Bool) → (a && (b || c)) ≡ false → ((a && b) ≡ false) × ((a && c) ≡ false)
both_false true b c h = or_parts b c h
both_false false b c h = (refl, refl)

pub apart_by : (rules : List ValueRule) (rule : ValueRule) (w : OptionValue) (text : List ℕ) (place : ℕ) → value_rule_of_letter rules rule.letter ≡ Some rule → (rule.single && (w.letter == rule.letter)) ≡ false → ((w.letter == rule.letter) && excludes rule.kind w.text text) ≡ false → may_both_be_given rules w (option_value_from_place_letter_and_text place rule.letter text) ≡ true
apart_by rules rule w text place own spent excluded =
    elim (w.letter == rule.letter) as (λ b. (w.letter == rule.letter) ≡ b → (rule.single && b) ≡ false → (b && excludes rule.kind w.text text) ≡ false → not (b && are_exclusive_values (value_rule_of_letter rules w.letter) w.text text) ≡ true) [
      | true ↦ λ e s x.
          let found : value_rule_of_letter rules w.letter ≡ Some rule = ap (value_rule_of_letter rules) (eqb-true w.letter rule.letter e) ∙ own in
          let single : rule.single ≡ false = alone rule.single s in
          let none : excludes rule.kind w.text text ≡ false = x in
          rw found (rw single (rw none refl))
      | false ↦ λ e s x. refl
    ] refl spent excluded
  where
    alone : (b : Bool) → (b && true) ≡ false → b ≡ false
    alone true h = h
    alone false h = h

pub values_push : (rules : List ValueRule) (rule : ValueRule) (text : List ℕ) (place : ℕ) (values : List OptionValue) → value_rule_of_letter rules rule.letter ≡ Some rule → is_value_of_kind rule.kind text ≡ true → is_single_and_given rule values ≡ false → is_excluded_by_earlier_value rule text values ≡ false → are_allowed_values rules values ≡ true → are_allowed_values rules (values ++ (option_value_from_place_letter_and_text place rule.letter text ∷ [])) ≡ true
values_push rules rule text place [] own good spent excluded are = rw own (rw good refl)
values_push rules rule text place (w ∷ ws) own good spent excluded are =
    let first = both_false rule.single (w.letter == rule.letter) (is_given rule.letter ws) spent in
    let others = or_parts ((w.letter == rule.letter) && excludes rule.kind w.text text) (is_excluded_by_earlier_value rule text ws) excluded in
    let parts = and_parts (is_allowed_value (value_rule_of_letter rules w.letter) w.text && list_all (may_both_be_given rules w) ws) (are_allowed_values rules ws) are in
    let both = and_parts (is_allowed_value (value_rule_of_letter rules w.letter) w.text) (list_all (may_both_be_given rules w) ws) parts.0 in
    let last : list_all (may_both_be_given rules w) (option_value_from_place_letter_and_text place rule.letter text ∷ []) ≡ true = and_from (may_both_be_given rules w (option_value_from_place_letter_and_text place rule.letter text)) true (apart_by rules rule w text place own first.0 others.0) refl in
    let all : list_all (may_both_be_given rules w) (ws ++ (option_value_from_place_letter_and_text place rule.letter text ∷ [])) ≡ true = list_all-append (may_both_be_given rules w) ws (option_value_from_place_letter_and_text place rule.letter text ∷ []) ∙ and_from (list_all (may_both_be_given rules w) ws) _ both.1 last in
    and_from (is_allowed_value (value_rule_of_letter rules w.letter) w.text && list_all (may_both_be_given rules w) (ws ++ (option_value_from_place_letter_and_text place rule.letter text ∷ []))) _
    (and_from (is_allowed_value (value_rule_of_letter rules w.letter) w.text) _ both.0 all)
    (values_push rules rule text place ws own good first.1 others.1 parts.1)

-- an option that awaits its value is the applet's, and may stand
abbrev pub IsAwaited : Applet → List OptionValue → Option ValueRule → Type 0
IsAwaited applet values None = Unit {0}
IsAwaited applet values (Some rule) = (value_rule_of_letter (value_rules applet) rule.letter ≡ Some rule) × (is_single_and_given rule values ≡ false)

pub record IsGood (applet : Applet) (state : OptionState) : Type 0 where
  pub flags : may_have_flags applet state.flags ≡ true
  pub values : are_allowed_values (value_rules applet) state.values ≡ true
  pub awaiting : IsAwaited applet state.values state.awaiting

pub value_good : (applet : Applet) (state more : OptionState) (place : ℕ) (text : List ℕ) (rule : ValueRule) → IsGood applet state → value_rule_of_letter (value_rules applet) rule.letter ≡ Some rule → is_single_and_given rule state.values ≡ false → with_option_value state place text rule ≡ Some more → IsGood applet more
value_good applet state more place text rule good own spent w =
    elim (is_value_of_kind rule.kind text) as (λ b. is_value_of_kind rule.kind text ≡ b → (if b && not (is_excluded_by_earlier_value rule text state.values) then Some (option_state_from_parts state.flags (state.values ++ (option_value_from_place_letter_and_text place rule.letter text ∷ [])) None) else None) ≡ Some more → IsGood applet more) [
      | false ↦ λ v (h : None ≡ Some more). absurd (none-some more h)
      | true ↦ λ v. elim (is_excluded_by_earlier_value rule text state.values) as (λ b. is_excluded_by_earlier_value rule text state.values ≡ b → (if not b then Some (option_state_from_parts state.flags (state.values ++ (option_value_from_place_letter_and_text place rule.letter text ∷ [])) None) else None) ≡ Some more → IsGood applet more) [
        | true ↦ λ x (h : None ≡ Some more). absurd (none-some more h)
        | false ↦ λ x h. subst (λ (g : OptionState). IsGood applet g) (same_Some _ more h) (record {
          flags = good.flags;
          values = values_push (value_rules applet) rule text place state.values own v spent x good.values;
          awaiting = tt;
        })
      ] refl
    ] refl w

pub rule_good : (applet : Applet) (state more : OptionState) (place : ℕ) (held : Option (List ℕ)) (rule : ValueRule) → IsGood applet state → value_rule_of_letter (value_rules applet) rule.letter ≡ Some rule → with_value_option state place held rule ≡ Some more → IsGood applet more
rule_good applet state more place held rule good own w =
    elim (is_single_and_given rule state.values) as (λ b. is_single_and_given rule state.values ≡ b → (if b then None else with_value_or_awaited state place rule held) ≡ Some more → IsGood applet more) [
      | true ↦ λ s (h : None ≡ Some more). absurd (none-some more h)
      | false ↦ λ s h. by_held held s h
    ] refl w
  where
    by_held : (o : Option (List ℕ)) → is_single_and_given rule state.values ≡ false → with_value_or_awaited state place rule o ≡ Some more → IsGood applet more
    by_held None s h = subst (λ (g : OptionState). IsGood applet g) (same_Some (option_state_from_parts state.flags state.values (Some rule)) more h) (record { flags = good.flags; values = good.values; awaiting = (own, s) })
    by_held (Some text) s h = value_good applet state more place text rule good own s h

pub flags_good : (applet : Applet) (state more : OptionState) (flags : Option Flags) → IsGood applet state → pass_or_none (may_have_flags applet) flags ≡ true → with_flags_if_some state flags ≡ Some more → IsGood applet more
flags_good applet state more None good p w = absurd (none-some more w)
flags_good applet state more (Some flags) good p w =
    subst (λ (g : OptionState). IsGood applet g) (same_Some (option_state_from_parts flags state.values state.awaiting) more w) (record { flags = p; values = good.values; awaiting = good.awaiting })

pub meaning_good : (applet : Applet) (state more : OptionState) (place : ℕ) (held : Option (List ℕ)) (meaning : Meaning) → IsGood applet state → IsOwn applet meaning → pass_or_none (may_have_flags applet) (flags_with_meaning_if_one_command_kind state.flags meaning) ≡ true → state_with_meaning state place held meaning ≡ Some more → IsGood applet more
meaning_good applet state more place held (Value rule) good own p w = rule_good applet state more place held rule good own w
meaning_good applet state more place (Some text) (Plain flag) good own p w = absurd (none-some more w)
meaning_good applet state more place (Some text) (Kind flag) good own p w = absurd (none-some more w)
meaning_good applet state more place None (Plain flag) good own p w = flags_good applet state more (flags_with_meaning_if_one_command_kind state.flags (Plain flag)) good p w
meaning_good applet state more place None (Kind flag) good own p w = flags_good applet state more (flags_with_meaning_if_one_command_kind state.flags (Kind flag)) good p w

pub spelled_good : (applet : Applet) (state more : OptionState) (place : ℕ) (word : List ℕ) → IsGood applet state → with_option_word (options_of applet) state place word ≡ Some more → IsGood applet more
spelled_good applet state more place word good w =
    option_and_then_some (λ (e : OptionSpec). state_with_meaning state place (value_in_long_or_short_option_word word) e.meaning) (option_of_word (options_of applet) (option_word_without_value word)) more w
    (λ found is made. meaning_good applet state more place (value_in_long_or_short_option_word word) found.meaning good
    (found_own applet (options_of applet) (option_word_without_value word) found (all_own applet) is)
    (find_passes (λ x. pass_or_none (may_have_flags applet) (flags_with_option_if_one_command_kind state.flags x)) (λ (x : OptionSpec). bytes_eq x.long (option_word_without_value word) || bytes_eq x.short (option_word_without_value word)) (options_of applet) found (options_kept applet state.flags good.flags) is)
    made)

pub word_good : (applet : Applet) (state more : OptionState) (place : ℕ) (word : List ℕ) → IsGood applet state → with_option_or_value_word (options_of applet) state place word ≡ Some more → IsGood applet more
word_good applet state more place word good w = by_rule state.awaiting refl w
  where
    by_rule : (rule : Option ValueRule) → state.awaiting ≡ rule → with_word_as_option_or_value (options_of applet) state place word rule ≡ Some more → IsGood applet more
    by_rule None a h = spelled_good applet state more place word good h
    by_rule (Some rule) a h =
        let awaited : IsAwaited applet state.values (Some rule) = subst (λ o. IsAwaited applet state.values o) a good.awaiting in
        value_good applet state more place word rule good awaited.0 awaited.1 h

pub reading_good : (applet : Applet) (state : OptionState) (place : ℕ) (words : List (List ℕ)) → IsGood applet state → IsGood applet (reading_of_words_from_place (options_of applet) state place words).state
reading_good applet state place [] good = good
reading_good applet state place (word ∷ words) good =
    elim (is_option_or_value state word) as (λ b. IsGood applet (if b then or_stop_at_unread_word state place (λ more. reading_of_words_from_place (options_of applet) more (place + 1) words) (with_option_or_value_word (options_of applet) state place word) else if is_double_dash word then words_reading_from_parts state (words_as_operands_from_place (place + 1) words) None else with_operand_in_front (operand_at place word) (reading_of_words_from_place (options_of applet) state (place + 1) words)).state) [
      | true ↦ elim (with_option_or_value_word (options_of applet) state place word) as (λ o. with_option_or_value_word (options_of applet) state place word ≡ o → IsGood applet (or_stop_at_unread_word state place (λ more. reading_of_words_from_place (options_of applet) more (place + 1) words) o).state) [
        | None ↦ λ w. good
        | Some more ↦ λ w. reading_good applet more (place + 1) words (word_good applet state more place word good w)
      ] refl
      | false ↦ elim (is_double_dash word) as (λ b. IsGood applet (if b then words_reading_from_parts state (words_as_operands_from_place (place + 1) words) None else with_operand_in_front (operand_at place word) (reading_of_words_from_place (options_of applet) state (place + 1) words)).state) [
        | true ↦ good
        | false ↦ reading_good applet state (place + 1) words good
      ]
    ]

-- what is read behind the applet
pub from_good : (start : Start) (behind : ℕ) (words : List (List ℕ)) → IsPlain start behind → IsGood start.applet (reading_of_rest_of_command_words start words).state
unfolding reading_of_rest_of_command_words
from_good start behind words p =
    elim start.ended as (λ b. IsGood start.applet (if b then words_reading_from_parts (option_state_at_start start.flags) (words_as_operands_from_place (start.read + 1) (drop start.read words)) None else reading_of_words_from_place (options_of start.applet) (option_state_at_start start.flags) (start.read + 1) (drop start.read words)).state) [
      | true ↦ first
      | false ↦ reading_good start.applet (option_state_at_start start.flags) (start.read + 1) (drop start.read words) first
    ]
  where
    first : IsGood start.applet (option_state_at_start start.flags)
    first = record {
      flags = p.flags;
      values = refl;
      awaiting = tt;
    }

pub from_kept : (start : Start) (behind : ℕ) (words : List (List ℕ)) → IsPlain start behind → IsSoundReading start.applet (reading_of_rest_of_command_words start words)
from_kept start behind words p = let good = from_good start behind words p in (good.flags, good.values)
