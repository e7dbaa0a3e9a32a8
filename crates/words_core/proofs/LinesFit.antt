-- Flags and values of options that fit together, one more at a time.
use Rattle.std.proofs.Common.{Bool, List, None, Option, Some, [], ap, false, not, option_and_then, refl, rules, subst, sym, true, ℕ, ◌++◌, ◌∙◌, ◌∷◌, ◌≡◌, if◌then◌else◌}
use Rattle.std.specs.List.{list_all}
use Rattle.std.specs.Option.{option_map}
use Rattle.std.specs.Prelude.{is_some, ◌&&◌, ◌==◌, ◌||◌}
use Rattle.std.proofs.lemmas.Bool.{and_from, and_parts, and_right, eqb-true, false≢true, not-true, or_parts}
use Rattle.std.proofs.lemmas.List.Folds.{list_all-append}
use Rattle.std.proofs.lemmas.Option.{none-some, option_and_then_some, same_Some}
use Rattle.command_core.specs.declared.command.Applet.{Applet}
use Rattle.command_core.specs.declared.command.Flag.{Flag}
use Rattle.command_core.specs.declared.command.Flags.{Flags}
use Rattle.command_core.specs.declared.values.OptionValue.{OptionValue}
use Rattle.command_core.specs.declared.values.ValueRule.{ValueRule}
use Rattle.command_core.specs.Sound.{allowed_flags, may_have_flags, are_flags_allowed, has_at_most_one, may_both_be_given, are_allowed_values, are_exclusive_values, is_allowed_value, value_rule_of_letter}
use Rattle.command_core.specs.Flags.{has_flag, has_command_kind_flag, command_kind_flags, with_flag}
use Rattle.command_core.specs.Values.{excludes, is_excluded_by_earlier_value, is_given, is_single_and_given, is_value_of_kind, option_value_from_place_letter_and_text}
use Rattle.words_core.specs.declared.options.Meaning.{Meaning}
use Rattle.words_core.specs.declared.options.Meaning.TheVariants.{Flag as Plain, Kind, Value}
use Rattle.words_core.specs.declared.reading.OptionState.{OptionState}
use Rattle.words_core.specs.Grammar.{value_in_long_or_short_option_word, option_word_without_value, value_rule_of_meaning, option_state_from_parts, flags_with_meaning_if_one_command_kind, with_option_value}
use Rattle.words_core.specs.Lines.{flags_after, flags_with_held_meaning}
use Rattle.words_core.specs.Options.{OptionSpec, option_of_word, options_of}
use Rattle.words_core.proofs.KindsKept.{all_weaken, has_more, is_kind, is_own_meaning, is_own_option, own_meanings, second_kind, single_less, within_less}

pub same_head : {A : Type 0} (x y : A) (xs ys : List A) → x ∷ xs ≡ y ∷ ys → x ≡ y
same_head x y xs ys e = cc

pub same_tail : {A : Type 0} (x y : A) (xs ys : List A) → x ∷ xs ≡ y ∷ ys → xs ≡ ys
same_tail x y xs ys e = cc

-- flags are an applet's where they are so with one more
pub less_by : (applet : Applet) (flag : Flag) (flags : Flags) → may_have_flags applet (with_flag flag flags) ≡ true → may_have_flags applet flags ≡ true
less_by applet flag flags m =
    let parts = and_parts (are_flags_allowed (allowed_flags applet) (with_flag flag flags)) (has_at_most_one command_kind_flags (with_flag flag flags)) m in
    and_from (are_flags_allowed (allowed_flags applet) flags) (has_at_most_one command_kind_flags flags)
    (within_less (allowed_flags applet) flags flag parts.0)
    (single_less flags (with_flag flag flags) command_kind_flags (has_more flags flag) parts.1)

pub less_with : (applet : Applet) (flags more : Flags) (held : Option (List ℕ)) (meaning : Meaning) → flags_with_held_meaning flags held meaning ≡ Some more → may_have_flags applet more ≡ true → may_have_flags applet flags ≡ true
less_with applet flags more held (Value rule) e m = subst (λ f. may_have_flags applet f ≡ true) (sym (same_Some flags more e)) m
less_with applet flags more (Some text) (Plain flag) e m = absurd (none-some more e)
less_with applet flags more (Some text) (Kind flag) e m = absurd (none-some more e)
less_with applet flags more None (Plain flag) e m = less_by applet flag flags (subst (λ f. may_have_flags applet f ≡ true) (sym (same_Some (with_flag flag flags) more e)) m)
less_with applet flags more None (Kind flag) e m = less_by applet flag flags (subst (λ f. may_have_flags applet f ≡ true) (sym (same_Some (with_flag flag flags) more e)) m)

-- the first of some options that say flags, and the flags behind it
pub record IsFirstOption (options : List OptionSpec) (flags more : Flags) (word : List ℕ) (words : List (List ℕ)) : Type 0 where
  pub entry : OptionSpec
  pub is : option_of_word options (option_word_without_value word) ≡ Some entry
  pub next : Flags
  pub says : flags_with_held_meaning flags (value_in_long_or_short_option_word word) entry.meaning ≡ Some next
  pub rest : flags_after options next words ≡ Some more

pub first_option : (options : List OptionSpec) (flags more : Flags) (word : List ℕ) (words : List (List ℕ)) → flags_after options flags (word ∷ words) ≡ Some more → IsFirstOption options flags more word words
first_option options flags more word words f =
    option_and_then_some (λ (x : OptionSpec). option_and_then (λ m. flags_after options m words) (flags_with_held_meaning flags (value_in_long_or_short_option_word word) x.meaning)) (option_of_word options (option_word_without_value word)) more f
    (λ x is made. option_and_then_some (λ m. flags_after options m words) (flags_with_held_meaning flags (value_in_long_or_short_option_word word) x.meaning) more made
    (λ next says rest. record { entry = x; is = is; next = next; says = says; rest = rest }))

-- .. and where they are so with all that some options say
pub less_kept : (applet : Applet) (options : List OptionSpec) (flags more : Flags) (words : List (List ℕ)) → flags_after options flags words ≡ Some more → may_have_flags applet more ≡ true → may_have_flags applet flags ≡ true
less_kept applet options flags more [] e m = subst (λ f. may_have_flags applet f ≡ true) (sym (same_Some flags more e)) m
less_kept applet options flags more (word ∷ words) e m =
    let first = first_option options flags more word words e in
    less_with applet flags first.next (value_in_long_or_short_option_word word) first.entry.meaning first.says (less_kept applet options first.next more words first.rest m)

-- a kind may stand where the flags with it are the applet's
abbrev pub stands_as : Applet → Flags → Meaning → Bool
stands_as applet flags (Plain flag) = true
stands_as applet flags (Kind flag) = is_some (flags_with_meaning_if_one_command_kind flags (Kind flag)) || not (may_have_flags applet (with_flag flag flags))
stands_as applet flags (Value rule) = true

abbrev pub located : Applet → Flags → OptionSpec → Bool
located applet flags entry = stands_as applet flags entry.meaning

stands_by : (applet : Applet) (flags : Flags) (meaning : Meaning) → is_own_meaning applet meaning ≡ true → stands_as applet flags meaning ≡ true
stands_by applet flags (Plain flag) own = refl
stands_by applet flags (Value rule) own = refl
stands_by applet flags (Kind flag) own =
    let kind : is_kind flag ≡ true = (and_parts (has_flag flag (allowed_flags applet)) (is_kind flag) own).1 in
    elim (has_command_kind_flag flags) as (λ b. has_command_kind_flag flags ≡ b → (is_some (if b && not (has_flag flag flags) then None else Some (with_flag flag flags)) || not (may_have_flags applet (with_flag flag flags))) ≡ true) [
      | false ↦ λ h. refl
      | true ↦ λ h. elim (has_flag flag flags) as (λ b. has_flag flag flags ≡ b → (is_some (if not b then None else Some (with_flag flag flags)) || not (may_have_flags applet (with_flag flag flags))) ≡ true) [
        | true ↦ λ e. refl
        | false ↦ λ e. ap not (and_right (are_flags_allowed (allowed_flags applet) (with_flag flag flags)) (has_at_most_one command_kind_flags (with_flag flag flags)) (second_kind flag flags kind h e))
      ] refl
    ] refl

pub all_stand : (applet : Applet) (flags : Flags) → list_all (located applet flags) (options_of applet) ≡ true
all_stand applet flags =
    all_weaken (is_own_option applet) (located applet flags) (options_of applet) (λ o own. stands_by applet flags o.meaning own) (own_meanings applet)

pub kind_made : (flags : Flags) (flag : Flag) → is_some (flags_with_meaning_if_one_command_kind flags (Kind flag)) ≡ true → flags_with_meaning_if_one_command_kind flags (Kind flag) ≡ Some (with_flag flag flags)
kind_made flags flag h =
    elim (has_command_kind_flag flags && not (has_flag flag flags)) as (λ b. is_some (if b then None else Some (with_flag flag flags)) ≡ true → (if b then None else Some (with_flag flag flags)) ≡ Some (with_flag flag flags)) [
      | true ↦ λ (none : false ≡ true). absurd (false≢true none)
      | false ↦ λ some. refl
    ] h

pub flag_made : (applet : Applet) (flags next : Flags) (meaning : Meaning) → value_rule_of_meaning meaning ≡ None → stands_as applet flags meaning ≡ true → flags_with_held_meaning flags None meaning ≡ Some next → may_have_flags applet next ≡ true → flags_with_meaning_if_one_command_kind flags meaning ≡ Some next
flag_made applet flags next (Plain flag) r s f m = f
flag_made applet flags next (Kind flag) r s f m =
    let own : may_have_flags applet (with_flag flag flags) ≡ true = subst (λ x. may_have_flags applet x ≡ true) (sym (same_Some (with_flag flag flags) next f)) m in
    kind_made flags flag (first (is_some (flags_with_meaning_if_one_command_kind flags (Kind flag))) (may_have_flags applet (with_flag flag flags)) own s) ∙ f
  where
    first : (b : Bool) (c : Bool) → c ≡ true → (b || not c) ≡ true → b ≡ true
    first true c h e = refl
    first false true h e = e
    first false false h e = absurd (false≢true h)
flag_made applet flags next (Value rule) r s f m = absurd (none-some rule (sym r))

-- a value among those of a command: its option was not spent, and it fits
pub record Fits (rule : ValueRule) (text : List ℕ) (before : List OptionValue) : Type 0 where
  pub spent : is_single_and_given rule before ≡ false
  pub good : is_value_of_kind rule.kind text ≡ true
  pub excluded : is_excluded_by_earlier_value rule text before ≡ false

pub apart_back : (rules : List ValueRule) (rule : ValueRule) (w : OptionValue) (text : List ℕ) (place : ℕ) → value_rule_of_letter rules rule.letter ≡ Some rule → may_both_be_given rules w (option_value_from_place_letter_and_text place rule.letter text) ≡ true → ((rule.single && (w.letter == rule.letter)) ≡ false) × (((w.letter == rule.letter) && excludes rule.kind w.text text) ≡ false)
apart_back rules rule w text place own apart =
    elim (w.letter == rule.letter) as (λ b. (w.letter == rule.letter) ≡ b → not (b && are_exclusive_values (value_rule_of_letter rules w.letter) w.text text) ≡ true → ((rule.single && b) ≡ false) × ((b && excludes rule.kind w.text text) ≡ false)) [
      | true ↦ λ e h.
          let found : value_rule_of_letter rules w.letter ≡ Some rule = ap (value_rule_of_letter rules) (eqb-true w.letter rule.letter e) ∙ own in
          let none : are_exclusive_values (Some rule) w.text text ≡ false = ap (λ r. are_exclusive_values r w.text text) (sym found) ∙ not-true (are_exclusive_values (value_rule_of_letter rules w.letter) w.text text) h in
          let both = or_parts rule.single (excludes rule.kind w.text text) none in
          (alone rule.single both.0, both.1)
      | false ↦ λ e h. (and_right rule.single false refl, refl)
    ] refl apart
  where
    alone : (b : Bool) → b ≡ false → (b && true) ≡ false
    alone true h = h
    alone false h = h

pub joined_spent : (a b c : Bool) → (a && b) ≡ false → (a && c) ≡ false → (a && (b || c)) ≡ false
joined_spent false b c x y = refl
joined_spent true true c x y = x
joined_spent true false c x y = y

pub fits_in : (rules : List ValueRule) (rule : ValueRule) (text : List ℕ) (place : ℕ) (before behind : List OptionValue) → value_rule_of_letter rules rule.letter ≡ Some rule → are_allowed_values rules (before ++ (option_value_from_place_letter_and_text place rule.letter text ∷ behind)) ≡ true → Fits rule text before
fits_in rules rule text place [] behind own are =
    let v = option_value_from_place_letter_and_text place rule.letter text in
    let parts = and_parts (is_allowed_value (value_rule_of_letter rules rule.letter) text && list_all (may_both_be_given rules v) behind) (are_allowed_values rules behind) are in
    let good = (and_parts (is_allowed_value (value_rule_of_letter rules rule.letter) text) (list_all (may_both_be_given rules v) behind) parts.0).0 in
    record {
      spent = and_right rule.single false refl;
      good = ap (λ r. is_allowed_value r text) (sym own) ∙ good;
      excluded = refl;
    }
fits_in rules rule text place (w ∷ ws) behind own are =
    let v = option_value_from_place_letter_and_text place rule.letter text in
    let all = ws ++ (v ∷ behind) in
    let parts = and_parts (is_allowed_value (value_rule_of_letter rules w.letter) w.text && list_all (may_both_be_given rules w) all) (are_allowed_values rules all) are in
    let apart = (and_parts (is_allowed_value (value_rule_of_letter rules w.letter) w.text) (list_all (may_both_be_given rules w) all) parts.0).1 in
    let both = and_parts (list_all (may_both_be_given rules w) ws) (list_all (may_both_be_given rules w) (v ∷ behind)) (sym (list_all-append (may_both_be_given rules w) ws (v ∷ behind)) ∙ apart) in
    let here = apart_back rules rule w text place own (and_parts (may_both_be_given rules w v) (list_all (may_both_be_given rules w) behind) both.1).0 in
    let rest = fits_in rules rule text place ws behind own parts.1 in
    record {
      spent = joined_spent rule.single (w.letter == rule.letter) (is_given rule.letter ws) here.0 rest.spent;
      good = rest.good;
      excluded = rw here.1 rest.excluded;
    }

pub value_made : (state : OptionState) (place : ℕ) (text : List ℕ) (rule : ValueRule) → Fits rule text state.values → with_option_value state place text rule ≡ Some (option_state_from_parts state.flags (state.values ++ (option_value_from_place_letter_and_text place rule.letter text ∷ [])) None)
value_made state place text rule fits = rw fits.good (rw fits.excluded refl)

-- values behind others
pub record AreJoined (before all : List OptionValue) (o : Option (List OptionValue)) : Type 0 where
  pub more : List OptionValue
  pub some : o ≡ Some more
  pub same : before ++ more ≡ all

pub joined : (before all : List OptionValue) (o : Option (List OptionValue)) → option_map (λ vs. before ++ vs) o ≡ Some all → AreJoined before all o
joined before all None h = absurd (none-some all h)
joined before all (Some more) h = record { more = more; some = refl; same = same_Some (before ++ more) all h }

pub joined_one : (v : OptionValue) (all : List OptionValue) (o : Option (List OptionValue)) → option_map (λ vs. v ∷ vs) o ≡ Some all → AreJoined (v ∷ []) all o
joined_one v all None h = absurd (none-some all h)
joined_one v all (Some more) h = record { more = more; some = refl; same = same_Some (v ∷ more) all h }
