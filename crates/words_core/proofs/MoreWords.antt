-- What more words behind others change: operands are added, and the rule of the operands stays.
use Rattle.std.proofs.Common.{Bool, List, None, Option, Some, [], ap, arith, drop, false, length, not, refl, subst, suc, sym, true, zero, ℕ, ◌++◌, ◌+◌, ◌∙◌, ◌∷◌, ◌≡◌, ◌≤◌, if◌then◌else◌}
use Rattle.std.specs.List.{list_all}
use Rattle.std.specs.Prelude.{◌&&◌, ◌||◌}
use Rattle.std.specs.Str.{bytes_eq}
use Rattle.std.proofs.lemmas.Bool.{and_from, and_parts, false≢true, true≢false}
use Rattle.std.proofs.lemmas.Option.{none-some, option_and_then_some, same_Some}
use Rattle.command_core.specs.declared.command.Applet.{Applet}
use Rattle.command_core.specs.declared.command.Applet.TheVariants.{Info, Version}
use Rattle.command_core.specs.declared.command.Flag.{Flag}
use Rattle.command_core.specs.declared.command.Flag.TheVariants.{AllowUntrusted, Check, NoScripts, Test}
use Rattle.command_core.specs.declared.command.Flags.{Flags}
use Rattle.command_core.specs.declared.operands.Operand.{Operand}
use Rattle.command_core.specs.declared.operands.OperandKind.TheVariants.{Any, PackageName, Path}
use Rattle.command_core.specs.declared.operands.OperandRule.{OperandRule}
use Rattle.command_core.specs.declared.values.ValueRule.{ValueRule}
use Rattle.command_core.specs.Applets.{info_operand_rule, operand_rule_if_needed_kind_flag_given, version_operand_rule}
use Rattle.command_core.specs.Flags.{has_flag, has_command_kind_flag, with_flag}
use Rattle.command_core.specs.Operands.{at_least, exactly, place_of_first_refused_operand, operand_at, takes}
use Rattle.command_core.specs.Values.{is_single_and_given}
use Rattle.words_core.specs.declared.options.Meaning.{Meaning}
use Rattle.words_core.specs.declared.options.Meaning.TheVariants.{Flag as Plain, Kind, Value}
use Rattle.words_core.specs.declared.reading.OptionState.{OptionState}
use Rattle.words_core.specs.Grammar.{value_in_long_or_short_option_word, is_double_dash, is_option_or_value, words_as_operands_from_place, option_word_without_value, reading_of_words_from_place, or_stop_at_unread_word, words_reading_from_parts, option_state_from_parts, with_flags_if_some, with_value_or_awaited, flags_with_meaning_if_one_command_kind, state_with_meaning, with_operand_in_front, flags_with_option_if_one_command_kind, with_option_or_value_word, with_word_as_option_or_value}
use Rattle.words_core.specs.Options.{OptionSpec, common_options, option_of_word, options_of}
use Rattle.words_core.proofs.KindsKept.{all_from, all_weaken, find_passes, pass_or_none, same_with}
use Rattle.words_core.proofs.LinesRead.{value_says}

pub operands_append : (place : ℕ) (words more : List (List ℕ)) → words_as_operands_from_place place (words ++ more) ≡ words_as_operands_from_place place words ++ words_as_operands_from_place (place + length words) more
operands_append place [] more = ap (λ n. words_as_operands_from_place n more) (omega arith)
operands_append place (word ∷ words) more =
    ap (λ os. operand_at place word ∷ os) (operands_append (place + 1) words more ∙ ap (λ n. words_as_operands_from_place (place + 1) words ++ words_as_operands_from_place n more) (omega arith))

pub drop_append : (count : ℕ) (words more : List (List ℕ)) → count ≤ length words → drop count (words ++ more) ≡ drop count words ++ more
drop_append zero words more l = refl
drop_append (suc count) [] more l = absurd (omega (arith, l))
drop_append (suc count) (word ∷ words) more l = drop_append count words more (omega (arith, l))

pub refused_append : (rule : OperandRule) (before place : ℕ) (operands more : List Operand) → place_of_first_refused_operand rule before operands ≡ Some place → place_of_first_refused_operand rule before (operands ++ more) ≡ Some place
refused_append rule before place [] more h = absurd (none-some place h)
refused_append rule before place (o ∷ os) more h =
    elim (takes rule before o.text) as (λ b. (if b then place_of_first_refused_operand rule (before + 1) os else Some o.place) ≡ Some place → (if b then place_of_first_refused_operand rule (before + 1) (os ++ more) else Some o.place) ≡ Some place) [
      | true ↦ λ (later : place_of_first_refused_operand rule (before + 1) os ≡ Some place). refused_append rule (before + 1) place os more later
      | false ↦ λ (here : Some o.place ≡ Some place). here
    ] h

-- a kind that was read stays the kind
tested_with : (flags : Flags) (g : Flag) → flags.test ≡ true → (with_flag g flags).test ≡ true
tested_with flags Test h = refl
tested_with flags g h = h

pub tested : (flags : Flags) (meaning : Meaning) → flags.test ≡ true → pass_or_none (λ (g : Flags). g.test) (flags_with_meaning_if_one_command_kind flags meaning) ≡ true
tested flags (Value rule) h = refl
tested flags (Plain g) h = tested_with flags g h
tested flags (Kind g) h =
    elim (has_command_kind_flag flags && not (has_flag g flags)) as (λ b. pass_or_none (λ (f : Flags). f.test) (if b then None else Some (with_flag g flags)) ≡ true) [
      | true ↦ refl
      | false ↦ tested_with flags g h
    ]

abbrev is_test : Flag → Bool
is_test Test = true
is_test flag = false

abbrev is_plain_test : Meaning → Bool
is_plain_test (Plain flag) = is_test flag
is_plain_test meaning = false

-- whether texts are checked, and not compared
abbrev checks : Flags → Bool
checks flags = not flags.test && flags.check

checks_with : (flags : Flags) (g : Flag) → is_test g ≡ false → checks flags ≡ true → checks (with_flag g flags) ≡ true
checks_with flags Test k h = absurd (true≢false k)
checks_with flags Check k h = (let parts = and_parts (not flags.test) flags.check h in and_from (not flags.test) true parts.0 refl)
checks_with flags g k h = h

checks_kind : (flags : Flags) → checks flags ≡ true → has_command_kind_flag flags ≡ true
checks_kind flags h =
    let check : flags.check ≡ true = (and_parts (not flags.test) flags.check h).1 in
    or_last flags.installed _ (or_last flags.contents _ (or_last flags.depends _ (or_last flags.who_owns _ (or_last flags.test _ (rw check refl)))))
  where
    or_last : (b c : Bool) → c ≡ true → (b || c) ≡ true
    or_last true c h = refl
    or_last false c h = h

version_plain : list_all (λ (o : OptionSpec). not (is_plain_test o.meaning)) (options_of Version) ≡ true
unfolding common_options options_of
version_plain = refl

all_checked : (flags : Flags) → checks flags ≡ true → list_all (λ o. pass_or_none checks (flags_with_option_if_one_command_kind flags o)) (options_of Version) ≡ true
all_checked flags h =
    all_weaken (λ (o : OptionSpec). not (is_plain_test o.meaning)) (λ o. pass_or_none checks (flags_with_option_if_one_command_kind flags o)) (options_of Version)
    (λ o p. checked_by o.meaning p) version_plain
  where
    no_test : (b : Bool) → not b ≡ true → b ≡ false
    no_test true h = sym h
    no_test false h = refl

    checked_kind : (g : Flag) → pass_or_none checks (flags_with_meaning_if_one_command_kind flags (Kind g)) ≡ true
    checked_kind g = rw (checks_kind flags h) (elim (has_flag g flags) as (λ b. has_flag g flags ≡ b → pass_or_none checks (if not b then None else Some (with_flag g flags)) ≡ true) [
      | true ↦ λ e. ap checks (same_with flags g e) ∙ h
      | false ↦ λ e. refl
    ] refl)

    checked_by : (meaning : Meaning) → not (is_plain_test meaning) ≡ true → pass_or_none checks (flags_with_meaning_if_one_command_kind flags meaning) ≡ true
    checked_by (Value rule) p = refl
    checked_by (Plain g) p = checks_with flags g (no_test (is_test g) p) h
    checked_by (Kind g) p = checked_kind g

-- flags pass a test behind a word that was taken, where they do with each option
abbrev pub IsPassed : (Flags → Bool) → OptionState → Type 0
IsPassed test state = test state.flags ≡ true

pub held_passes : (test : Flags → Bool) (state more : OptionState) (place : ℕ) (held : Option (List ℕ)) (rule : ValueRule) → test state.flags ≡ true → with_value_or_awaited state place rule held ≡ Some more → IsPassed test more
held_passes test state more place None rule p w = subst (λ (g : OptionState). IsPassed test g) (same_Some (option_state_from_parts state.flags state.values (Some rule)) more w) p
held_passes test state more place (Some text) rule p w = subst (λ (g : OptionState). IsPassed test g) (value_says state more place text rule w) p

pub flags_pass : (test : Flags → Bool) (state more : OptionState) (flags : Option Flags) → pass_or_none test flags ≡ true → with_flags_if_some state flags ≡ Some more → IsPassed test more
flags_pass test state more None h w = absurd (none-some more w)
flags_pass test state more (Some flags) h w = subst (λ (g : OptionState). IsPassed test g) (same_Some (option_state_from_parts flags state.values state.awaiting) more w) h

pub meaning_passes : (test : Flags → Bool) (state more : OptionState) (place : ℕ) (held : Option (List ℕ)) (meaning : Meaning) → test state.flags ≡ true → pass_or_none test (flags_with_meaning_if_one_command_kind state.flags meaning) ≡ true → state_with_meaning state place held meaning ≡ Some more → IsPassed test more
meaning_passes test state more place held (Value rule) p h w =
    elim (is_single_and_given rule state.values) as (λ b. (if b then None else with_value_or_awaited state place rule held) ≡ Some more → IsPassed test more) [
      | true ↦ λ (none : None ≡ Some more). absurd (none-some more none)
      | false ↦ λ some. held_passes test state more place held rule p some
    ] w
meaning_passes test state more place (Some text) (Plain flag) p h w = absurd (none-some more w)
meaning_passes test state more place (Some text) (Kind flag) p h w = absurd (none-some more w)
meaning_passes test state more place None (Plain flag) p h w = flags_pass test state more (flags_with_meaning_if_one_command_kind state.flags (Plain flag)) h w
meaning_passes test state more place None (Kind flag) p h w = flags_pass test state more (flags_with_meaning_if_one_command_kind state.flags (Kind flag)) h w

pub word_passes : (test : Flags → Bool) (options : List OptionSpec) (state more : OptionState) (place : ℕ) (word : List ℕ) → test state.flags ≡ true → list_all (λ e. pass_or_none test (flags_with_option_if_one_command_kind state.flags e)) options ≡ true → with_option_or_value_word options state place word ≡ Some more → IsPassed test more
word_passes test options state more place word p each w = by_rule state.awaiting w
  where
    by_rule : (rule : Option ValueRule) → with_word_as_option_or_value options state place word rule ≡ Some more → IsPassed test more
    by_rule (Some rule) h = subst (λ (g : OptionState). IsPassed test g) (value_says state more place word rule h) p
    by_rule None h =
        option_and_then_some (λ (e : OptionSpec). state_with_meaning state place (value_in_long_or_short_option_word word) e.meaning) (option_of_word options (option_word_without_value word)) more h
        (λ found is made. meaning_passes test state more place (value_in_long_or_short_option_word word) found.meaning p
        (find_passes (λ x. pass_or_none test (flags_with_option_if_one_command_kind state.flags x)) (λ (x : OptionSpec). bytes_eq x.long (option_word_without_value word) || bytes_eq x.short (option_word_without_value word)) options found each is) made)

version_rule : (state more : OptionState) (place : ℕ) (word : List ℕ) (rule : OperandRule) → with_option_or_value_word (options_of Version) state place word ≡ Some more → version_operand_rule state.flags ≡ Some rule → version_operand_rule more.flags ≡ Some rule
version_rule state more place word rule w r = by_test state.flags.test refl state.flags.check refl r
  where
    no_test : (b : Bool) → not b ≡ true → b ≡ false
    no_test true h = sym h
    no_test false h = refl

    by_test : (t : Bool) → state.flags.test ≡ t → (c : Bool) → state.flags.check ≡ c → (if t then Some (exactly 2 Any) else if c then Some (at_least 1 Any) else None) ≡ Some rule → version_operand_rule more.flags ≡ Some rule
    by_test true t c e r =
        let is : more.flags.test ≡ true = word_passes (λ (g : Flags). g.test) (options_of Version) state more place word t (all_from (λ o. pass_or_none (λ (g : Flags). g.test) (flags_with_option_if_one_command_kind state.flags o)) (options_of Version) (λ o. tested state.flags o.meaning t)) w in
        rw is r
    by_test false t true e r =
        let now : checks state.flags ≡ true = rw t e in
        let both = and_parts (not more.flags.test) more.flags.check (word_passes checks (options_of Version) state more place word now (all_checked state.flags now) w) in
        rw (no_test more.flags.test both.0) (rw both.1 r)
    by_test false t false e r = absurd (none-some rule r)

-- ---- where a kind of `info` was read, no other is taken

abbrev is_common_or_kind : Meaning → Bool
is_common_or_kind (Plain AllowUntrusted) = true
is_common_or_kind (Plain NoScripts) = true
is_common_or_kind (Kind flag) = true
is_common_or_kind meaning = false

info_common : list_all (λ (o : OptionSpec). is_common_or_kind o.meaning) (options_of Info) ≡ true
unfolding common_options options_of
info_common = refl

info_passes : (test : Flags → Bool) (flags : Flags) → has_command_kind_flag flags ≡ true → test flags ≡ true → test (with_flag AllowUntrusted flags) ≡ true → test (with_flag NoScripts flags) ≡ true → list_all (λ o. pass_or_none test (flags_with_option_if_one_command_kind flags o)) (options_of Info) ≡ true
info_passes test flags k h u n =
    all_weaken (λ (o : OptionSpec). is_common_or_kind o.meaning) (λ o. pass_or_none test (flags_with_option_if_one_command_kind flags o)) (options_of Info)
    (λ o p. by_meaning o.meaning p) info_common
  where
    by_kind : (g : Flag) → pass_or_none test (flags_with_meaning_if_one_command_kind flags (Kind g)) ≡ true
    by_kind g = rw k (elim (has_flag g flags) as (λ b. has_flag g flags ≡ b → pass_or_none test (if not b then None else Some (with_flag g flags)) ≡ true) [
      | true ↦ λ e. ap test (same_with flags g e) ∙ h
      | false ↦ λ e. refl
    ] refl)

    by_meaning : (meaning : Meaning) → is_common_or_kind meaning ≡ true → pass_or_none test (flags_with_meaning_if_one_command_kind flags meaning) ≡ true
    by_meaning (Plain AllowUntrusted) p = u
    by_meaning (Plain NoScripts) p = n
    by_meaning (Kind g) p = by_kind g
    by_meaning meaning p = absurd (false≢true p)

abbrev same_bool : Bool → Bool → Bool
same_bool true b = b
same_bool false b = not b

same_itself : (b : Bool) → same_bool b b ≡ true
same_itself true = refl
same_itself false = refl

same_is : (a b : Bool) → same_bool a b ≡ true → b ≡ a
same_is true b h = h
same_is false true h = absurd (false≢true h)
same_is false false h = refl

-- whether one of the kinds that take packages was read
abbrev takes_packages : Flags → Bool
takes_packages flags = flags.installed || flags.contents || flags.depends

abbrev is_of_kinds : Bool → Bool → Flags → Bool
is_of_kinds owns packages flags = same_bool owns flags.who_owns && same_bool packages (takes_packages flags)

abbrev info_rule_by : Bool → Bool → OperandRule
info_rule_by owns packages = if owns then exactly 1 Path else if packages then at_least 1 PackageName else at_least 0 PackageName

info_rule : (state more : OptionState) (place : ℕ) (word : List ℕ) → has_command_kind_flag state.flags ≡ true → with_option_or_value_word (options_of Info) state place word ≡ Some more → info_operand_rule more.flags ≡ info_operand_rule state.flags
info_rule state more place word k w =
    let owns : Bool = state.flags.who_owns in
    let packages : Bool = takes_packages state.flags in
    let now : is_of_kinds owns packages state.flags ≡ true = and_from (same_bool owns owns) (same_bool packages packages) (same_itself owns) (same_itself packages) in
    let both = and_parts (same_bool owns more.flags.who_owns) (same_bool packages (takes_packages more.flags))
    (word_passes (is_of_kinds owns packages) (options_of Info) state more place word now (info_passes (is_of_kinds owns packages) state.flags k now now now) w) in
    ap (λ b. info_rule_by b (takes_packages more.flags)) (same_is owns more.flags.who_owns both.0)
    ∙ ap (λ b. info_rule_by owns b) (same_is packages (takes_packages more.flags) both.1)

-- ---- the rule of the operands stays, whatever options follow

-- it does where `info` has its kind; of another applet always
abbrev pub keeps_rule : Applet → Flags → Bool
keeps_rule Info flags = has_command_kind_flag flags
keeps_rule applet flags = true

rule_kept : (applet : Applet) (state more : OptionState) (place : ℕ) (word : List ℕ) (rule : OperandRule) → keeps_rule applet state.flags ≡ true → with_option_or_value_word (options_of applet) state place word ≡ Some more → operand_rule_if_needed_kind_flag_given applet state.flags ≡ Some rule → operand_rule_if_needed_kind_flag_given applet more.flags ≡ Some rule
rule_kept Info state more place word rule k w r = ap Some (info_rule state more place word k w) ∙ r
rule_kept Version state more place word rule k w r = version_rule state more place word rule w r
rule_kept applet state more place word rule k w r = r

kept_on : (applet : Applet) (state more : OptionState) (place : ℕ) (word : List ℕ) → keeps_rule applet state.flags ≡ true → with_option_or_value_word (options_of applet) state place word ≡ Some more → keeps_rule applet more.flags ≡ true
kept_on Info state more place word k w = word_passes has_command_kind_flag (options_of Info) state more place word k (info_passes has_command_kind_flag state.flags k k k k) w
kept_on applet state more place word k w = refl

pub rule_stays : (applet : Applet) (state : OptionState) (place : ℕ) (words : List (List ℕ)) (rule : OperandRule) → keeps_rule applet state.flags ≡ true → operand_rule_if_needed_kind_flag_given applet state.flags ≡ Some rule → operand_rule_if_needed_kind_flag_given applet (reading_of_words_from_place (options_of applet) state place words).state.flags ≡ Some rule
rule_stays applet state place [] rule k r = r
rule_stays applet state place (word ∷ words) rule k r =
    elim (is_option_or_value state word) as (λ b. operand_rule_if_needed_kind_flag_given applet (if b then or_stop_at_unread_word state place (λ m. reading_of_words_from_place (options_of applet) m (place + 1) words) (with_option_or_value_word (options_of applet) state place word) else if is_double_dash word then words_reading_from_parts state (words_as_operands_from_place (place + 1) words) None else with_operand_in_front (operand_at place word) (reading_of_words_from_place (options_of applet) state (place + 1) words)).state.flags ≡ Some rule) [
      | true ↦ elim (with_option_or_value_word (options_of applet) state place word) as (λ w. with_option_or_value_word (options_of applet) state place word ≡ w → operand_rule_if_needed_kind_flag_given applet (or_stop_at_unread_word state place (λ m. reading_of_words_from_place (options_of applet) m (place + 1) words) w).state.flags ≡ Some rule) [
        | None ↦ λ w. r
        | Some g ↦ λ w. rule_stays applet g (place + 1) words rule (kept_on applet state g place word k w) (rule_kept applet state g place word rule k w r)
      ] refl
      | false ↦ elim (is_double_dash word) as (λ b. operand_rule_if_needed_kind_flag_given applet (if b then words_reading_from_parts state (words_as_operands_from_place (place + 1) words) None else with_operand_in_front (operand_at place word) (reading_of_words_from_place (options_of applet) state (place + 1) words)).state.flags ≡ Some rule) [
        | true ↦ r
        | false ↦ rule_stays applet state (place + 1) words rule k r
      ]
    ]
