-- What is read is a command.
use Rattle.std.proofs.Common.{List, None, Option, Some, [], ap, arith, false, length, not, refl, sym, true, ℕ, ◌+◌, ◌<◌, ◌∙◌, ◌∷◌, ◌≡◌, ◌≤◌, if◌then◌else◌}
use Rattle.std.specs.List.{list_all}
use Rattle.std.specs.Prelude.{nat_le, ◌&&◌}
use Rattle.std.proofs.lemmas.Bool.{and_from, and_parts, le-leb, ltb-true}
use Rattle.std.proofs.lemmas.Option.{none-some}
use Rattle.command_core.specs.declared.command.Applet.{Applet}
use Rattle.command_core.specs.declared.command.Flags.{Flags}
use Rattle.command_core.specs.declared.operands.Operand.{Operand}
use Rattle.command_core.specs.declared.operands.OperandRule.{OperandRule}
use Rattle.command_core.specs.declared.values.OptionValue.{OptionValue}
use Rattle.command_core.specs.Applets.{required_option_letter, operand_rule_if_needed_kind_flag_given}
use Rattle.command_core.specs.Sound.{may_have_flags, value_rules, is_valid_command, are_allowed_operands, is_count_within_limit, are_allowed_values}
use Rattle.command_core.specs.Command.{command_from_parts_and_end_place}
use Rattle.command_core.specs.Operands.{place_of_first_refused_operand, allows_one_more_operand, is_operand_of_kind, takes}
use Rattle.command_core.specs.Values.{is_given, is_required_value_missing}

-- operands that are taken are of the rule's kind
pub all_of_kind : (rule : OperandRule) (before : ℕ) (operands : List Operand) → place_of_first_refused_operand rule before operands ≡ None → list_all (λ (o : Operand). is_operand_of_kind rule.kind o.text) operands ≡ true
all_of_kind rule before [] h = refl
all_of_kind rule before (o ∷ os) h =
    elim (takes rule before o.text) as (λ b. takes rule before o.text ≡ b → (if b then place_of_first_refused_operand rule (before + 1) os else Some o.place) ≡ None → list_all (λ (x : Operand). is_operand_of_kind rule.kind x.text) (o ∷ os) ≡ true) [
      | true ↦ λ t (rest : place_of_first_refused_operand rule (before + 1) os ≡ None).
          and_from (is_operand_of_kind rule.kind o.text) _ (and_parts (allows_one_more_operand rule.most before) (is_operand_of_kind rule.kind o.text) t).1 (all_of_kind rule (before + 1) os rest)
      | false ↦ λ t (here : Some o.place ≡ None). absurd (none-some o.place (sym here))
    ] refl h

-- there are no more operands than are taken
pub no_more : (rule : OperandRule) (most before : ℕ) (operands : List Operand) → rule.most ≡ Some most → before ≤ most → place_of_first_refused_operand rule before operands ≡ None → before + length operands ≤ most
no_more rule most before [] r l h = omega arith
no_more rule most before (o ∷ os) r l h =
    elim (takes rule before o.text) as (λ b. takes rule before o.text ≡ b → (if b then place_of_first_refused_operand rule (before + 1) os else Some o.place) ≡ None → before + length (o ∷ os) ≤ most) [
      | true ↦ λ t (rest : place_of_first_refused_operand rule (before + 1) os ≡ None).
          let room : allows_one_more_operand (Some most) before ≡ true = ap (λ m. allows_one_more_operand m before) (sym r) ∙ (and_parts (allows_one_more_operand rule.most before) (is_operand_of_kind rule.kind o.text) t).0 in
          let below : before < most = ltb-true before most room in
          let more : before + 1 ≤ most = omega arith in
          let fits : before + 1 + length os ≤ most = no_more rule most (before + 1) os r more rest in
          omega arith
      | false ↦ λ t (here : Some o.place ≡ None). absurd (none-some o.place (sym here))
    ] refl h

-- .. as many as may be
at_most_by : (most : Option ℕ) (count : ℕ) → ((m : ℕ) → most ≡ Some m → count ≤ m) → is_count_within_limit most count ≡ true
at_most_by None count h = refl
at_most_by (Some most) count h = le-leb count most (h most refl)

pub read_needed : (letter : ℕ) (values : List OptionValue) → is_required_value_missing (Some letter) values ≡ false → is_given letter values ≡ true
read_needed letter values h =
    elim (is_given letter values) as (λ b. not b ≡ false → b ≡ true) [
      | true ↦ λ n. refl
      | false ↦ λ n. sym n
    ] h

-- operands that are taken, as many as are wanted, are an applet's
pub operands_sound : (rule : OperandRule) (operands : List Operand) → place_of_first_refused_operand rule 0 operands ≡ None → rule.least ≤ length operands → are_allowed_operands (Some rule) operands ≡ true
operands_sound rule operands f l =
    and_from (nat_le rule.least (length operands) && is_count_within_limit rule.most (length operands)) _
    (and_from (nat_le rule.least (length operands)) _ (le-leb rule.least (length operands) l)
    (at_most_by rule.most (length operands) (λ m is. (let fits : 0 + length operands ≤ m = no_more rule m 0 operands is (omega arith) f in omega arith))))
    (all_of_kind rule 0 operands f)

-- flags, operands and values that the grammar takes are a command's
pub taken_sound : (applet : Applet) (flags : Flags) (operands : List Operand) (values : List OptionValue) (behind : ℕ) (rule : OperandRule) → may_have_flags applet flags ≡ true → are_allowed_values (value_rules applet) values ≡ true → operand_rule_if_needed_kind_flag_given applet flags ≡ Some rule → place_of_first_refused_operand rule 0 operands ≡ None → rule.least ≤ length operands → is_required_value_missing (required_option_letter applet) values ≡ false → is_valid_command (command_from_parts_and_end_place applet flags operands values behind) ≡ true
taken_sound applet flags operands values behind rule m v r f l n =
    let are : are_allowed_operands (operand_rule_if_needed_kind_flag_given applet flags) operands ≡ true = ap (λ o. are_allowed_operands o operands) r ∙ operands_sound rule operands f l in
    and_from (may_have_flags applet flags && are_allowed_operands (operand_rule_if_needed_kind_flag_given applet flags) operands && are_allowed_values (value_rules applet) values) _
    (and_from (may_have_flags applet flags && are_allowed_operands (operand_rule_if_needed_kind_flag_given applet flags) operands) _
    (and_from (may_have_flags applet flags) _ m are) v) (ap not n)
