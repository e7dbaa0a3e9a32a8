-- A command is judged good.
use Rattle.std.proofs.Common.{List, None, Ok, Option, Some, [], ap, arith, false, length, not, refl, sym, true, ℕ, ◌+◌, ◌∙◌, ◌∷◌, ◌≡◌, ◌≤◌}
use Rattle.std.specs.List.{list_all}
use Rattle.std.specs.Prelude.{nat_le, ◌&&◌}
use Rattle.std.proofs.lemmas.Bool.{and_parts, false≢true, le-ltb, leb-true, lt-ltb, not-true}
use Rattle.command_core.specs.declared.command.Applet.{Applet}
use Rattle.command_core.specs.declared.operands.Operand.{Operand}
use Rattle.command_core.specs.declared.operands.OperandRule.{OperandRule}
use Rattle.command_core.specs.Applets.{required_option_letter, operand_rule_if_needed_kind_flag_given}
use Rattle.command_core.specs.Sound.{may_have_flags, value_rules, is_valid_command, are_allowed_operands, is_count_within_limit, are_allowed_values}
use Rattle.command_core.specs.Command.{CommandLine}
use Rattle.command_core.specs.Operands.{place_of_first_refused_operand, allows_one_more_operand, is_operand_of_kind}
use Rattle.command_core.specs.Values.{is_required_value_missing}
use Rattle.words_core.specs.declared.reading.Reading.{Reading}
use Rattle.words_core.specs.Grammar.{command_of_reading_with_end_place, command_from_end_place_and_reading, lacks_operand_or_kind_flag, place_of_first_operand_refused_by_rule}

-- there is room for one more where as many more fit
pub room_by : (most : Option ℕ) (before more : ℕ) → is_count_within_limit most (before + (more + 1)) ≡ true → allows_one_more_operand most before ≡ true
room_by None before more h = refl
room_by (Some most) before more h = (let fits : before + (more + 1) ≤ most = leb-true (before + (more + 1)) most h in lt-ltb before most (omega arith))

-- operands of the rule's kind, not too many, are taken
pub taken_all : (rule : OperandRule) (before : ℕ) (operands : List Operand) → is_count_within_limit rule.most (before + length operands) ≡ true → list_all (λ (o : Operand). is_operand_of_kind rule.kind o.text) operands ≡ true → place_of_first_refused_operand rule before operands ≡ None
taken_all rule before [] m h = refl
taken_all rule before (o ∷ os) m h =
    let parts = and_parts (is_operand_of_kind rule.kind o.text) (list_all (λ (x : Operand). is_operand_of_kind rule.kind x.text) os) h in
    let here : before + length (o ∷ os) ≡ before + (length os + 1) = omega arith in
    let next : before + length (o ∷ os) ≡ before + 1 + length os = omega arith in
    rw (room_by rule.most before (length os) (ap (is_count_within_limit rule.most) (sym here) ∙ m))
    (rw parts.0 (taken_all rule (before + 1) os (ap (is_count_within_limit rule.most) (sym next) ∙ m) parts.1))

-- the parts of a command
pub record HasParts (c : CommandLine) : Type 0 where
  pub flags : may_have_flags c.applet c.flags ≡ true
  pub operands : are_allowed_operands (operand_rule_if_needed_kind_flag_given c.applet c.flags) c.operands ≡ true
  pub values : are_allowed_values (value_rules c.applet) c.values ≡ true
  pub needed : not (is_required_value_missing (required_option_letter c.applet) c.values) ≡ true

pub has_parts : (c : CommandLine) → is_valid_command c ≡ true → HasParts c
has_parts c h =
    let last = and_parts (may_have_flags c.applet c.flags && are_allowed_operands (operand_rule_if_needed_kind_flag_given c.applet c.flags) c.operands && are_allowed_values (value_rules c.applet) c.values) (not (is_required_value_missing (required_option_letter c.applet) c.values)) h in
    let values = and_parts (may_have_flags c.applet c.flags && are_allowed_operands (operand_rule_if_needed_kind_flag_given c.applet c.flags) c.operands) (are_allowed_values (value_rules c.applet) c.values) last.0 in
    let first = and_parts (may_have_flags c.applet c.flags) (are_allowed_operands (operand_rule_if_needed_kind_flag_given c.applet c.flags) c.operands) values.0 in
    record { flags = first.0; operands = first.1; values = values.1; needed = last.1 }

-- the operands are taken, and none is lacking
pub record AreTaken (rule : Option OperandRule) (operands : List Operand) : Type 0 where
  pub taken : place_of_first_operand_refused_by_rule rule operands ≡ None
  pub enough : lacks_operand_or_kind_flag rule operands ≡ false

pub operands_taken : (rule : Option OperandRule) (operands : List Operand) → are_allowed_operands rule operands ≡ true → AreTaken rule operands
operands_taken None operands h = absurd (false≢true h)
operands_taken (Some rule) operands h =
    let kind = and_parts (nat_le rule.least (length operands) && is_count_within_limit rule.most (length operands)) (list_all (λ (o : Operand). is_operand_of_kind rule.kind o.text) operands) h in
    let count = and_parts (nat_le rule.least (length operands)) (is_count_within_limit rule.most (length operands)) kind.0 in
    let same : length operands ≡ 0 + length operands = omega arith in
    record {
      taken = taken_all rule 0 operands (ap (is_count_within_limit rule.most) (sym same) ∙ count.1) kind.1;
      enough = le-ltb (length operands) rule.least (leb-true rule.least (length operands) count.0);
    }

pub sound_judged : (behind : ℕ) (applet : Applet) (reading : Reading) → reading.unread ≡ None → is_valid_command (command_from_end_place_and_reading behind applet reading) ≡ true → command_of_reading_with_end_place behind applet reading ≡ Ok (command_from_end_place_and_reading behind applet reading)
unfolding command_of_reading_with_end_place
sound_judged behind applet reading u s =
    let parts = has_parts (command_from_end_place_and_reading behind applet reading) s in
    let taken = operands_taken (operand_rule_if_needed_kind_flag_given applet reading.state.flags) reading.operands parts.operands in
    rw taken.taken (rw u (rw taken.enough (rw (not-true (is_required_value_missing (required_option_letter applet) reading.state.values) parts.needed) refl)))
