-- The parts of a command.
use Rattle.std.proofs.Common.{◌≡◌, ℕ, zero, suc, true, false, cond, List, [], ◌∷◌, length, Some, refl, subst}
use Rattle.std.specs.Prelude.{◌&&◌, ◌==◌, not, nat_le}
use Rattle.std.specs.List.{find, list_all, slice_get}
use Rattle.std.proofs.lemmas.Bool.{and_parts, eqb-true}
use Rattle.std.proofs.lemmas.Option.{none-some, same_Some}
use Rattle.command_core.specs.declared.command.Applet.{Applet}
use Rattle.command_core.specs.declared.command.Applet.TheVariants.{Mkpkg, Mkndx}
use Rattle.command_core.specs.declared.operands.Operand.{Operand}
use Rattle.command_core.specs.declared.operands.OperandKind.{OperandKind}
use Rattle.command_core.specs.declared.operands.OperandKind.TheVariants.{File}
use Rattle.command_core.specs.declared.operands.OperandRule.{OperandRule}
use Rattle.command_core.specs.declared.values.OptionValue.{OptionValue}
use Rattle.command_core.specs.declared.values.TheConstants.{FILES, OUTPUT, SCRIPT}
use Rattle.command_core.specs.declared.values.ValueRule.{ValueRule}
use Rattle.command_core.specs.Applets.{required_option_letter, operand_rule_if_needed_kind_flag_given}
use Rattle.command_core.specs.Sound.{may_have_flags, value_rules, IsValidCommand, are_allowed_operands, is_count_within_limit, may_both_be_given, are_allowed_values, is_allowed_value, value_rule_of_letter}
use Rattle.command_core.specs.Command.{CommandLine}
use Rattle.command_core.specs.Files.{is_file_argument, is_file_argument_within_output_length}
use Rattle.command_core.specs.Named.{are_files}
use Rattle.command_core.specs.Operands.{is_operand_of_kind}
use Rattle.command_core.specs.Values.{first_value_with_letter, is_given, is_script_argument, is_required_value_missing}
use Rattle.command_core.proofs.Entries.{found_passes}

pub record HasParts (c : CommandLine) : Type 0 where
  pub flags : may_have_flags c.applet c.flags ≡ true
  pub operands : are_allowed_operands (operand_rule_if_needed_kind_flag_given c.applet c.flags) c.operands ≡ true
  pub values : are_allowed_values (value_rules c.applet) c.values ≡ true
  pub needed : not (is_required_value_missing (required_option_letter c.applet) c.values) ≡ true

pub has_parts : (c : CommandLine) → IsValidCommand c → HasParts c
has_parts c h =
    let last = and_parts (may_have_flags c.applet c.flags && are_allowed_operands (operand_rule_if_needed_kind_flag_given c.applet c.flags) c.operands && are_allowed_values (value_rules c.applet) c.values) (not (is_required_value_missing (required_option_letter c.applet) c.values)) h in
    let values = and_parts (may_have_flags c.applet c.flags && are_allowed_operands (operand_rule_if_needed_kind_flag_given c.applet c.flags) c.operands) (are_allowed_values (value_rules c.applet) c.values) last.0 in
    let first = and_parts (may_have_flags c.applet c.flags) (are_allowed_operands (operand_rule_if_needed_kind_flag_given c.applet c.flags) c.operands) values.0 in
    record { flags = first.0; operands = first.1; values = values.1; needed = last.1 }

pub needed_given : (letter : ℕ) (values : List OptionValue) → not (is_required_value_missing (Some letter) values) ≡ true → is_given letter values ≡ true
needed_given letter values h =
    elim (is_given letter values) as (λ b. not (not b) ≡ true → b ≡ true) [
      | true ↦ λ n. refl
      | false ↦ λ n. n
    ] h

pub files_of_kind : (rule : OperandRule) (operands : List Operand) → are_allowed_operands (Some rule) operands ≡ true → rule.kind ≡ File → are_files operands ≡ true
files_of_kind rule operands h k =
    subst (λ (kind : OperandKind). list_all (λ (o : Operand). is_operand_of_kind kind o.text) operands ≡ true) k
    (and_parts (nat_le rule.least (length operands) && is_count_within_limit rule.most (length operands)) (list_all (λ (o : Operand). is_operand_of_kind rule.kind o.text) operands) h).1

-- ---- values

pub record IsSplit (rules : List ValueRule) (v : OptionValue) (vs : List OptionValue) : Type 0 where
  pub first : is_allowed_value (value_rule_of_letter rules v.letter) v.text ≡ true
  pub rest : are_allowed_values rules vs ≡ true

pub split_values : (rules : List ValueRule) (v : OptionValue) (vs : List OptionValue) → are_allowed_values rules (v ∷ vs) ≡ true → IsSplit rules v vs
split_values rules v vs h =
    let parts = and_parts (is_allowed_value (value_rule_of_letter rules v.letter) v.text && list_all (may_both_be_given rules v) vs) (are_allowed_values rules vs) h in
    record { first = (and_parts (is_allowed_value (value_rule_of_letter rules v.letter) v.text) (list_all (may_both_be_given rules v) vs) parts.0).0; rest = parts.1 }

pub value_at : (rules : List ValueRule) (vs : List OptionValue) (i : ℕ) (v : OptionValue) → are_allowed_values rules vs ≡ true → slice_get vs i ≡ Some v → is_allowed_value (value_rule_of_letter rules v.letter) v.text ≡ true
value_at rules [] i v h at = cc
value_at rules (u ∷ us) zero v h at =
    let same : u ≡ v = cc in subst (λ (w : OptionValue). is_allowed_value (value_rule_of_letter rules w.letter) w.text ≡ true) same (split_values rules u us h).first
value_at rules (u ∷ us) (suc i) v h at = value_at rules us i v (split_values rules u us h).rest at

pub value_found : (rules : List ValueRule) (vs : List OptionValue) (letter : ℕ) (v : OptionValue) → are_allowed_values rules vs ≡ true → first_value_with_letter letter vs ≡ Some v → is_allowed_value (value_rule_of_letter rules letter) v.text ≡ true
value_found rules vs letter v h f =
    subst (λ n. is_allowed_value (value_rule_of_letter rules n) v.text ≡ true) (eqb-true v.letter letter (found_passes (λ (w : OptionValue). w.letter == letter) vs v f)) (among vs h f)
  where
    among : (ws : List OptionValue) → are_allowed_values rules ws ≡ true → find (λ (w : OptionValue). w.letter == letter) ws ≡ Some v → is_allowed_value (value_rule_of_letter rules v.letter) v.text ≡ true
    among [] a e = absurd (none-some v e)
    among (w ∷ ws) a e =
        elim (w.letter == letter) as (λ b. cond b (Some w) (find (λ (x : OptionValue). x.letter == letter) ws) ≡ Some v → is_allowed_value (value_rule_of_letter rules v.letter) v.text ≡ true) [
          | true ↦ λ (same : Some w ≡ Some v). subst (λ (x : OptionValue). is_allowed_value (value_rule_of_letter rules x.letter) x.text ≡ true) (same_Some w v same) (split_values rules w ws a).first
          | false ↦ λ (later : find (λ (x : OptionValue). x.letter == letter) ws ≡ Some v). among ws (split_values rules w ws a).rest later
        ] e

pub output_by : (applet : Applet) (text : List ℕ) → is_allowed_value (value_rule_of_letter (value_rules applet) OUTPUT) text ≡ true → is_file_argument_within_output_length text ≡ true
output_by Mkpkg text h = h
output_by Mkndx text h = h
output_by applet text h = absurd (cc)

pub folder_by : (applet : Applet) (text : List ℕ) → is_allowed_value (value_rule_of_letter (value_rules applet) FILES) text ≡ true → is_file_argument text ≡ true
folder_by Mkpkg text h = h
folder_by Mkndx text h = absurd (cc)
folder_by applet text h = absurd (cc)

pub script_by : (applet : Applet) (text : List ℕ) → is_allowed_value (value_rule_of_letter (value_rules applet) SCRIPT) text ≡ true → is_script_argument text ≡ true
script_by Mkpkg text h = h
script_by Mkndx text h = absurd (cc)
script_by applet text h = absurd (cc)
