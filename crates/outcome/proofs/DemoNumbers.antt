-- The number of packages.
use Rattle.std.proofs.Common.{◌≡◌, ◌<◌, ◌≤◌, ℕ, true, List, [], ◌∷◌, length, Some, sym, ap, ◌∙◌, arith}
use Rattle.std.specs.Prelude.{nat_lt, nat_le, ◌&&◌}
use Rattle.std.specs.List.{list_all, slice_get}
use Rattle.std.specs.Str.Parse.{digits_value}
use Rattle.std.proofs.lemmas.Bool.{and_parts, leb-true}
use Rattle.std.proofs.lemmas.Option.{same_Some}
use Rattle.command_core.specs.Operands.{exactly, is_decimal_without_leading_zeros, is_demo_number, is_operand_of_kind}
use Rattle.command_core.specs.Sound.{are_allowed_operands}
use Rattle.command_core.specs.declared.operands.Operand.{Operand}
use Rattle.command_core.specs.declared.operands.OperandKind.TheVariants.{Number}
use Rattle.outcome.specs.DemoCount.{demo_count}

-- an operand is one of the rule's
abbrev pub IsOneNumber : List Operand → Type 0
IsOneNumber os = are_allowed_operands (Some (exactly 1 Number)) os ≡ true

pub one_operand : (os : List Operand) → IsOneNumber os → 0 < length os
one_operand os h =
    let parts = and_parts (nat_le 1 (length os) && nat_le (length os) 1) (list_all (λ (o : Operand). is_operand_of_kind Number o.text) os) h in
    let least : 1 ≤ length os = leb-true 1 (length os) (and_parts (nat_le 1 (length os)) (nat_le (length os) 1) parts.0).0 in
    omega arith

pub operand_number : (os : List Operand) (o : Operand) → IsOneNumber os → slice_get os 0 ≡ Some o → (is_demo_number o.text ≡ true) × (demo_count os ≡ digits_value 10 o.text)
operand_number [] o h is = cc
operand_number (x ∷ os) o h is =
    let same : x ≡ o = same_Some x o is in
    let all = (and_parts (nat_le 1 (length (x ∷ os)) && nat_le (length (x ∷ os)) 1) (list_all (λ (o : Operand). is_operand_of_kind Number o.text) (x ∷ os)) h).1 in
    let first = (and_parts (is_demo_number x.text) (list_all (λ (o : Operand). is_operand_of_kind Number o.text) os) all).0 in
    (ap (λ (y : Operand). is_demo_number y.text) (sym same) ∙ first, ap (λ (y : Operand). digits_value 10 y.text) same)

-- ---- its text

pub number_decimal : (ds : List ℕ) → is_demo_number ds ≡ true → is_decimal_without_leading_zeros ds ≡ true
number_decimal ds h =
    (and_parts (is_decimal_without_leading_zeros ds) (nat_lt 0 (digits_value 10 ds)) (and_parts (is_decimal_without_leading_zeros ds && nat_lt 0 (digits_value 10 ds)) (nat_le (digits_value 10 ds) 20000) h).0).0
