-- Decimal numbers, as std reads them.
use Rattle.std.proofs.Common.{◌≡◌, ◌^◌, ◌<◌, ℕ, Bool, true, false, cond, List, length, Some, None, Result, Ok, Err, refl, ◌∙◌, ap}
use Rattle.std.specs.Prelude.{nat_lt, ◌&&◌}
use Rattle.std.specs.Result.{result_ok}
use Rattle.std.specs.Str.Parse.{ParsesUnsigned, digits_value}
use Rattle.std.proofs.lemmas.Bool.{lt-ltb, ltb-true}
use Rattle.std.proofs.lemmas.Str.Parse.{parse_digits}
use Rattle.make_info.specs.Fields.{decimal_number_without_leading_zeros}
use Rattle.command_core.specs.Operands.{is_decimal_without_leading_zeros}
use Rattle.command_core.proofs.Numbers.{decimal_digits, decimal_some, digits_model}

pub fits : (b c : Bool) (v : ℕ) → b ≡ true → c ≡ true → Some v ≡ cond (b && c) (Some v) None
fits true true v hb hc = refl
fits true false v hb hc = cc
fits false c v hb hc = cc

pub fits_not : (b c : Bool) (v : ℕ) → (c ≡ true → ⊥) → None ≡ cond (b && c) (Some v) None
fits_not true true v never = absurd (never refl)
fits_not false true v never = absurd (never refl)
fits_not true false v _ = refl
fits_not false false v _ = refl

pub parsed_number : {E : Type 0} (ds : List ℕ) (r : Result ℕ E) → is_decimal_without_leading_zeros ds ≡ true → ParsesUnsigned 64 10 ds r → result_ok r ≡ decimal_number_without_leading_zeros ds
parsed_number {E} ds (Ok n) h p =
    let q : ((0 < length ds) × (digits_value 10 ds < 2 ^ 64)) × (n ≡ digits_value 10 ds) = parse_digits digits_model {E = E} 64 ds (Ok n) p (decimal_digits ds h) in
    ap Some q.1 ∙ fits (is_decimal_without_leading_zeros ds) (nat_lt (digits_value 10 ds) (2 ^ 64)) (digits_value 10 ds) h (lt-ltb (digits_value 10 ds) (2 ^ 64) q.0.1)
parsed_number {E} ds (Err e) h p =
    let q : ¬ ((0 < length ds) × (digits_value 10 ds < 2 ^ 64)) = parse_digits digits_model {E = E} 64 ds (Err e) p (decimal_digits ds h) in
    fits_not (is_decimal_without_leading_zeros ds) (nat_lt (digits_value 10 ds) (2 ^ 64)) (digits_value 10 ds) (λ t. q (decimal_some ds h, ltb-true (digits_value 10 ds) (2 ^ 64) t))
