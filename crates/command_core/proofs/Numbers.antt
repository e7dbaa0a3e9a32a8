-- Decimal numbers, as std reads them.
use Rattle.std.proofs.Common.{lit<, ◌≡◌, ◌^◌, ◌<◌, ◌≤◌, ℕ, zero, suc, Bool, true, false, not, List, [], ◌∷◌, length, get_or, Err, refl, rules, arith}
use Rattle.std.specs.Prelude.{nat_lt, nat_le, ◌&&◌}
use Rattle.std.specs.Char.{is_ascii_digit}
use Rattle.std.specs.List.{list_all}
use Rattle.std.specs.Str.Parse.{ParsesUnsigned, digits_value}
use Rattle.std.proofs.lemmas.Bool.{and_parts, ltb-true}
use Rattle.std.proofs.lemmas.Bool.Decides.{nat_tests}
use Rattle.std.proofs.lemmas.Str.Parse.{IsNumeralModel, numerals_by_value, parse_digits}
use Rattle.command_core.specs.Operands.{has_superfluous_leading_zero, is_decimal_without_leading_zeros, is_demo_number}

pub digits_model : IsNumeralModel (λ ds. list_all is_ascii_digit ds ≡ true) (digits_value 10)
digits_model = numerals_by_value _ (search rules)

pub decimal_digits : (ds : List ℕ) → is_decimal_without_leading_zeros ds ≡ true → list_all is_ascii_digit ds ≡ true
decimal_digits ds h =
    (and_parts (nat_lt 0 (length ds) && not (has_superfluous_leading_zero ds)) (list_all is_ascii_digit ds) h).1

pub decimal_some : (ds : List ℕ) → is_decimal_without_leading_zeros ds ≡ true → 0 < length ds
decimal_some ds h =
    ltb-true 0 (length ds) (and_parts (nat_lt 0 (length ds)) (not (has_superfluous_leading_zero ds)) (and_parts (nat_lt 0 (length ds) && not (has_superfluous_leading_zero ds)) (list_all is_ascii_digit ds) h).0).0

pub digits_ascii : (ds : List ℕ) → list_all is_ascii_digit ds ≡ true → (i : ℕ) → get_or ds i 0 < 128
digits_ascii [] h i = lit< tt
digits_ascii (d ∷ ds) h zero =
    let is : is_ascii_digit d ≡ true = (and_parts (is_ascii_digit d) (list_all is_ascii_digit ds) h).0 in
    grind (arith, nat_tests)
digits_ascii (d ∷ ds) h (suc i) = digits_ascii ds (and_parts (is_ascii_digit d) (list_all is_ascii_digit ds) h).1 i

never_small : (a b c : Bool) → (c ≡ true → ⊥) → false ≡ (a && b && c)
never_small a b true never = absurd (never refl)
never_small true true false _ = refl
never_small true false false _ = refl
never_small false b false _ = refl

small : (n : ℕ) → nat_le n 20000 ≡ true → n < 2 ^ 32
small n h = (let less : n ≤ 20000 = grind (arith, nat_tests) in omega arith)

-- digits that are no u32 are no number for `demo`
pub too_large : {E : Type 0} (ds : List ℕ) (e : E) → is_decimal_without_leading_zeros ds ≡ true → ParsesUnsigned 32 10 ds (Err e) → false ≡ is_demo_number ds
too_large {E} ds e h p =
    let never : ¬ ((0 < length ds) × (digits_value 10 ds < 2 ^ 32)) = parse_digits digits_model {E = E} 32 ds (Err e) p (decimal_digits ds h) in
    never_small (is_decimal_without_leading_zeros ds) (nat_lt 0 (digits_value 10 ds)) (nat_le (digits_value 10 ds) 20000) (λ t. never (decimal_some ds h, small (digits_value 10 ds) t))
