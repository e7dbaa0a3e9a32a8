-- Decimal digits, and the numbers of up to eighteen of them.
use Rattle.std.proofs.Common.{◌≡◌, ℕ, ◌-◌, ◌^◌, ◌<◌, ◌≤◌, List, take, length, arith}
use Rattle.std.specs.Prelude.{IsTrue}
use Rattle.std.specs.Char.{is_ascii_digit, digit_value}
use Rattle.std.specs.Str.Parse.{AllDigits, digits_value}
use Rattle.std.proofs.Math.Nat.{pow-le-pow_right}
use Rattle.std.proofs.lemmas.Bool.Decides.{nat_tests}
use Rattle.std.proofs.lemmas.List.{length-take-le}
use Rattle.std.proofs.lemmas.Int.Digits.{digits_value-lt}

pub digit_bounds : (b : ℕ) → IsTrue (is_ascii_digit b) → (48 ≤ b) × (b < 58)
digit_bounds b h = grind (arith, nat_tests)

pub digit_value-digit : (b : ℕ) → 48 ≤ b → b < 58 → digit_value b ≡ b - 48
digit_value-digit b low high = grind (arith, nat_tests)

pub few_digits : (ds : List ℕ) (i : ℕ) → length ds ≤ 18 → i < length ds → AllDigits 10 (take i ds) → digits_value 10 (take i ds) < 10 ^ 17
few_digits ds i few h all =
    let below : digits_value 10 (take i ds) < 10 ^ length (take i ds) = digits_value-lt 10 (take i ds) all in
    let long : length (take i ds) ≤ 17 = omega (arith, length-take-le i ds (omega arith)) in
    let most : 10 ^ length (take i ds) ≤ 10 ^ 17 = pow-le-pow_right (omega arith) long in
    omega arith
