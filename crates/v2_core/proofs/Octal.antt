-- Octal numbers, as std reads them.
use Rattle.std.proofs.Common.{◌≡◌, ◌^◌, ◌<◌, ℕ, zero, suc, true, false, not, cond, eqb, List, [], ◌∷◌, length, get_or, drop, Some, Result, Ok, Err, refl, ◌∙◌, ap, subst, arith, lit<}
use Rattle.std.specs.Prelude.{nat_lt, ◌==◌}
use Rattle.std.specs.Result.{result_ok, OkIff}
use Rattle.std.specs.List.{list_all}
use Rattle.std.specs.Char.{digit_value}
use Rattle.std.specs.Str.Parse.{AllDigits, IsNumeral, ParsesUnsigned, digits_value, without_leading_plus}
use Rattle.std.proofs.lemmas.Bool.{and_parts, lt-ltb, ltb-true}
use Rattle.std.proofs.lemmas.Bool.Decides.{nat_tests}
use Rattle.make_info.proofs.Numbers.{fits, fits_not}
use Rattle.v2_core.specs.Accesses.{is_octal, is_octal_digit, octal_number}

pub octal_digits : (ds : List ℕ) → is_octal ds ≡ true → list_all is_octal_digit ds ≡ true
octal_digits ds h = (and_parts (not (length ds == 0)) (list_all is_octal_digit ds) h).1

octal_some : (ds : List ℕ) → is_octal ds ≡ true → 0 < length ds
octal_some ds h =
    let some : not (length ds == 0) ≡ true = (and_parts (not (length ds == 0)) (list_all is_octal_digit ds) h).0 in
    grind (arith, nat_tests)

octal_value : (d : ℕ) → is_octal_digit d ≡ true → digit_value d < 8
octal_value d h = grind (arith, nat_tests)

all_octal : (ds : List ℕ) → list_all is_octal_digit ds ≡ true → AllDigits 8 ds
all_octal [] h = tt
all_octal (d ∷ ds) h =
    let parts = and_parts (is_octal_digit d) (list_all is_octal_digit ds) h in
    (octal_value d parts.0, all_octal ds parts.1)

pub octal_ascii : (ds : List ℕ) → list_all is_octal_digit ds ≡ true → (i : ℕ) → get_or ds i 0 < 128
octal_ascii [] h i = lit< tt
octal_ascii (d ∷ ds) h zero =
    let is : is_octal_digit d ≡ true = (and_parts (is_octal_digit d) (list_all is_octal_digit ds) h).0 in
    grind (arith, nat_tests)
octal_ascii (d ∷ ds) h (suc i) = octal_ascii ds (and_parts (is_octal_digit d) (list_all is_octal_digit ds) h).1 i

-- no sign stands before octal digits
no_plus : (ds : List ℕ) → list_all is_octal_digit ds ≡ true → without_leading_plus ds ≡ ds
no_plus [] h = refl
no_plus (d ∷ ds) h =
    let is : is_octal_digit d ≡ true = (and_parts (is_octal_digit d) (list_all is_octal_digit ds) h).0 in
    let other : eqb d 43 ≡ false = grind (arith, nat_tests) in
    ap (λ b. drop (cond b 1 0) (d ∷ ds)) other

abbrev Reads : {E : Type 0} → List ℕ → Result ℕ E → Type 0
Reads ds r = OkIff r (IsNumeral 8 ds × (digits_value 8 ds < 2 ^ 64)) (digits_value 8 ds)

read_octal_by : {E : Type 0} (ds : List ℕ) (r : Result ℕ E) → is_octal ds ≡ true → Reads ds r → result_ok r ≡ octal_number ds
read_octal_by ds (Ok n) h p =
    ap Some p.1 ∙ fits (is_octal ds) (nat_lt (digits_value 8 ds) (2 ^ 64)) (digits_value 8 ds) h (lt-ltb (digits_value 8 ds) (2 ^ 64) p.0.1)
read_octal_by ds (Err e) h p =
    fits_not (is_octal ds) (nat_lt (digits_value 8 ds) (2 ^ 64)) (digits_value 8 ds)
    (λ t. p ((octal_some ds h, all_octal ds (octal_digits ds h)), ltb-true (digits_value 8 ds) (2 ^ 64) t))

pub parsed_octal : {E : Type 0} (ds : List ℕ) (r : Result ℕ E) → is_octal ds ≡ true → ParsesUnsigned 64 8 ds r → result_ok r ≡ octal_number ds
parsed_octal ds r h p =
    read_octal_by ds r h (subst (λ d. Reads d r) (no_plus ds (octal_digits ds h)) p)
