-- The name of the staged intent is that of no other staged file.
use Rattle.std.proofs.Common.{◌≡◌, ℕ, suc, ◌+◌, ◌/◌, ◌%◌, ◌≤◌, Bool, true, false, cond, eqb, List, [], ◌∷◌, drop, length, decimal, Option, None, Some, refl, sym, ap, ◌∙◌, arith}
use Rattle.std.specs.Fmt.{digits, digits_onto, digit_glyph}
use Rattle.std.proofs.lemmas.Bool.{eqb-true}
use Rattle.journal_core.specs.Recovery.{Intent, IsStagedNameOf, stage_name}
use Rattle.journal_intent.proofs.StageNames.{stage_names_apart}
use Rattle.journal_intent.proofs.Digits.{by_least, grows}

two_digits : (n : ℕ) (b : Bool) → eqb (n / 10) 0 ≡ b → b ≡ false → 2 ≤ length (cond b (digit_glyph false (n % 10) ∷ []) (digits_onto 63 10 false (n / 10) (digit_glyph false (n % 10) ∷ [])))
two_digits n true is low = absurd (cc (low))
two_digits n false is low = let more = longer_by 62 (n / 10) (digit_glyph false (n % 10) ∷ []) in omega (arith, more)
  where
    longer_by : (k m : ℕ) (onto : List ℕ) → length onto + 1 ≤ length (digits_onto (suc k) 10 false m onto)
    longer_by k m onto = by_least (eqb (m / 10) 0) (length onto + 1) _ _ (omega arith) (let more = grows k (m / 10) (digit_glyph false (m % 10) ∷ onto) in omega (arith, more))

long : (n : ℕ) → eqb (n / 10) 0 ≡ false → 2 ≤ length (decimal n)
unfolding digits
long n is = two_digits n (eqb (n / 10) 0) refl is

pub first_alone : (n : ℕ) → stage_name 0 ≡ stage_name n → n ≡ 0
unfolding digits
first_alone n same = by (eqb (n / 10) 0) refl
  where
    by : (b : Bool) → eqb (n / 10) 0 ≡ b → n ≡ 0
    by true is = let low : n / 10 ≡ 0 = eqb-true (n / 10) 0 is in sym (stage_names_apart 0 n (omega arith) (omega (arith, low)) same)
    by false is = absurd (let two = long n is in let one : length (decimal n) ≡ 1 = ap length (sym (ap (drop 14) same)) in omega (arith, two, one))

pub no_place_first : (intent : Option Intent) → IsStagedNameOf intent (stage_name 0) → ⊥
no_place_first None place = place
no_place_first (Some intent) (k, from, within, same) = let none = first_alone k same in omega (arith, from, none)
