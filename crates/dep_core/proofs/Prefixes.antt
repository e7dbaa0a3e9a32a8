-- How many elements a list begins with.
use Rattle.std.proofs.Common.{◌≡◌, ℕ, Bool, true, false, cond, ltb, List, length, Option, Some, None, refl, sym, ◌∙◌, arith}
use Rattle.std.specs.Prelude.{not, unwrap_or}
use Rattle.std.specs.List.{prefix_len, position}
use Rattle.std.proofs.lemmas.Bool.Decides.{nat_tests}
use Rattle.std.proofs.lemmas.List.Sums.{prefix_len-le-length}
use Rattle.version_core.proofs.Runs.{prefix_len-twice_not}

unwrap_cond : (b : Bool) (n m : ℕ) → (b ≡ false → n ≡ m) → unwrap_or (cond b (Some n) None) m ≡ n
unwrap_cond true n m same = refl
unwrap_cond false n m same = sym (same refl)

-- the place of the first byte outside, or the length
prefix_len-by : (q : ℕ → Bool) (xs : List ℕ) → unwrap_or (position (λ x. not (q x)) xs) (length xs) ≡ prefix_len q xs
prefix_len-by q xs =
    unwrap_cond (ltb (prefix_len (λ x. not (not (q x))) xs) (length xs)) (prefix_len (λ x. not (not (q x))) xs) (length xs) (λ h. grind (arith, nat_tests, prefix_len-le-length (λ x. not (not (q x))) xs))
    ∙ prefix_len-twice_not q xs

pub len_at : (q : ℕ → Bool) (xs : List ℕ) (r : Option ℕ) → r ≡ position (λ x. not (q x)) xs → unwrap_or r (length xs) ≡ prefix_len q xs
len_at q xs r h = rw h (prefix_len-by q xs)
