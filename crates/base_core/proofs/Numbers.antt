-- Tests on numbers.
use Rattle.std.proofs.Common.{ℕ, ◌≡◌, true, inl, inr, refl, suc, arith}
use Rattle.std.specs.Prelude.{◌==◌}
use Rattle.std.proofs.lemmas.Bool.Decides.{eqb_tells}

pub same_number : (x : ℕ) → (x == x) ≡ true
same_number x = elim (eqb_tells x x) [ inl e ↦ e.0 | inr n ↦ absurd (n.1 refl) ]

pub not_first : (n : ℕ) → suc n ≡ 0 → ⊥
not_first n e = omega (arith, e)
