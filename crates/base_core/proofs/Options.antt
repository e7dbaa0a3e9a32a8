-- Lemmas that several crates need.
use Rattle.std.proofs.Common.{Bool, ℕ, Option, cond, Some, ◌≡◌, None, false, true, refl}
use Rattle.std.specs.Prelude.{is_some}

pub none_at : (b : Bool) (place : ℕ) (later : Option ℕ) → cond b (Some place) later ≡ None → (b ≡ false) × (later ≡ None)
none_at true place later h = cc
none_at false place later h = (refl, h)

pub is_none : (o : Option ℕ) → is_some o ≡ false → o ≡ None
is_none None e = refl
is_none (Some n) e = absurd (cc)
