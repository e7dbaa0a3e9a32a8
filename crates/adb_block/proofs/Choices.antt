-- Which way a test went.
use Rattle.std.proofs.Common.{◌≡◌, Bool, true, false, cond, Result, Ok, Err, refl, inl, inr, ◌⊎◌}

pub chosen : {A : Type 0} (b : Bool) (x y z : A) → cond b x y ≡ z → ((b ≡ true) × (x ≡ z)) ⊎ ((b ≡ false) × (y ≡ z))
chosen true x y z e = inl (refl, e)
chosen false x y z e = inr (refl, e)

-- a test that did not fail
pub passed : {A C : Type 0} (b : Bool) (c : C) (r : Result A C) (y : A) → cond b (Err c) r ≡ Ok y → (b ≡ false) × (r ≡ Ok y)
passed true c r y e = absurd cc
passed false c r y e = (refl, e)
