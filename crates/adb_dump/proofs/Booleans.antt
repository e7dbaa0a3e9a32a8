-- What tests that passed or failed say.
use Rattle.std.proofs.Common.{◌≡◌, Bool, true, false, cond, ◌&&◌, refl, inl, inr, ◌⊎◌}
use Rattle.std.proofs.lemmas.Bool.{and_parts}

pub chosen : {A : Type 0} (b : Bool) (x y z : A) → cond b x y ≡ z → ((b ≡ true) × (x ≡ z)) ⊎ ((b ≡ false) × (y ≡ z))
chosen true x y z e = inl (refl, e)
chosen false x y z e = inr (refl, e)

pub and_go : (a b : Bool) → b ≡ true → (a && b) ≡ a
and_go true b e = e
and_go false b e = refl
