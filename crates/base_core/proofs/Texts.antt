-- Texts that are equal, and fronts of them.
use Rattle.std.proofs.Common.{List, ℕ, Bool, ◌≡◌, false, true, refl, ◌++◌, ◌∙◌, ap, append_assoc}
use Rattle.std.specs.Str.{IsUtf8, is_utf8}
use Rattle.std.proofs.lemmas.Str.{IsUtf8-from_is_utf8}

pub refuted : (bs : List ℕ) → (IsUtf8 bs → ⊥) → (b : Bool) → is_utf8 bs ≡ b → false ≡ b
refuted bs not_text true e = absurd (not_text (IsUtf8-from_is_utf8 bs e))
refuted bs not_text false e = refl

pub joined : (r r1 r2 a b : List ℕ) → r1 ≡ r ++ a → r2 ≡ r1 ++ b → r2 ≡ r ++ (a ++ b)
joined r r1 r2 a b e1 e2 = e2 ∙ (ap (λ z. z ++ b) e1 ∙ append_assoc r a b)
