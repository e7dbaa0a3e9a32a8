-- What is at a place of a list, and the places that pass a test.
use Rattle.std.proofs.Common.{◌≡◌, inl, inr, ℕ, zero, suc, ◌<◌, List, [], ◌∷◌, length, refl, arith}
use Rattle.std.specs.Prelude.{Option, Some, None, MatchOption, slice_get}
use Rattle.std.proofs.lemmas.Bool.{cases_Bool}
use Rattle.pool_core.specs.candidate_core.Options.{IsIn}

pub there_is : {X : Type 0} (xs : List X) (r : ℕ) (x : X) → slice_get xs r ≡ Some x → (r < length xs) × IsIn x xs
there_is [] zero x h = absurd (cc)
there_is [] (suc r) x h = absurd (cc)
there_is (y ∷ xs) zero x h = let e : x ≡ y = cc in (omega arith, inl e)
there_is (y ∷ xs) (suc r) x h = let g = there_is xs r x h in (omega (arith, g.0), inr g.1)

pub empty_list : {X : Type 0} (xs : List X) → length xs ≡ 0 → xs ≡ []
empty_list [] h = refl
empty_list (x ∷ xs) h = absurd (omega arith)

-- an answer that is none
pub none_of : {X : Type 0} (o : Option X) (P : Type 0) (Q : X → Type 0) → ((x : X) → o ≡ Some x → ⊥) → MatchOption o P Q → P
none_of None P Q never m = m
none_of (Some x) P Q never m = absurd (never x refl)
