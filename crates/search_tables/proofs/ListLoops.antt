-- Loops over a list: what holds for one more item, and for all items.
use Rattle.std.proofs.Common.{◌≡◌, ◌≤◌, inl, inr, ℕ, ◌+◌, List, [], ◌∷◌, ◌++◌, length, take, sym, subst}
use Rattle.std.proofs.lemmas.List.{take_all}
use Rattle.pool_core.proofs.candidate_core.Steps.{take_one_more}
use Rattle.std.specs.Prelude.{Some, slice_get}
use Rattle.pool_core.specs.candidate_core.Options.{IsIn}
use Rattle.search_tables.proofs.Theory.{in_append}

pub in_more : (P : ℕ → Type 0) (xs : List ℕ) (x : ℕ) → ((k : ℕ) → IsIn k xs → P k) → P x → (k : ℕ) → IsIn k (xs ++ x ∷ []) → P k
in_more P xs x all here k h = elim (in_append k xs (x ∷ []) h) [
  | inl a ↦ all k a
  | inr b ↦ elim b [ inl e ↦ subst P (sym e) here | inr bad ↦ absurd bad ]
]

-- a step of a loop over a list, and its end
pub each_on : {X : Type 0} (P : X → Type 0) (xs : List X) (i : ℕ) (x : X) → slice_get xs i ≡ Some x → ((y : X) → IsIn y (take i xs) → P y) → P x → (y : X) → IsIn y (take (i + 1) xs) → P y
each_on {X} P xs i x here done one y h = elim (in_append y (take i xs) (x ∷ []) (subst (λ (z : List X). IsIn y z) (take_one_more xs i x here) h)) [
  | inl a ↦ done y a
  | inr b ↦ elim b [ inl e ↦ subst P (sym e) one | inr bad ↦ absurd bad ]
]

pub each_all : {X : Type 0} (P : X → Type 0) (xs : List X) (i : ℕ) → length xs ≤ i → ((y : X) → IsIn y (take i xs) → P y) → (y : X) → IsIn y xs → P y
each_all {X} P xs i past done y h = done y (subst (λ (z : List X). IsIn y z) (sym (take_all i xs past)) h)
