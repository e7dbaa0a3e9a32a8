-- Lemmas that several crates need.
use Rattle.base_core.proofs.Rising as rising
use Rattle.std.proofs.Common.{List, ℕ, ◌++◌, ◌⊎◌, [], inr, ◌∷◌, inl, ◌<◌, length, get_or, ◌≡◌, arith, sym, suc}
use Rattle.base_core.specs.Lists.{IsIn}

pub in_both : (q : List ℕ) (xs ys : List (List ℕ)) → rising.IsIn q (xs ++ ys) → rising.IsIn q xs ⊎ rising.IsIn q ys
in_both q [] ys at = inr at
in_both q (x ∷ xs) ys (inl is) = inl (inl is)
in_both q (x ∷ xs) ys (inr more) = elim (in_both q xs ys more) [ inl here ↦ inl (inr here) | inr there ↦ inr there ]

pub at_index : (q : List ℕ) (xs : List (List ℕ)) → IsIn q xs → (i : ℕ) × (i < length xs) × (get_or xs i q ≡ q)
at_index q [] h = absurd h
at_index q (x ∷ xs) (inl is) = (0, omega arith, sym is)
at_index q (x ∷ xs) (inr h) = let (i, lt, is) = at_index q xs h in (suc i, omega arith, is)
