-- Elements that pass tests.
use Rattle.std.proofs.Common.{◌≡◌, inl, inr, ◌∙◌, ℕ, Bool, true, false, cond, List, [], ◌∷◌, map, refl, ap, sym, true≢false}
use Rattle.std.specs.Prelude.{◌||◌}
use Rattle.std.specs.List.{filter, list_any}
use Rattle.base_core.specs.Lists.{IsIn}
use Rattle.base_core.proofs.Rising as rising
use Rattle.base_core.proofs.Booleans.{either_true}

pub record HasPassing {X : Type 0} (p : X → Bool) (xs : List X) : Type 0 where
  pub element : X
  pub listed : IsIn element xs
  pub passes : p element ≡ true

pub any_passes : {X : Type 0} (p : X → Bool) (xs : List X) → list_any p xs ≡ true → HasPassing p xs
any_passes p [] e = absurd (true≢false (sym e))
any_passes {X} p (x ∷ xs) e = go (p x) refl e (any_passes p xs)
  where
    go : (b : Bool) → p x ≡ b → (b || list_any p xs) ≡ true → (list_any p xs ≡ true → HasPassing p xs) → HasPassing p (x ∷ xs)
    go true is e more = record { element = x; listed = inl refl; passes = is }
    go false is e more = let h = more e in record { element = h.element; listed = inr h.listed; passes = h.passes }

pub passes_any : {X : Type 0} (p : X → Bool) (xs : List X) (x : X) → IsIn x xs → p x ≡ true → list_any p xs ≡ true
passes_any p [] x at e = absurd at
passes_any p (y ∷ xs) x (inl is) e = either_true (p y) (list_any p xs) (inl (sym (ap p is) ∙ e))
passes_any p (y ∷ xs) x (inr more) e = either_true (p y) (list_any p xs) (inr (passes_any p xs x more e))

pub in_passing : {X : Type 0} (p : X → Bool) (xs : List X) (x : X) → IsIn x (filter p xs) → IsIn x xs × (p x ≡ true)
in_passing p [] x at = absurd at
in_passing {X} p (y ∷ xs) x at = go (p y) refl at (in_passing p xs x)
  where
    go : (b : Bool) → p y ≡ b → IsIn x (cond b (y ∷ filter p xs) (filter p xs)) → (IsIn x (filter p xs) → IsIn x xs × (p x ≡ true)) → IsIn x (y ∷ xs) × (p x ≡ true)
    go true is (inl same) more = (inl same, ap p same ∙ is)
    go true is (inr at) more = let h = more at in (inr h.0, h.1)
    go false is at more = let h = more at in (inr h.0, h.1)

pub passing_in : {X : Type 0} (p : X → Bool) (xs : List X) (x : X) → IsIn x xs → p x ≡ true → IsIn x (filter p xs)
passing_in p [] x at e = at
passing_in {X} p (y ∷ xs) x at e = go (p y) refl at (λ more. passing_in p xs x more e)
  where
    go : (b : Bool) → p y ≡ b → IsIn x (y ∷ xs) → (IsIn x xs → IsIn x (filter p xs)) → IsIn x (cond b (y ∷ filter p xs) (filter p xs))
    go true is (inl same) more = inl same
    go true is (inr at) more = inr (more at)
    go false is (inl same) more = absurd (true≢false (sym e ∙ (ap p same ∙ is)))
    go false is (inr at) more = more at

-- ---- the texts of elements

pub record IsTextOf {X : Type 0} (f : X → List ℕ) (xs : List X) (q : List ℕ) : Type 0 where
  pub element : X
  pub listed : IsIn element xs
  pub is : q ≡ f element

pub text_of : {X : Type 0} (f : X → List ℕ) (xs : List X) (q : List ℕ) → rising.IsIn q (map f xs) → IsTextOf f xs q
text_of f [] q at = absurd at
text_of f (x ∷ xs) q (inl is) = record { element = x; listed = inl refl; is = is }
text_of f (x ∷ xs) q (inr more) = let h = text_of f xs q more in record { element = h.element; listed = inr h.listed; is = h.is }

pub text_in : {X : Type 0} (f : X → List ℕ) (xs : List X) (q : List ℕ) (x : X) → IsIn x xs → q ≡ f x → rising.IsIn q (map f xs)
text_in f [] q x at is = absurd at
text_in f (y ∷ xs) q x (inl same) is = inl (is ∙ ap f same)
text_in f (y ∷ xs) q x (inr more) is = inr (text_in f xs q x more is)
