-- Elements of lists.
use Rattle.std.proofs.Common.{◌≡◌, inl, inr, ◌∙◌, ℕ, Bool, true, false, cond, List, [], ◌∷◌, map, Option, Some, None, refl, ap, sym, subst, true≢false}
use Rattle.std.specs.List.{cons_option, filter_map, find}
use Rattle.std.specs.Str.{bytes_eq}
use Rattle.std.proofs.lemmas.Slice.Eq.{bytes_eq-Decides}
use Rattle.base_core.specs.Lists.{IsIn}
use Rattle.base_core.proofs.Rising as rising

-- ---- what a function gives of elements

pub record IsGivenBy {X Y : Type 0} (h : X → Option Y) (xs : List X) (y : Y) : Type 0 where
  pub from : X
  pub given : h from ≡ Some y

later : {X Y : Type 0} (h : X → Option Y) (x : X) (xs : List X) (y : Y) → IsGivenBy h xs y → IsGivenBy h (x ∷ xs) y
later h x xs y g = record { from = g.from; given = g.given }

pub given_of : {X Y : Type 0} (h : X → Option Y) (xs : List X) (y : Y) → IsIn y (filter_map h xs) → IsGivenBy h xs y
given_of h [] y at = absurd at
given_of {X} {Y} h (x ∷ xs) y at = go (h x) refl (given_of h xs y) at
  where
    go : (o : Option Y) → h x ≡ o → (IsIn y (filter_map h xs) → IsGivenBy h xs y) → IsIn y (cons_option o (filter_map h xs)) → IsGivenBy h (x ∷ xs) y
    go None is more at = later h x xs y (more at)
    go (Some z) is more (inl same) = record { from = x; given = is ∙ ap Some (sym same) }
    go (Some z) is more (inr at) = later h x xs y (more at)

behind : {Y : Type 0} (o : Option Y) (ys : List Y) (y : Y) → IsIn y ys → IsIn y (cons_option o ys)
behind None ys y at = at
behind (Some z) ys y at = inr at

pub given_in : {X Y : Type 0} (h : X → Option Y) (xs : List X) (x : X) (y : Y) → IsIn x xs → h x ≡ Some y → IsIn y (filter_map h xs)
given_in h [] x y at is = absurd at
given_in {X} {Y} h (z ∷ xs) x y (inl same) is = subst (λ (o : Option Y). IsIn y (cons_option o (filter_map h xs))) (sym is ∙ ap h same) (inl refl)
given_in h (z ∷ xs) x y (inr more) is = behind (h z) (filter_map h xs) y (given_in h xs x y more is)

-- ---- what is found

pub found_name : {X : Type 0} (name_of : X → List ℕ) (name : List ℕ) (xs : List X) (x : X) → find (λ y. bytes_eq (name_of y) name) xs ≡ Some x → rising.IsIn name (map name_of xs)
found_name name_of name [] x e = absurd cc
found_name {X} name_of name (y ∷ xs) x e = go (bytes_eq (name_of y) name) refl (found_name name_of name xs x) e
  where
    go : (b : Bool) → bytes_eq (name_of y) name ≡ b → (find (λ y. bytes_eq (name_of y) name) xs ≡ Some x → rising.IsIn name (map name_of xs))
        → cond b (Some y) (find (λ y. bytes_eq (name_of y) name) xs) ≡ Some x → rising.IsIn name (map name_of (y ∷ xs))
    go true is later e = inl (sym ((bytes_eq-Decides (name_of y) name).0 is))
    go false is later e = inr (later e)

pub listed : (q : List ℕ) (xs : List (List ℕ)) → rising.IsIn q xs → IsIn q xs
listed q [] at = absurd at
listed q (x ∷ xs) (inl is) = inl is
listed q (x ∷ xs) (inr more) = inr (listed q xs more)

pub missing_name : {X : Type 0} (name_of : X → List ℕ) (name : List ℕ) (xs : List X) → find (λ y. bytes_eq (name_of y) name) xs ≡ None → IsIn name (map name_of xs) → ⊥
missing_name name_of name [] e at = at
missing_name {X} name_of name (y ∷ xs) e at = go (bytes_eq (name_of y) name) refl (missing_name name_of name xs) e at
  where
    go : (b : Bool) → bytes_eq (name_of y) name ≡ b → (find (λ y. bytes_eq (name_of y) name) xs ≡ None → IsIn name (map name_of xs) → ⊥)
        → cond b (Some y) (find (λ y. bytes_eq (name_of y) name) xs) ≡ None → IsIn name (map name_of (y ∷ xs)) → ⊥
    go true is later e at = absurd cc
    go false is later e (inl same) = true≢false (sym ((bytes_eq-Decides (name_of y) name).1 (sym same)) ∙ is)
    go false is later e (inr more) = later e more

pub risen : (q : List ℕ) (xs : List (List ℕ)) → IsIn q xs → rising.IsIn q xs
risen q [] at = absurd at
risen q (x ∷ xs) (inl is) = inl is
risen q (x ∷ xs) (inr more) = inr (risen q xs more)
