-- What is found in lists.
use Rattle.std.proofs.Common.{Bool, Err, List, None, Ok, Result, Some, [], ap, cond, false, inl, inr, map, refl, sym, true, true≢false, ℕ, ◌&&◌, ◌∙◌, ◌∷◌, ◌≡◌, ◌⊎◌}
use Rattle.std.specs.List.{find, list_all, list_any}
use Rattle.std.proofs.lemmas.Bool.{or_cases, or_left, or_right}
use Rattle.outcome.specs.adb_fields.FirstPair.{IsIn}
use Rattle.base_core.proofs.Rising as Names
use Rattle.outcome.specs.change_inputs.Chains.{and_then}
use Rattle.report_core.specs.declared.refusal.Refusal.{Refusal}

-- ---- chains

pub and_then_ok : {A B : Type 0} (a : Result A Refusal) (next : A → Result B Refusal) (b : B) → and_then a next ≡ Ok b → (x : A) × (a ≡ Ok x) × (next x ≡ Ok b)
and_then_ok (Ok x) next b e = (x, refl, e)
and_then_ok (Err refusal) next b e = absurd (cc (e))

-- the first refusal stands, or the next one
pub and_then_err : {A B : Type 0} (a : Result A Refusal) (next : A → Result B Refusal) (refusal : Refusal) → and_then a next ≡ Err refusal → (a ≡ Err refusal) ⊎ ((x : A) × (a ≡ Ok x) × (next x ≡ Err refusal))
and_then_err (Ok x) next refusal e = inr (x, refl, e)
and_then_err (Err first) next refusal e = inl (let same : first ≡ refusal = cc in ap (λ (r : Refusal). Err r) same)

-- ---- elements

pub found_in : {X : Type 0} (test : X → Bool) (xs : List X) (x : X) → find test xs ≡ Some x → IsIn x xs × (test x ≡ true)
found_in test [] x e = absurd (cc (e))
found_in test (y ∷ ys) x e = by_test (test y) refl e (found_in test ys x)
  where
    by_test : (b : Bool) → test y ≡ b → cond b (Some y) (find test ys) ≡ Some x → (find test ys ≡ Some x → IsIn x ys × (test x ≡ true)) → IsIn x (y ∷ ys) × (test x ≡ true)
    by_test true t e more = let same : y ≡ x = cc in (inl (sym same), ap test (sym same) ∙ t)
    by_test false t e more = let behind = more e in (inr behind.0, behind.1)

-- where an element passes, one is found
pub in_found : {X : Type 0} (test : X → Bool) (xs : List X) (x : X) → IsIn x xs → test x ≡ true → (y : X) × (find test xs ≡ Some y)
in_found test [] x here t = absurd here
in_found {X} test (y ∷ ys) x here t = by_test (test y) refl here (λ more. in_found test ys x more t)
  where
    by_test : (b : Bool) → test y ≡ b → IsIn x (y ∷ ys) → (IsIn x ys → (z : X) × (find test ys ≡ Some z)) → (z : X) × (cond b (Some y) (find test ys) ≡ Some z)
    by_test true f here more = (y, refl)
    by_test false f (inl is) more = absurd (true≢false (sym t ∙ (ap test is ∙ f)))
    by_test false f (inr behind) more = more behind

pub any_in : {X : Type 0} (test : X → Bool) (xs : List X) → list_any test xs ≡ true → (x : X) × IsIn x xs × (test x ≡ true)
any_in test [] e = absurd (true≢false (sym e))
any_in test (y ∷ ys) e = elim (or_cases (test y) (list_any test ys) e) [
  | inl passes ↦ (y, inl refl, passes)
  | inr more ↦ (let behind = any_in test ys more in (behind.0, inr behind.1, behind.2))
]

pub in_any : {X : Type 0} (test : X → Bool) (xs : List X) (x : X) → IsIn x xs → test x ≡ true → list_any test xs ≡ true
in_any test [] x here t = absurd here
in_any test (y ∷ ys) x (inl is) t = or_left (test y) (list_any test ys) (ap test (sym is) ∙ t)
in_any test (y ∷ ys) x (inr more) t = or_right (test y) (list_any test ys) (in_any test ys x more t)

pub all_pass : {X : Type 0} (test : X → Bool) (xs : List X) → ((x : X) → IsIn x xs → test x ≡ true) → list_all test xs ≡ true
all_pass test [] h = refl
all_pass test (y ∷ ys) h = ap (λ b. b && list_all test ys) (h y (inl refl)) ∙ all_pass test ys (λ x here. h x (inr here))

pub none_found : {X : Type 0} (test : X → Bool) (xs : List X) (x : X) → find test xs ≡ None → IsIn x xs → test x ≡ false
none_found test xs x e here = by_test (test x) refl
  where
    by_test : (b : Bool) → test x ≡ b → b ≡ false
    by_test true t = (let some = in_found test xs x here t in let both : Some some.0 ≡ None = sym some.1 ∙ e in absurd (cc (both)))
    by_test false t = refl

pub in_mapped : {X : Type 0} (f : X → List ℕ) (xs : List X) (x : X) → IsIn x xs → Names.IsIn (f x) (map f xs)
in_mapped f [] x here = absurd here
in_mapped f (y ∷ ys) x (inl is) = inl (ap f is)
in_mapped f (y ∷ ys) x (inr more) = inr (in_mapped f ys x more)

pub mapped_in : {X : Type 0} (f : X → List ℕ) (xs : List X) (q : List ℕ) → Names.IsIn q (map f xs) → (x : X) × IsIn x xs × (q ≡ f x)
mapped_in f [] q here = absurd here
mapped_in f (y ∷ ys) q (inl is) = (y, inl refl, is)
mapped_in f (y ∷ ys) q (inr more) = let behind = mapped_in f ys q more in (behind.0, inr behind.1, behind.2)

pub name_in : (q : List ℕ) (xs : List (List ℕ)) → Names.IsIn q xs → IsIn q xs
name_in q [] here = here
name_in q (x ∷ xs) (inl is) = inl is
name_in q (x ∷ xs) (inr more) = inr (name_in q xs more)

pub in_names : (q : List ℕ) (xs : List (List ℕ)) → IsIn q xs → Names.IsIn q xs
in_names q [] here = here
in_names q (x ∷ xs) (inl is) = inl is
in_names q (x ∷ xs) (inr more) = inr (in_names q xs more)
