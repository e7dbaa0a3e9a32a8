-- For callers: a list is closed, and a loop gives the values of a list one after another.
use Rattle.std.proofs.Common.{◌≡◌, ◌≤◌, ◌+◌, ℕ, zero, suc, List, [], ◌∷◌, length, drop, slice_get, Some, Result, Ok, Err, OnOk, refl, sym, ap, ◌∙◌, arith}
use Rattle.adb_view.specs.Plain.{Plain, null, Plains, none, more}
use Rattle.adb_values.specs.Drafts.{DraftState, draft_with, draft_with_all, draft_with_open_list}

pub on_ok : {T E : Type 0} (P Q : Type 0) → (P → Q) → (r : Result T E) → OnOk r P → OnOk r Q
on_ok P Q f (Ok x) h = f h
on_ok P Q f (Err e) h = h

-- what `close_array` and `close_object` promise, each with its value of a list
abbrev pub Closes : (Plains → Plain) → DraftState → DraftState → Type 0
Closes value old new = (vs : Plains) (before : DraftState) → old ≡ draft_with_all vs (draft_with_open_list before) → new ≡ draft_with (value vs) before

pub closed : {T E : Type 0} (value : Plains → Plain) (vs : Plains) (before old new : DraftState) (r : Result T E) → OnOk r (Closes value old new) → old ≡ draft_with_all vs (draft_with_open_list before)
    → OnOk r (new ≡ draft_with (value vs) before)
closed value vs before old new (Ok x) h is = h vs before is
closed value vs before old new (Err e) h is = h

-- the same for a value that is known by another name
pub closed_as : {T E : Type 0} (value : Plains → Plain) (v : Plain) (vs : Plains) (before old new : DraftState) (r : Result T E) → v ≡ value vs → OnOk r (Closes value old new) → old ≡ draft_with_all vs (draft_with_open_list before)
    → OnOk r (new ≡ draft_with v before)
closed_as value v vs before old new (Ok x) name h is = h vs before is ∙ ap (λ (u : Plain). draft_with u before) (sym name)
closed_as value v vs before old new (Err e) name h is = h

-- ---- a loop over a list, whose values are these: those that are left, after the draft so far, come to
-- the whole

pub drop_at : {A : Type 0} (xs : List A) (i : ℕ) (x : A) → slice_get xs i ≡ Some x → drop i xs ≡ x ∷ drop (i + 1) xs
drop_at {A = A} [] i x at = absurd cc
drop_at {A = A} (y ∷ ys) zero x at = let same : y ≡ x = cc in ap (λ (z : A). z ∷ ys) same
drop_at {A = A} (y ∷ ys) (suc i) x at =
    let next : suc i + 1 ≡ suc (i + 1) = omega arith in
    drop_at ys i x at ∙ ap (λ (l : List A). x ∷ l) (sym (ap (λ (k : ℕ). drop k (y ∷ ys)) next))

drop_none : {A : Type 0} (k : ℕ) → drop {A = A} k [] ≡ []
drop_none zero = refl
drop_none (suc k) = refl

pub drop_all : {A : Type 0} (xs : List A) (i : ℕ) → length xs ≤ i → drop i xs ≡ []
drop_all {A = A} [] i le = drop_none {A = A} i
drop_all {A = A} (x ∷ xs) zero le = absurd (omega (arith, le))
drop_all {A = A} (x ∷ xs) (suc i) le = drop_all xs i (omega (arith, le))

module _ {A : Type 0} (values : List A → Plains) (value : A → Plain) (xs : List A) (whole : DraftState) where
  -- one value more
  pub left_more : ((y : A) (ys : List A) → values (y ∷ ys) ≡ more (value y) (values ys)) → (i : ℕ) (x : A) (old new : DraftState) → slice_get xs i ≡ Some x
      → draft_with_all (values (drop i xs)) old ≡ whole → new ≡ draft_with (value x) old → draft_with_all (values (drop (i + 1) xs)) new ≡ whole
  left_more step i x old new at left one =
      ap (λ (d : DraftState). draft_with_all (values (drop (i + 1) xs)) d) one
      ∙ sym (ap (λ (l : List A). draft_with_all (values l) old) (drop_at xs i x at) ∙ ap (λ (vs : Plains). draft_with_all vs old) (step x (drop (i + 1) xs)))
      ∙ left

  -- all are given
  pub left_none : values [] ≡ none → (i : ℕ) (d : DraftState) → length xs ≤ i → draft_with_all (values (drop i xs)) d ≡ whole → d ≡ whole
  left_none nothing i d all left =
      sym (ap (λ (l : List A). draft_with_all (values l) d) (drop_all xs i all) ∙ ap (λ (vs : Plains). draft_with_all vs d) nothing) ∙ left

-- all are given to a list that was opened
pub list_given : {A : Type 0} (values : List A → Plains) (xs : List A) → values [] ≡ none → (i : ℕ) (d opened before : DraftState) → length xs ≤ i
    → draft_with_all (values (drop i xs)) d ≡ draft_with_all (values xs) opened → opened ≡ draft_with_open_list before → d ≡ draft_with_all (values xs) (draft_with_open_list before)
list_given values xs nothing i d opened before all left is =
    left_none values (λ x. null) xs (draft_with_all (values xs) opened) nothing i d all left ∙ ap (λ (e : DraftState). draft_with_all (values xs) e) is
