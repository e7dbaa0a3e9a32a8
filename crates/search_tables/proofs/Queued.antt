-- The queue of raised dependencies, a choice at a time.
use Rattle.std.proofs.Common.{◌≡◌, inl, inr, ℕ, zero, suc, ◌+◌, ◌≤◌, ◌<◌, Bool, true, false, List, [], ◌∷◌, ◌++◌, length, take, map, refl, sym, subst, ap, ◌∙◌, arith, append_assoc, append-nil, length-append}
use Rattle.std.specs.Prelude.{Option, Some, None, not, ◌||◌, if◌then◌else◌, slice_get}
use Rattle.std.specs.List.{filter, find, flat_map, list_any}
use Rattle.std.proofs.lemmas.Bool.{not-false, cases_Bool}
use Rattle.dep_core.specs.Dependency.{Dependency}
use Rattle.pool_core.specs.candidate_core.Candidates.{entry}
use Rattle.pool_core.specs.candidate_core.Rank.{SelectionProblem, meets_at}
use Rattle.search_tables.specs.Selection.{is_met}
use Rattle.search_tables.specs.Queue.{AreFirstDepsMet, RaisedDepValue, is_unmet_dep, queue_of, raised_deps_at, raised_deps, raised_deps_from}

pub any_map : {X Y : Type 0} (p : Y → Bool) (f : X → Y) (xs : List X) → list_any p (map f xs) ≡ list_any (λ x. p (f x)) xs
any_map p f [] = refl
any_map p f (x ∷ xs) = ap (λ b. p (f x) || b) (any_map p f xs)

pub any_append : {X : Type 0} (p : X → Bool) (xs ys : List X) → list_any p xs ≡ true → list_any p (xs ++ ys) ≡ true
any_append p [] ys h = absurd (cc)
any_append p (x ∷ xs) ys h = elim (cases_Bool (p x)) [ inl t ↦ rw t refl | inr t ↦ rw t (any_append p xs ys (rw t at h)) ]

pub filtered : {X : Type 0} (p : X → Bool) (xs ys : List X) → filter p (xs ++ ys) ≡ filter p xs ++ filter p ys
filtered p [] ys = refl
filtered {X} p (x ∷ xs) ys = elim (cases_Bool (p x)) [ inl t ↦ rw t (ap (λ (z : List X). x ∷ z) (filtered p xs ys)) | inr t ↦ rw t (filtered p xs ys) ]

pub mapped : {X Y : Type 0} (f : X → Y) (xs ys : List X) → map f (xs ++ ys) ≡ map f xs ++ map f ys
mapped f [] ys = refl
mapped {X} {Y} f (x ∷ xs) ys = ap (λ (z : List Y). f x ∷ z) (mapped f xs ys)

raised_append : (by : Option ℕ) (n : ℕ) (xs ys : List Dependency) → raised_deps_from by n (xs ++ ys) ≡ raised_deps_from by n xs ++ raised_deps_from by (n + length xs) ys
raised_append by n [] ys =
    let e : n ≡ n + 0 = omega arith in
    ap (λ (k : ℕ). raised_deps_from by k ys) e
raised_append by n (x ∷ xs) ys =
    let e : suc n + length xs ≡ n + suc (length xs) = omega arith in
    let rest : raised_deps_from by (suc n) (xs ++ ys) ≡ raised_deps_from by (suc n) xs ++ raised_deps_from by (n + suc (length xs)) ys =
    raised_append by (suc n) xs ys ∙ ap (λ (k : ℕ). raised_deps_from by (suc n) xs ++ raised_deps_from by k ys) e in
    step x.conflict (raised_deps_from by (suc n) (xs ++ ys)) (raised_deps_from by (suc n) xs) (raised_deps_from by (n + suc (length xs)) ys) rest
  where
    step : (b : Bool) (all front back : List RaisedDepValue) → all ≡ front ++ back → (if b then all else (x, by, n) ∷ all) ≡ (if b then front else (x, by, n) ∷ front) ++ back
    step true all front back e = e
    step false all front back e = ap (λ (z : List RaisedDepValue). (x, by, n) ∷ z) e

pub front_length : {X : Type 0} (xs : List X) (i : ℕ) → i ≤ length xs → i ≡ 0 + length (take i xs)
front_length [] zero h = refl
front_length [] (suc i) h = absurd (omega (arith, h))
front_length (x ∷ xs) zero h = refl
front_length (x ∷ xs) (suc i) h = let r = front_length xs i (omega (arith, h)) in omega (arith, r)

-- a queue with one more dependency, in a loop over some
pub queued_more : (by : Option ℕ) (start before after : List RaisedDepValue) (done more : List Dependency) (d : Dependency) (i : ℕ) → i ≡ 0 + length done → before ≡ start ++ raised_deps by done → after ≡ before ++ raised_deps_from by i (d ∷ []) → more ≡ done ++ d ∷ [] → after ≡ start ++ raised_deps by more
queued_more by start before after done more d i at was is e =
    is ∙ (ap (λ (z : List RaisedDepValue). z ++ raised_deps_from by i (d ∷ [])) was
    ∙ (append_assoc start (raised_deps by done) (raised_deps_from by i (d ∷ []))
    ∙ ap (λ (z : List RaisedDepValue). start ++ z)
    (ap (λ (k : ℕ). raised_deps by done ++ raised_deps_from by k (d ∷ [])) at
    ∙ (sym (raised_append by 0 done (d ∷ [])) ∙ ap (raised_deps by) (sym e)))))

pub flat_more : {X : Type 0} (f : ℕ → List X) (t : List ℕ) (c : ℕ) → flat_map f (t ++ c ∷ []) ≡ flat_map f t ++ f c
flat_more f [] c = append-nil (f c)
flat_more {X} f (x ∷ t) c = ap (λ (z : List X). f x ++ z) (flat_more f t c) ∙ sym (append_assoc (f x) (flat_map f t) (f c))

pub queue_more : (pool : SelectionProblem) (t : List ℕ) (c : ℕ) → queue_of pool (t ++ c ∷ []) ≡ queue_of pool t ++ raised_deps_at pool c
queue_more pool t c =
    ap (λ (z : List RaisedDepValue). raised_deps None pool.world ++ z) (flat_more (raised_deps_at pool) t c)
    ∙ sym (append_assoc (raised_deps None pool.world) (flat_map (raised_deps_at pool) t) (raised_deps_at pool c))

pub take_front : {X : Type 0} (xs ys : List X) (n : ℕ) → n ≡ length xs → take n (xs ++ ys) ≡ xs
take_front [] ys n e = rw e refl
take_front {X} (x ∷ xs) ys zero e = absurd (omega (arith, e))
take_front {X} (x ∷ xs) ys (suc n) e = ap (λ (z : List X). x ∷ z) (take_front xs ys n (omega (arith, e)))

pub take_within : {X : Type 0} (xs ys : List X) (n : ℕ) → n ≤ length xs → take n (xs ++ ys) ≡ take n xs
take_within [] [] n h = refl
take_within [] (y ∷ ys) zero h = refl
take_within [] (y ∷ ys) (suc n) h = absurd (omega arith)
take_within (x ∷ xs) ys zero h = refl
take_within {X} (x ∷ xs) ys (suc n) h = ap (λ (z : List X). x ∷ z) (take_within xs ys n (omega arith))

none_still : {X : Type 0} (p q : X → Bool) (xs : List X) → ((x : X) → p x ≡ false → q x ≡ false) → find p xs ≡ None → find q xs ≡ None
none_still p q [] to h = refl
none_still {X} p q (x ∷ xs) to h = elim (cases_Bool (p x)) [
  | inl t ↦ let bad : Some x ≡ None = rw t at h in absurd (cc)
  | inr t ↦ rw (to x t) (none_still p q xs to (rw t at h))
]

still_met : (pool : SelectionProblem) (t us : List ℕ) (r : RaisedDepValue) → is_unmet_dep pool t r ≡ false → is_unmet_dep pool (t ++ us) r ≡ false
still_met pool t us r h = ap not (any_append (λ c. meets_at pool c (entry r.0)) t us (not-false (is_met pool t (entry r.0)) h))

pub met_more : (pool : SelectionProblem) (t : List ℕ) (c at : ℕ) → AreFirstDepsMet pool t at → AreFirstDepsMet pool (t ++ c ∷ []) at
met_more pool t c at met =
    let e = queue_more pool t c in (
      subst (λ (z : List RaisedDepValue). at ≤ length z) (sym e) (omega (arith, met.0, length-append (queue_of pool t) (raised_deps_at pool c))),
      subst (λ (z : List RaisedDepValue). find (is_unmet_dep pool (t ++ c ∷ [])) (take at z) ≡ None) (sym e)
          (subst (λ (z : List RaisedDepValue). find (is_unmet_dep pool (t ++ c ∷ [])) z ≡ None) (sym (take_within (queue_of pool t) (raised_deps_at pool c) at met.0))
          (none_still (is_unmet_dep pool t) (is_unmet_dep pool (t ++ c ∷ [])) (take at (queue_of pool t)) (still_met pool t (c ∷ [])) met.1)),
    )

-- ---- the cursor

find_at : {X : Type 0} (p : X → Bool) (xs : List X) (i : ℕ) (x : X) → find p (take i xs) ≡ None → slice_get xs i ≡ Some x → p x ≡ true → find p xs ≡ Some x
find_at p [] zero x n h e = absurd (cc)
find_at p [] (suc i) x n h e = absurd (cc)
find_at {X} p (y ∷ xs) zero x n h e =
    let s : x ≡ y = cc in
    rw (subst (λ (z : X). p z ≡ true) s e) (ap Some (sym s))
find_at p (y ∷ xs) (suc i) x n h e = elim (cases_Bool (p y)) [
  | inl t ↦ let bad : Some y ≡ None = rw t at n in absurd (cc)
  | inr t ↦ rw t (find_at p xs i x (rw t at n) h e)
]

pub find_here : {X : Type 0} (p : X → Bool) (xs : List X) (i : ℕ) (x : X) → find p (take i xs) ≡ None → slice_get xs i ≡ Some x → p x ≡ true → slice_get xs i ≡ find p xs
find_here p xs i x n h e = h ∙ sym (find_at p xs i x n h e)

pub none_at : {X : Type 0} (p : X → Bool) (xs : List X) (i : ℕ) (x : X) → find p (take i xs) ≡ None → slice_get xs i ≡ Some x → p x ≡ false → find p (take (suc i) xs) ≡ None
none_at p [] zero x n h e = absurd (cc)
none_at p [] (suc i) x n h e = absurd (cc)
none_at {X} p (y ∷ xs) zero x n h e =
    let s : x ≡ y = cc in
    rw (subst (λ (z : X). p z ≡ false) s e) refl
none_at p (y ∷ xs) (suc i) x n h e = elim (cases_Bool (p y)) [
  | inl t ↦ let bad : Some y ≡ None = rw t at n in absurd (cc)
  | inr t ↦ rw t (none_at p xs i x (rw t at n) h e)
]

pub past_end : {X : Type 0} (p : X → Bool) (xs : List X) (i : ℕ) → length xs ≤ i → find p (take i xs) ≡ None → slice_get xs i ≡ find p xs
past_end p [] zero h n = refl
past_end p [] (suc i) h n = refl
past_end p (x ∷ xs) zero h n = absurd (omega arith)
past_end p (x ∷ xs) (suc i) h n = elim (cases_Bool (p x)) [
  | inl t ↦ let bad : Some x ≡ None = rw t at n in absurd (cc)
  | inr t ↦ rw t (past_end p xs i (omega arith) (rw t at n))
]

pub met_next : (pool : SelectionProblem) (t : List ℕ) (at : ℕ) (r : RaisedDepValue) → AreFirstDepsMet pool t at → at < length (queue_of pool t) → slice_get (queue_of pool t) at ≡ Some r → is_unmet_dep pool t r ≡ false → AreFirstDepsMet pool t (at + 1)
met_next pool t at r met h g e =
    let z : at + 1 ≡ suc at = omega arith in
    (omega arith, subst (λ (k : ℕ). find (is_unmet_dep pool t) (take k (queue_of pool t)) ≡ None) (sym z) (none_at (is_unmet_dep pool t) (queue_of pool t) at r met.1 g e))
