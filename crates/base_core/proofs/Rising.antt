-- Lists of names in byte order, each once.
use Rattle.std.proofs.Common.{◌≡◌, ◌⊎◌, inl, inr, ℕ, suc, zero, ◌<◌, Bool, true, false, cond, List, [], ◌∷◌, length, get_or, AllPairs, Contains, refl, sym, ap, ap₂, subst, ◌∙◌, Ordering, Less, Equal, Greater, nat_cmp, arith}
use Rattle.std.specs.Cmp.Lexicographic.{slice_cmp}
use Rattle.std.specs.Ordering.{match_ordering, ordering_reverse}
use Rattle.std.proofs.lemmas.Cmp.{nat_list_cmp_total, tied_itself}
use Rattle.std.proofs.lemmas.Map.Lookups.{exact_bytes}

abbrev pub order : List ℕ → List ℕ → Ordering
order = slice_cmp nat_cmp

-- membership, and the order, by recursion
abbrev pub IsIn : List ℕ → List (List ℕ) → Type 0
IsIn q [] = ⊥
IsIn q (x ∷ xs) = (q ≡ x) ⊎ IsIn q xs

abbrev pub Rises : List (List ℕ) → Type 0
Rises [] = Unit {0}
Rises (x ∷ xs) = ((q : List ℕ) → IsIn q xs → order x q ≡ Less) × Rises xs

-- ---- as std says it

pub contains_from_in : (xs : List (List ℕ)) (q : List ℕ) → IsIn q xs → Contains xs q
contains_from_in [] q h = absurd h
contains_from_in (x ∷ xs) q (inl is) = (0, omega arith, sym is)
contains_from_in (x ∷ xs) q (inr more) = let found = contains_from_in xs q more in (suc found.0, omega (arith, found.1), found.2)

pub in_at : (xs : List (List ℕ)) (k : ℕ) (d : List ℕ) → k < length xs → IsIn (get_or xs k d) xs
in_at [] k d below = absurd (omega (arith, below))
in_at (x ∷ xs) zero d below = inl refl
in_at (x ∷ xs) (suc k) d below = inr (in_at xs k d (omega (arith, below)))

pub in_from_contains : (xs : List (List ℕ)) (q : List ℕ) → Contains xs q → IsIn q xs
in_from_contains xs q found = let P : List ℕ → Type 0 = λ r. IsIn r xs in subst P found.2 (in_at xs found.0 q found.1)

pub pairs_from_rises : (xs : List (List ℕ)) → Rises xs → AllPairs (λ a b. order a b ≡ Less) xs
pairs_from_rises [] rises = λ i j d before below. absurd (omega (arith, below))
pairs_from_rises (x ∷ xs) rises = λ i j d before below. at_pair x xs rises (pairs_from_rises xs rises.1) i j d before below
  where
    at_pair : (x : List ℕ) (xs : List (List ℕ)) → Rises (x ∷ xs) → AllPairs (λ a b. order a b ≡ Less) xs
        → (i j : ℕ) (d : List ℕ) → i < j → j < length (x ∷ xs) → order (get_or (x ∷ xs) i d) (get_or (x ∷ xs) j d) ≡ Less
    at_pair x xs rises more i zero d before below = absurd (omega (arith, before))
    at_pair x xs rises more zero (suc j) d before below = rises.0 (get_or xs j d) (in_at xs j d (omega (arith, below)))
    at_pair x xs rises more (suc i) (suc j) d before below = more i j d (omega (arith, before)) (omega (arith, below))

pub rises_from_pairs : (xs : List (List ℕ)) → AllPairs (λ a b. order a b ≡ Less) xs → Rises xs
rises_from_pairs [] pairs = tt
rises_from_pairs (x ∷ xs) pairs = (
  λ q here. (let found = contains_from_in xs q here in
      let P : List ℕ → Type 0 = λ r. order x r ≡ Less in subst P found.2 (pairs 0 (suc found.0) q (omega arith) (omega (arith, found.1)))),
  rises_from_pairs xs (λ i j d before below. pairs (suc i) (suc j) d (omega (arith, before)) (omega (arith, below))),
)

-- ---- one more name, and the names of a list that pass a test

abbrev pub put_in : List ℕ → List (List ℕ) → List (List ℕ)
put_in x [] = x ∷ []
put_in x (y ∷ ys) = match_ordering (order x y) (x ∷ (y ∷ ys)) (y ∷ ys) (y ∷ put_in x ys)

in_put : (q x : List ℕ) (ys : List (List ℕ)) → IsIn q (put_in x ys) → (q ≡ x) ⊎ IsIn q ys
in_put q x [] here = here
in_put q x (y ∷ ys) here = placed (order x y) q x y ys (put_in x ys) (in_put q x ys) here
  where
    placed : (o : Ordering) (q x y : List ℕ) (ys more : List (List ℕ)) → (IsIn q more → (q ≡ x) ⊎ IsIn q ys)
        → IsIn q (match_ordering o (x ∷ (y ∷ ys)) (y ∷ ys) (y ∷ more)) → (q ≡ x) ⊎ IsIn q (y ∷ ys)
    placed Less q x y ys more rest here = here
    placed Equal q x y ys more rest here = inr here
    placed Greater q x y ys more rest (inl is) = inr (inl is)
    placed Greater q x y ys more rest (inr later) = elim (rest later) [ inl is ↦ inl is | inr old ↦ inr (inr old) ]

put_new : (x : List ℕ) (ys : List (List ℕ)) → IsIn x (put_in x ys)
put_new x [] = inl refl
put_new x (y ∷ ys) = placed (order x y) x y ys (put_in x ys) refl (put_new x ys)
  where
    placed : (o : Ordering) (x y : List ℕ) (ys more : List (List ℕ)) → order x y ≡ o → IsIn x more
        → IsIn x (match_ordering o (x ∷ (y ∷ ys)) (y ∷ ys) (y ∷ more))
    placed Less x y ys more is rest = inl refl
    placed Equal x y ys more is rest = inl (exact_bytes x y is)
    placed Greater x y ys more is rest = inr rest

put_old : (q x : List ℕ) (ys : List (List ℕ)) → IsIn q ys → IsIn q (put_in x ys)
put_old q x [] here = absurd here
put_old q x (y ∷ ys) here = placed (order x y) q x y ys (put_in x ys) (put_old q x ys) here
  where
    placed : (o : Ordering) (q x y : List ℕ) (ys more : List (List ℕ)) → (IsIn q ys → IsIn q more) → IsIn q (y ∷ ys)
        → IsIn q (match_ordering o (x ∷ (y ∷ ys)) (y ∷ ys) (y ∷ more))
    placed Less q x y ys more rest here = inr here
    placed Equal q x y ys more rest here = here
    placed Greater q x y ys more rest (inl is) = inl is
    placed Greater q x y ys more rest (inr old) = inr (rest old)

put_rises : (x : List ℕ) (ys : List (List ℕ)) → Rises ys → Rises (put_in x ys)
put_rises x [] rises = (λ q here. absurd here, tt)
put_rises x (y ∷ ys) rises = placed (order x y) x y ys (put_in x ys) refl rises (λ q. in_put q x ys) (put_rises x ys rises.1)
  where
    above : (x y : List ℕ) (ys : List (List ℕ)) → order x y ≡ Less → Rises (y ∷ ys) → (q : List ℕ) → IsIn q (y ∷ ys) → order x q ≡ Less
    above x y ys less rises q (inl is) = ap (order x) is ∙ less
    above x y ys less rises q (inr old) = nat_list_cmp_total.trans x y q less (rises.0 q old)

    later : (x y : List ℕ) (ys : List (List ℕ)) → order x y ≡ Greater → Rises (y ∷ ys) → (q : List ℕ) → (q ≡ x) ⊎ IsIn q ys → order y q ≡ Less
    later x y ys greater rises q (inl is) = ap (order y) is ∙ nat_list_cmp_total.antisymm y x ∙ ap ordering_reverse greater
    later x y ys greater rises q (inr old) = rises.0 q old

    placed : (o : Ordering) (x y : List ℕ) (ys more : List (List ℕ)) → order x y ≡ o → Rises (y ∷ ys)
        → ((q : List ℕ) → IsIn q more → (q ≡ x) ⊎ IsIn q ys) → Rises more
        → Rises (match_ordering o (x ∷ (y ∷ ys)) (y ∷ ys) (y ∷ more))
    placed Less x y ys more is rises only rest = (above x y ys is rises, rises)
    placed Equal x y ys more is rises only rest = rises
    placed Greater x y ys more is rises only rest = (λ q here. later x y ys is rises q (only q here), rest)

abbrev pub keep : (List ℕ → Bool) → List (List ℕ) → List (List ℕ)
keep test [] = []
keep test (x ∷ xs) = cond (test x) (put_in x (keep test xs)) (keep test xs)

pub keep_rises : (test : List ℕ → Bool) (xs : List (List ℕ)) → Rises (keep test xs)
keep_rises test [] = tt
keep_rises test (x ∷ xs) = either (test x) x (keep test xs) (keep_rises test xs)
  where
    either : (b : Bool) (x : List ℕ) (kept : List (List ℕ)) → Rises kept → Rises (cond b (put_in x kept) kept)
    either true x kept rises = put_rises x kept rises
    either false x kept rises = rises

pub kept_passes : (test : List ℕ → Bool) (xs : List (List ℕ)) (q : List ℕ) → IsIn q (keep test xs) → test q ≡ true
kept_passes test [] q here = absurd here
kept_passes test (x ∷ xs) q here = either test (test x) x (keep test xs) q refl (kept_passes test xs q) here
  where
    new_or_old : (test : List ℕ → Bool) (x : List ℕ) (kept : List (List ℕ)) (q : List ℕ) → test x ≡ true → (IsIn q kept → test q ≡ true)
        → (q ≡ x) ⊎ IsIn q kept → test q ≡ true
    new_or_old test x kept q passes rest (inl is) = ap test is ∙ passes
    new_or_old test x kept q passes rest (inr old) = rest old

    either : (test : List ℕ → Bool) (b : Bool) (x : List ℕ) (kept : List (List ℕ)) (q : List ℕ) → test x ≡ b → (IsIn q kept → test q ≡ true)
        → IsIn q (cond b (put_in x kept) kept) → test q ≡ true
    either test true x kept q passes rest here = new_or_old test x kept q passes rest (in_put q x kept here)
    either test false x kept q passes rest here = rest here

pub passing_kept : (test : List ℕ → Bool) (xs : List (List ℕ)) (q : List ℕ) → IsIn q xs → test q ≡ true → IsIn q (keep test xs)
passing_kept test [] q here passes = absurd here
passing_kept test (x ∷ xs) q (inl is) passes = head (test x) x (keep test xs) q is (ap test (sym is) ∙ passes)
  where
    head : (b : Bool) (x : List ℕ) (kept : List (List ℕ)) (q : List ℕ) → q ≡ x → b ≡ true → IsIn q (cond b (put_in x kept) kept)
    head true x kept q is passes = let P : List ℕ → Type 0 = λ r. IsIn r (put_in x kept) in subst P (sym is) (put_new x kept)
    head false x kept q is passes = absurd (cc)
passing_kept test (x ∷ xs) q (inr old) passes = tail (test x) x (keep test xs) q (passing_kept test xs q old passes)
  where
    tail : (b : Bool) (x : List ℕ) (kept : List (List ℕ)) (q : List ℕ) → IsIn q kept → IsIn q (cond b (put_in x kept) kept)
    tail true x kept q old = put_old q x kept old
    tail false x kept q old = old

-- ---- two of them with the same names are equal

pub not_itself : (x : List ℕ) → order x x ≡ Less → ⊥
not_itself x less = absurd (let tied = tied_itself nat_list_cmp_total x in cc)

not_both : (x y : List ℕ) → order x y ≡ Less → order y x ≡ Less → ⊥
not_both x y less more = not_itself x (nat_list_cmp_total.trans x y x less more)

heads_same : (x y : List ℕ) (xs ys : List (List ℕ)) → Rises (x ∷ xs) → Rises (y ∷ ys) → IsIn x (y ∷ ys) → IsIn y (x ∷ xs) → x ≡ y
heads_same x y xs ys rx ry (inl is) there = is
heads_same x y xs ys rx ry (inr old) (inl is) = sym is
heads_same x y xs ys rx ry (inr old) (inr later) = absurd (not_both x y (rx.0 y later) (ry.0 x old))

-- a name behind the first one is behind an equal first one
behind : (x y : List ℕ) (xs ys : List (List ℕ)) → x ≡ y → Rises (x ∷ xs) → (q : List ℕ) → IsIn q xs → IsIn q (y ∷ ys) → IsIn q ys
behind x y xs ys same rises q old (inl is) = absurd (not_itself x (ap (order x) (same ∙ sym is) ∙ rises.0 q old))
behind x y xs ys same rises q old (inr later) = later

pub same_list : (xs ys : List (List ℕ)) → Rises xs → Rises ys → ((q : List ℕ) → IsIn q xs → IsIn q ys) → ((q : List ℕ) → IsIn q ys → IsIn q xs) → xs ≡ ys
same_list [] [] rx ry there back = refl
same_list [] (y ∷ ys) rx ry there back = absurd (back y (inl refl))
same_list (x ∷ xs) [] rx ry there back = absurd (there x (inl refl))
same_list (x ∷ xs) (y ∷ ys) rx ry there back =
    let same = heads_same x y xs ys rx ry (there x (inl refl)) (back y (inl refl)) in
    ap₂ ◌∷◌ same (same_list xs ys rx.1 ry.1
    (λ q old. behind x y xs ys same rx q old (there q (inr old)))
    (λ q old. behind y x ys xs (sym same) ry q old (back q (inr old))))
