-- How many of a list precedes an element orders the elements of the list.
use Rattle.std.proofs.Common.{◌≡◌, inl, inr, ℕ, zero, suc, ◌≤◌, ◌<◌, Bool, true, false, List, [], ◌∷◌, length, map, get_or, refl, sym, subst, ap, ◌∙◌, ◌-◌, arith}
use Rattle.std.specs.Prelude.{Some, slice_get}
use Rattle.std.specs.List.{filter}
use Rattle.std.specs.List.Sorted.{IsSorted, IsPartitionedBy, IsPartitionPoint}
use Rattle.std.specs.Ordering.{is_eq, is_lt, nat_cmp, ordering_reverse}
use Rattle.std.specs.Cmp.{IsTotalOrder, alike_right, tied_itself}
use Rattle.std.specs.declared.cmp.Ordering.{Ordering}
use Rattle.std.specs.declared.cmp.Ordering.TheVariants.{Less, Equal, Greater}
use Rattle.std.proofs.lemmas.Bool.Decides.{nat_tests}
use Rattle.std.proofs.lemmas.List.Sorted.{ranks_by, sorted_far}
use Rattle.std.proofs.lemmas.Bool.{cases_Bool}
use Rattle.candidate_core.specs.Options.{IsIn}
use Rattle.candidate_core.proofs.Steps.{get_at}

lt_less : (r : Ordering) → is_lt r ≡ true → r ≡ Less
lt_less Less e = refl
lt_less Equal e = absurd (cc)
lt_less Greater e = absurd (cc)

nat_less : (m n : ℕ) → m < n → nat_cmp m n ≡ Less
nat_less m n h = grind (arith, nat_tests)

pub nat_same : (m n : ℕ) → m ≡ n → nat_cmp m n ≡ Equal
nat_same m n h = grind (arith, nat_tests)

nat_greater : (m n : ℕ) → n < m → nat_cmp m n ≡ Greater
nat_greater m n h = grind (arith, nat_tests)

module _ {X : Type 0} (cmp : X → X → Ordering) (total : IsTotalOrder cmp) where
  abbrev count : List X → X → ℕ
  count xs y = length (filter (λ x. is_lt (cmp x y)) xs)

  pub same_count : (a b : X) → cmp a b ≡ Equal → (xs : List X) → count xs a ≡ count xs b
  same_count a b e [] = refl
  same_count a b e (x ∷ xs) =
      let t : is_lt (cmp x a) ≡ is_lt (cmp x b) = ap is_lt (alike_right total a b x e) in
      elim (cases_Bool (is_lt (cmp x b))) [
        | inl h ↦ rw (t ∙ h, h) (ap suc (same_count a b e xs))
        | inr h ↦ rw (t ∙ h, h) (same_count a b e xs)
      ]

  module _ (a b : X) (less : cmp a b ≡ Less) where
    before_both : (x : X) → is_lt (cmp x a) ≡ true → is_lt (cmp x b) ≡ true
    before_both x e = ap is_lt (total.trans x a b (lt_less (cmp x a) e) less)

    at_most : (xs : List X) → count xs a ≤ count xs b
    at_most [] = omega arith
    at_most (x ∷ xs) =
        let rest = at_most xs in
        elim (cases_Bool (is_lt (cmp x a))) [
          | inl e ↦ rw (e, before_both x e) (omega (arith, rest))
          | inr e ↦ elim (cases_Bool (is_lt (cmp x b))) [
            | inl h ↦ rw (e, h) (omega (arith, rest))
            | inr h ↦ rw (e, h) rest
          ]
        ]

    below : (xs : List X) → IsIn a xs → count xs a < count xs b
    below [] m = absurd m
    below (x ∷ xs) (inl s) =
        let rest = at_most xs in
        let e : is_lt (cmp x a) ≡ false = subst (λ (z : X). is_lt (cmp z a) ≡ false) s (ap is_lt (tied_itself total a)) in
        let h : is_lt (cmp x b) ≡ true = subst (λ (z : X). is_lt (cmp z b) ≡ true) s (ap is_lt less) in
        rw (e, h) (omega (arith, rest))
    below (x ∷ xs) (inr m) =
        let rest = below xs m in
        elim (cases_Bool (is_lt (cmp x a))) [
          | inl e ↦ rw (e, before_both x e) (omega (arith, rest))
          | inr e ↦ elim (cases_Bool (is_lt (cmp x b))) [
            | inl h ↦ rw (e, h) (omega (arith, rest))
            | inr h ↦ rw (e, h) rest
          ]
        ]

  pub counts_order : (xs : List X) (a b : X) → IsIn a xs → IsIn b xs → nat_cmp (count xs a) (count xs b) ≡ cmp a b
  counts_order xs a b m n = by (cmp a b) refl
    where
      by : (o : Ordering) → o ≡ cmp a b → nat_cmp (count xs a) (count xs b) ≡ cmp a b
      by Less e = nat_less (count xs a) (count xs b) (below a b (sym e) xs m) ∙ e
      by Equal e = nat_same (count xs a) (count xs b) (same_count a b (sym e) xs) ∙ e
      by Greater e =
          let back : cmp b a ≡ Less = total.antisymm b a ∙ ap ordering_reverse (sym e) in
          nat_greater (count xs a) (count xs b) (below b a back xs n) ∙ e

  -- in a list in order, those that precedes an element are a front
  pub a_front_comes_before : (xs : List X) (v : X) → IsSorted cmp xs → IsPartitionedBy (λ x. is_lt (cmp x v)) xs
  a_front_comes_before xs v up = λ i j d low high passes.
      let far : is_lt (cmp (get_or xs j d) (get_or xs i d)) ≡ false = sorted_far (λ x y. is_lt (cmp x y)) (ranks_by total (λ (x : X). x)) xs up i j d low high in
      by (get_or xs i d) (get_or xs j d) (cmp (get_or xs j d) (get_or xs i d)) refl far (lt_less (cmp (get_or xs j d) v) passes)
    where
      by : (x y : X) (o : Ordering) → o ≡ cmp y x → is_lt (cmp y x) ≡ false → cmp y v ≡ Less → is_lt (cmp x v) ≡ true
      by x y Less e far h = let bad : true ≡ false = ap is_lt e ∙ far in absurd (cc)
      by x y Equal e far h = ap is_lt (sym (total.congr y x v (sym e)) ∙ h)
      by x y Greater e far h = ap is_lt (total.trans x y v (total.antisymm x y ∙ ap ordering_reverse (sym e)) h)

-- how long a front is whose elements pass, if no other passes
pub front_count : {X : Type 0} (p : X → Bool) (xs : List X) (i : ℕ) → i ≤ length xs → IsPartitionPoint (λ x. p x ≡ true) (λ x. p x ≡ false) xs i → i ≡ length (filter p xs)
front_count p [] i h point = omega (arith, h)
front_count p (x ∷ xs) zero h point =
    let e : p x ≡ false = point.1 0 x (omega arith) (omega arith) in
    rw e (front_count p xs 0 (omega arith) ((λ k d low high. absurd (omega (arith, high))), (λ k d low high. point.1 (suc k) d (omega arith) (omega (arith, high)))))
front_count p (x ∷ xs) (suc i) h point =
    let e : p x ≡ true = point.0 0 x (omega arith) (omega arith) in
    rw e (ap suc (front_count p xs i (omega (arith, h)) (
      (λ k d low high. point.0 (suc k) d (omega arith) (omega (arith, high))),
      (λ k d low high. point.1 (suc k) d (omega (arith, low)) (omega (arith, high))),
    )))

-- as many of a list pass as of what a function makes of it
pub counted_in : {X Y : Type 0} (f : X → Y) (p : Y → Bool) (xs : List X) → length (filter (λ x. p (f x)) xs) ≡ length (filter p (map f xs))
counted_in f p [] = refl
counted_in f p (x ∷ xs) = elim (cases_Bool (p (f x))) [
  | inl e ↦ rw e (ap suc (counted_in f p xs))
  | inr e ↦ rw e (counted_in f p xs)
]

pub here_is : {X : Type 0} (xs : List X) (i : ℕ) (d x : X) → i < length xs → slice_get xs i ≡ Some x → get_or xs i d ≡ x
here_is xs i d x within at =
    let both : Some (get_or xs i d) ≡ Some x = sym (get_at xs i d within) ∙ at in
    cc

module _ {X : Type 0} (cmp : X → X → Ordering) (total : IsTotalOrder cmp) where
  -- what is not equal and does not come after precedes
  less_by : (x y : X) → is_lt (cmp y x) ≡ false → is_eq (cmp x y) ≡ false → is_lt (cmp x y) ≡ true
  less_by x y back apart = by (cmp x y) refl
    where
      by : (o : Ordering) → o ≡ cmp x y → is_lt (cmp x y) ≡ true
      by Less e = ap is_lt (sym e)
      by Equal e = let bad : true ≡ false = ap is_eq e ∙ apart in absurd (cc)
      by Greater e =
          let less : cmp y x ≡ Less = total.antisymm y x ∙ ap ordering_reverse (sym e) in
          let bad : true ≡ false = sym (ap is_lt less) ∙ back in
          absurd (cc)

  -- in a list in order, as many precedes an element as precede it, unless it is equal to the last of
  -- these
  pub place_counts : (xs : List X) (i : ℕ) (x : X) → IsSorted cmp xs → slice_get xs i ≡ Some x → i < length xs → (0 < i → (y : X) → slice_get xs (i - 1) ≡ Some y → is_eq (cmp y x) ≡ false) → i ≡ length (filter (λ y. is_lt (cmp y x)) xs)
  place_counts xs i x up at within apart =
      let weak = ranks_by total (λ (y : X). y) in
      front_count (λ y. is_lt (cmp y x)) xs i (omega (arith, within)) (
        (λ k d low high.
            let last : X = get_or xs (i - 1) d in
            let there : slice_get xs (i - 1) ≡ Some last = get_at xs (i - 1) d (omega (arith, within)) in
            let back : is_lt (cmp x last) ≡ false = subst (λ (z : X). is_lt (cmp z last) ≡ false) (here_is xs i d x within at) (sorted_far (λ x y. is_lt (cmp x y)) weak xs up (i - 1) i d (omega arith) within) in
            let less : is_lt (cmp last x) ≡ true = less_by last x back (apart (omega (arith, high)) last there) in
            a_front_comes_before cmp total xs x up k (i - 1) d (omega (arith, high)) (omega (arith, within)) less),
        (λ k d low high.
            subst (λ (z : X). is_lt (cmp (get_or xs k d) z) ≡ false) (here_is xs i d x within at) (sorted_far (λ x y. is_lt (cmp x y)) weak xs up i k d low high)),
      )
