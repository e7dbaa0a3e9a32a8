-- The first pair of equal names: that it is one, and that neighbours in a sorted list have it.
use Rattle.std.proofs.Common.{◌≡◌, ℕ, suc, zero, ◌+◌, ◌-◌, ◌<◌, ◌≤◌, ◌⊎◌, Bool, true, false, cond, List, [], ◌∷◌, map, length, get_or, drop, Option, Some, None, refl, ap, sym, ◌∙◌, subst, arith, inl, inr}
use Rattle.std.specs.Prelude.{bytes_eq, ◌&&◌, nat_lt}
use Rattle.std.specs.List.{flat_map}
use Rattle.std.specs.List.Sorted.{IsPermutation, IsSortedBy}
use Rattle.adb_fields.specs.declared.pairs.Pair.{Pair}
use Rattle.adb_fields.specs.Pairs.{NameWithPosition, is_lesser_pair_by_second_then_first, lesser_pair, least_pair, pair_if_same_name_and_first_precedes, least_pair_of_equal_names}
use Rattle.adb_fields.specs.FirstPair.{IsLeastPairIfAny}
use Rattle.adb_fields.specs.FirstPair.{IsLeastPair}
use Rattle.adb_fields.specs.FirstPair.{IsPairOfEqualNames}
use Rattle.adb_fields.specs.FirstPair.{IsIn}
use Rattle.adb_fields.proofs.Members.{in-map, from-map, in-flat_map, from-flat_map, in-permuted}
use borrow.Author.Tests.{ltb-true, ltb-false, eqb-true, eqb-false, lt-ltb}
use Rattle.std.specs.Cmp.Lexicographic.{bytes_decides, slice_cmp, texts_ties}
use Rattle.std.specs.Cmp.{IsTotalOrder, IsStrictWeakOrder}
use Rattle.std.proofs.lemmas.List.Sorted.{IsPermutation-map, IsPermutation-sym, ranks_by}
use Rattle.std.specs.Ordering.{nat_cmp, is_lt, is_gt, is_eq, ordering_reverse, ordering_then}
use Rattle.std.specs.declared.cmp.Ordering.{Ordering}
use Rattle.std.specs.declared.cmp.Ordering.TheVariants.{Less, Equal, Greater}
use Rattle.std.proofs.lemmas.Cmp.{upto, then_total, on_total, nat_list_cmp_total, nat_cmp_total, tied_itself}
use Rattle.std.proofs.lemmas.Map.Keys.{le_from_not_gt}
use Rattle.adb_fields.specs.NamedTexts.{name_with_position_cmp, neighbours_from, neighbours}

-- ---- two sets with the same first pair

pub record NotAfter (p q : Pair) : Type 0 where
  pub second : p.second ≤ q.second
  pub first : q.second ≡ p.second → p.first ≤ q.first

pub same-pair : (p q : Pair) → p.first ≡ q.first → p.second ≡ q.second → p ≡ q
same-pair p q f s = λ i. record { first = f i; second = s i }

pub unique : (P : Pair → Type 0) (a b : Option Pair) → IsLeastPairIfAny P a → IsLeastPairIfAny P b → a ≡ b
unique P None None h g = refl
unique P None (Some q) h g = absurd (h q g.is_one)
unique P (Some p) None h g = absurd (g p h.is_one)
unique P (Some p) (Some q) h g =
    let l : p.second ≤ q.second = h.second q g.is_one in
    let m : q.second ≤ p.second = g.second p h.is_one in
    let e : p.second ≡ q.second = omega arith in
    let n : p.first ≤ q.first = h.first q g.is_one (sym e) in
    let o : q.first ≤ p.first = g.first p h.is_one e in
    ap Some (same-pair p q (omega arith) e)

pub covered : (P Q : Pair → Type 0) (a : Option Pair) → ((p : Pair) → P p → Q p) → ((q : Pair) → Q q → (p : Pair) × P p × NotAfter p q) → IsLeastPairIfAny P a → IsLeastPairIfAny Q a
covered P Q None f g h = λ q k. let r = g q k in h r.0 r.1
covered P Q (Some p) f g h = record {
  is_one = f p h.is_one;
  second = λ q k. let r = g q k in let l : p.second ≤ r.0.second = h.second r.0 r.1 in let m : r.0.second ≤ q.second = r.2.second in omega arith;
  first = λ q k e.
      let r = g q k in
      let l : p.second ≤ r.0.second = h.second r.0 r.1 in
      let m : r.0.second ≤ q.second = r.2.second in
      let s : r.0.second ≡ p.second = omega arith in
      let t : q.second ≡ r.0.second = omega arith in
      let u : p.first ≤ r.0.first = h.first r.0 r.1 s in
      let v : r.0.first ≤ q.first = r.2.first t in
      omega arith;
}

pub alike : (P Q : Pair → Type 0) (a : Option Pair) → ((p : Pair) → P p → Q p) → ((p : Pair) → Q p → P p) → IsLeastPairIfAny P a → IsLeastPairIfAny Q a
alike P Q a f g h = covered P Q a f (λ q k. (q, g q k, record { second = omega arith; first = λ e. omega arith })) h

-- ---- the earliest of a list

pub is-before : (p q : Pair) (t : Bool) → is_lesser_pair_by_second_then_first p q ≡ t → cond t (NotAfter p q) (NotAfter q p)
is-before p q true h = record { second = grind (arith, ltb-true, eqb-true); first = λ e. grind (arith, ltb-true, eqb-true) }
is-before p q false h = record { second = grind (arith, ltb-false, eqb-false); first = λ e. grind (arith, ltb-false, eqb-false) }

abbrev pub Either : (Pair → Type 0) → (Pair → Type 0) → Pair → Type 0
Either P Q p = P p ⊎ Q p

either-by : (P Q : Pair → Type 0) (p q : Pair) (t : Bool) → is_lesser_pair_by_second_then_first q p ≡ t → IsLeastPair P p → IsLeastPair Q q → IsLeastPair (Either P Q) (cond t q p)
either-by P Q p q true e h g =
    let n : NotAfter q p = is-before q p true e in
    record {
      is_one = inr g.is_one;
      second = λ r k. elim k [ inl k ↦ (let l = h.second r k in let m = n.second in omega arith) | inr k ↦ g.second r k ];
      first = λ r k s. elim k [ inl k ↦ (let l = h.second r k in let m = n.second in let o = n.first (omega arith) in let u = h.first r k (omega arith) in omega arith) | inr k ↦ g.first r k s ];
    }
either-by P Q p q false e h g =
    let n : NotAfter p q = is-before q p false e in
    record {
      is_one = inl h.is_one;
      second = λ r k. elim k [ inl k ↦ h.second r k | inr k ↦ (let l = g.second r k in let m = n.second in omega arith) ];
      first = λ r k s. elim k [ inl k ↦ h.first r k s | inr k ↦ (let l = g.second r k in let m = n.second in let o = n.first (omega arith) in let u = g.first r k (omega arith) in omega arith) ];
    }

cond-some : (t : Bool) (p q : Pair) → cond t (Some q) (Some p) ≡ Some (cond t q p)
cond-some true p q = refl
cond-some false p q = refl

pub lesser_pair-first : (P Q : Pair → Type 0) (a b : Option Pair) → IsLeastPairIfAny P a → IsLeastPairIfAny Q b → IsLeastPairIfAny (Either P Q) (lesser_pair a b)
lesser_pair-first P Q None None h g = λ q k. elim k [ inl k ↦ h q k | inr k ↦ g q k ]
lesser_pair-first P Q None (Some q) h g = record { is_one = inr g.is_one; second = λ r k. elim k [ inl k ↦ absurd (h r k) | inr k ↦ g.second r k ]; first = λ r k s. elim k [ inl k ↦ absurd (h r k) | inr k ↦ g.first r k s ] }
lesser_pair-first P Q (Some p) None h g = record { is_one = inl h.is_one; second = λ r k. elim k [ inl k ↦ h.second r k | inr k ↦ absurd (g r k) ]; first = λ r k s. elim k [ inl k ↦ h.first r k s | inr k ↦ absurd (g r k) ] }
lesser_pair-first P Q (Some p) (Some q) h g = let F = λ (o : Option Pair). IsLeastPairIfAny (Either P Q) o in subst F (sym (cond-some (is_lesser_pair_by_second_then_first q p) p q)) (either-by P Q p q (is_lesser_pair_by_second_then_first q p) refl h g)

-- the pair that one place of a list has
abbrev pub IsThis : Option Pair → Pair → Type 0
IsThis o p = Some p ≡ o

some-first : (p : Pair) → IsLeastPair (IsThis (Some p)) p
some-first p = record { is_one = refl; second = λ q e. let f : q ≡ p = (cc) in let g = ap (λ r. r.second) f in omega arith; first = λ q e s. let f : q ≡ p = (cc) in let g = ap (λ r. r.first) f in omega arith }

pub this-first : (o : Option Pair) → IsLeastPairIfAny (IsThis o) o
this-first None = λ q e. (cc)
this-first (Some p) = some-first p

pub least_pair-first : (ps : List (Option Pair)) → IsLeastPairIfAny (λ p. IsIn (Some p) ps) (least_pair ps)
least_pair-first [] = λ q k. k
least_pair-first (p ∷ ps) = lesser_pair-first (IsThis p) (λ q. IsIn (Some q) ps) p (least_pair ps) (this-first p) (least_pair-first ps)

pub lesser_pair-assoc : (a b c : Option Pair) → lesser_pair (lesser_pair a b) c ≡ lesser_pair a (lesser_pair b c)
lesser_pair-assoc a b c =
    let P : Pair → Type 0 = Either (Either (IsThis a) (IsThis b)) (IsThis c) in
    let Q : Pair → Type 0 = Either (IsThis a) (Either (IsThis b) (IsThis c)) in
    let left : IsLeastPairIfAny P (lesser_pair (lesser_pair a b) c) = lesser_pair-first _ _ (lesser_pair a b) c (lesser_pair-first _ _ a b (this-first a) (this-first b)) (this-first c) in
    let right : IsLeastPairIfAny Q (lesser_pair a (lesser_pair b c)) = lesser_pair-first _ _ a (lesser_pair b c) (this-first a) (lesser_pair-first _ _ b c (this-first b) (this-first c)) in
    unique Q _ _ (alike P Q _ (λ p k. from_left p k) (λ p k. from_right p k) left) right
  where
    from_left : (p : Pair) → Either (Either (IsThis a) (IsThis b)) (IsThis c) p → Either (IsThis a) (Either (IsThis b) (IsThis c)) p
    from_left p (inl (inl k)) = inl k
    from_left p (inl (inr k)) = inr (inl k)
    from_left p (inr k) = inr (inr k)

    from_right : (p : Pair) → Either (IsThis a) (Either (IsThis b) (IsThis c)) p → Either (Either (IsThis a) (IsThis b)) (IsThis c) p
    from_right p (inl k) = inl (inl k)
    from_right p (inr (inl k)) = inl (inr k)
    from_right p (inr (inr k)) = inr k

-- ---- a pair of two names

abbrev pub AreAlike : NameWithPosition → NameWithPosition → Pair → Type 0
AreAlike x y p = (x.name ≡ y.name) × (x.position < y.position) × (p.first ≡ x.position) × (p.second ≡ y.position)

alike-by : (x y : NameWithPosition) (p : Pair) (s t : Bool) → bytes_eq x.name y.name ≡ s → nat_lt x.position y.position ≡ t → Some p ≡ cond (s && t) (Some (record { first = x.position; second = y.position })) None → AreAlike x y p
alike-by x y p true true e l h =
    let q : Pair = record { first = x.position; second = y.position } in
    let f : p ≡ q = (cc) in ((bytes_decides x.name y.name).0 e, ltb-true x.position y.position l, ap (λ r. r.first) f, ap (λ r. r.second) f)
alike-by x y p true false e l h = absurd (let b : None ≡ Some p = (cc) in (cc))
alike-by x y p false t e l h = absurd (let b : None ≡ Some p = (cc) in (cc))

pub are-alike : (x y : NameWithPosition) (p : Pair) → Some p ≡ pair_if_same_name_and_first_precedes x y → AreAlike x y p
are-alike x y p h = alike-by x y p (bytes_eq x.name y.name) (nat_lt x.position y.position) refl refl h

made-by : (q : Pair) (s t : Bool) → s ≡ true → t ≡ true → cond (s && t) (Some q) None ≡ Some q
made-by q s t e l = λ i. cond (e i && l i) (Some q) None

pub pair-made : (x y : NameWithPosition) → x.name ≡ y.name → x.position < y.position → pair_if_same_name_and_first_precedes x y ≡ Some (record { first = x.position; second = y.position })
pair-made x y e l = made-by (record { first = x.position; second = y.position }) (bytes_eq x.name y.name) (nat_lt x.position y.position) ((bytes_decides x.name y.name).1 e) (lt-ltb x.position y.position l)

-- ---- all pairs of a list

abbrev all_pairs : List NameWithPosition → List (Option Pair)
all_pairs names = flat_map (λ x. map (pair_if_same_name_and_first_precedes x) names) names

is-pair : (names : List NameWithPosition) (p : Pair) → IsIn (Some p) (all_pairs names) → IsPairOfEqualNames names p
is-pair names p h =
    let r = from-flat_map (λ x. map (pair_if_same_name_and_first_precedes x) names) (Some p) names h in
    let s = from-map (pair_if_same_name_and_first_precedes r.0) (Some p) names r.2 in
    let t : AreAlike r.0 s.0 p = are-alike r.0 s.0 p s.2 in
    record { one = r.0; other = s.0; one_in = r.1; other_in = s.1; alike = t.0; first = t.2; second = t.3; rises = (let l : r.0.position < s.0.position = t.1 in let e = t.2 in let f = t.3 in omega arith) }

has-pair : (names : List NameWithPosition) (p : Pair) → IsPairOfEqualNames names p → IsIn (Some p) (all_pairs names)
has-pair names p k =
    let l : k.one.position < k.other.position = (let e = k.first in let f = k.second in let g = k.rises in omega arith) in
    let made = pair-made k.one k.other k.alike l in
    let q : Pair = record { first = k.one.position; second = k.other.position } in
    let same : p ≡ q = same-pair p q k.first k.second in
    let P : Option Pair → Type 0 = λ o. IsIn o (all_pairs names) in
    subst P (made ∙ ap Some (sym same)) (in-flat_map (λ x. map (pair_if_same_name_and_first_precedes x) names) (pair_if_same_name_and_first_precedes k.one k.other) k.one names k.one_in (in-map (pair_if_same_name_and_first_precedes k.one) k.other names k.other_in))

pub least_pair_of_equal_names-first : (names : List NameWithPosition) → IsLeastPairIfAny (IsPairOfEqualNames names) (least_pair_of_equal_names names)
unfolding least_pair_of_equal_names
least_pair_of_equal_names-first names = alike (λ p. IsIn (Some p) (all_pairs names)) (IsPairOfEqualNames names) (least_pair (all_pairs names)) (is-pair names) (has-pair names) (least_pair-first (all_pairs names))

-- ---- neighbours in a sorted list

abbrev pub Rises : NameWithPosition → List NameWithPosition → Type 0
Rises x [] = Unit {0}
Rises x (y ∷ ys) = (is_gt (name_with_position_cmp x y) ≡ false) × Rises y ys

named_total : IsTotalOrder name_with_position_cmp
named_total = then_total (on_total (λ (x : NameWithPosition). x.name) nat_list_cmp_total) (on_total (λ (x : NameWithPosition). x.position) nat_cmp_total)

gt-back : (o : Ordering) → is_lt o ≡ false → is_gt (ordering_reverse o) ≡ false
gt-back Less h = (cc)
gt-back Equal h = refl
gt-back Greater h = refl

not-gt : (x y : NameWithPosition) → is_lt (name_with_position_cmp y x) ≡ false → is_gt (name_with_position_cmp x y) ≡ false
not-gt x y h = ap is_gt (named_total.antisymm x y) ∙ gt-back (name_with_position_cmp y x) h

pub rises-from : {X : Type 0} (f : X → NameWithPosition) (x : X) (xs : List X) → IsSortedBy (λ a b. is_lt (name_with_position_cmp (f a) (f b))) (x ∷ xs) → Rises (f x) (map f xs)
rises-from f x [] h = tt
rises-from {X} f x (y ∷ ys) h = (
  not-gt (f x) (f y) (h 0 x (omega arith) (omega arith)),
  rises-from f y ys (λ k d l m.
      let e : suc k + 1 ≡ suc (k + 1) = omega arith in
      let P : ℕ → Type 0 = λ n. is_lt (name_with_position_cmp (f (get_or (x ∷ y ∷ ys) n d)) (f (get_or (y ∷ ys) k d))) ≡ false in
      subst P e (h (suc k) d (omega arith) (omega arith))),
)

rises-in : (x : NameWithPosition) (xs : List NameWithPosition) (y : NameWithPosition) → Rises x xs → IsIn y xs → is_gt (name_with_position_cmp x y) ≡ false
rises-in x [] y h k = absurd k
rises-in x (z ∷ zs) y h (inl e) = ap (λ (w : NameWithPosition). is_gt (name_with_position_cmp x w)) e ∙ h.0
rises-in x (z ∷ zs) y h (inr k) = upto named_total x z y h.0 (rises-in z zs y h.1 k)

then-gt : (a b : Ordering) → is_gt (ordering_then a b) ≡ false → is_gt a ≡ false
then-gt Less b h = refl
then-gt Equal b h = refl
then-gt Greater b h = h

then-second : (a b : Ordering) → a ≡ Equal → is_gt (ordering_then a b) ≡ false → is_gt b ≡ false
then-second a b e h = sym (ap (λ o. is_gt (ordering_then o b)) e) ∙ h

both-equal : (a b : Ordering) → a ≡ ordering_reverse b → is_gt a ≡ false → is_gt b ≡ false → a ≡ Equal
both-equal a Less e h g = (cc)
both-equal a Equal e h g = e
both-equal a Greater e h g = (cc)

-- a name between two equal ones is equal to them
between : (x z y : NameWithPosition) → is_gt (name_with_position_cmp x z) ≡ false → is_gt (name_with_position_cmp z y) ≡ false → x.name ≡ y.name → slice_cmp nat_cmp x.name z.name ≡ Equal
between x z y h g e =
    let to : is_gt (slice_cmp nat_cmp x.name z.name) ≡ false = then-gt _ _ h in
    let back : is_gt (slice_cmp nat_cmp z.name y.name) ≡ false = then-gt _ _ g in
    let P : List ℕ → Type 0 = λ n. is_gt (slice_cmp nat_cmp z.name n) ≡ false in
    both-equal (slice_cmp nat_cmp x.name z.name) (slice_cmp nat_cmp z.name x.name) (nat_list_cmp_total.antisymm x.name z.name) to (subst P (sym e) back)

cmp-equal : (a b : List ℕ) → slice_cmp nat_cmp a b ≡ Equal → a ≡ b
cmp-equal a b h = (bytes_decides a b).0 (texts_ties a b ∙ ap is_eq h)

positions-rise : (x y : NameWithPosition) → slice_cmp nat_cmp x.name y.name ≡ Equal → is_gt (name_with_position_cmp x y) ≡ false → x.position ≤ y.position
positions-rise x y e h = le_from_not_gt x.position y.position (then-second (slice_cmp nat_cmp x.name y.name) (nat_cmp x.position y.position) e h)

-- of a name that stands twice, two neighbours are no later pair
abbrev Covers : NameWithPosition → List NameWithPosition → NameWithPosition → Type 0
Covers x xs y = (p : Pair) × IsIn (Some p) (neighbours_from x xs) × NotAfter p (record { first = x.position; second = y.position })

cover-by : (x z : NameWithPosition) (zs : List NameWithPosition) (y : NameWithPosition) (t : Bool) → nat_lt x.position z.position ≡ t → x.name ≡ z.name → x.position ≤ z.position → z.position ≤ y.position → (z.position < y.position → Covers z zs y) → x.position < y.position → Covers x (z ∷ zs) y
cover-by x z zs y true l e r s f m =
    let q : Pair = record { first = x.position; second = z.position } in
    (q, inl (sym (pair-made x z e (ltb-true x.position z.position l))), record { second = s; first = λ k. omega arith })
cover-by x z zs y false l e r s f m =
    let n : z.position ≤ x.position = ltb-false x.position z.position l in
    let same : z.position ≡ x.position = omega arith in
    let more = f (omega arith) in
    (more.0, inr more.1, record { second = more.2.second; first = λ k. let u = more.2.first k in omega arith })

covers : (x : NameWithPosition) (xs : List NameWithPosition) (y : NameWithPosition) → Rises x xs → IsIn y xs → x.name ≡ y.name → x.position < y.position → Covers x xs y
covers x [] y h k e l = absurd k
covers x (z ∷ zs) y h (inl k) e l =
    let P : NameWithPosition → Type 0 = λ w. w.position ≤ y.position in
    let Q : NameWithPosition → Type 0 = λ w. x.name ≡ w.name in
    let s : z.position ≤ y.position = subst P k (omega arith) in
    let p : y.position ≡ z.position = ap (λ (w : NameWithPosition). w.position) k in
    cover-by x z zs y (nat_lt x.position z.position) refl (subst Q k e) (omega arith) s (λ m. absurd (omega arith)) l
covers x (z ∷ zs) y h (inr k) e l =
    let up : is_gt (name_with_position_cmp z y) ≡ false = rises-in z zs y h.1 k in
    let same : slice_cmp nat_cmp x.name z.name ≡ Equal = between x z y h.0 up e in
    let names : x.name ≡ z.name = cmp-equal x.name z.name same in
    let on : z.name ≡ y.name = sym names ∙ e in
    let tied : slice_cmp nat_cmp z.name y.name ≡ Equal = (let P : List ℕ → Type 0 = λ n. slice_cmp nat_cmp z.name n ≡ Equal in subst P on (tied_itself nat_list_cmp_total z.name)) in
    cover-by x z zs y (nat_lt x.position z.position) refl names (positions-rise x z same h.0) (positions-rise z y tied up) (λ m. covers z zs y h.1 k on m) l

neighbour-is : (x : NameWithPosition) (xs : List NameWithPosition) (p : Pair) → IsIn (Some p) (neighbours_from x xs) → IsPairOfEqualNames (x ∷ xs) p
neighbour-is x [] p h = absurd h
neighbour-is x (y ∷ ys) p (inl e) =
    let t : AreAlike x y p = are-alike x y p e in
    record { one = x; other = y; one_in = inl refl; other_in = inr (inl refl); alike = t.0; first = t.2; second = t.3; rises = (let l : x.position < y.position = t.1 in let e = t.2 in let f = t.3 in omega arith) }
neighbour-is x (y ∷ ys) p (inr h) =
    let k = neighbour-is y ys p h in
    record { one = k.one; other = k.other; one_in = inr k.one_in; other_in = inr k.other_in; alike = k.alike; first = k.first; second = k.second; rises = k.rises }

abbrev CoversAny : NameWithPosition → List NameWithPosition → NameWithPosition → NameWithPosition → Type 0
CoversAny x xs one other = (p : Pair) × IsIn (Some p) (neighbours_from x xs) × NotAfter p (record { first = one.position; second = other.position })

further : (x y : NameWithPosition) (ys : List NameWithPosition) (one other : NameWithPosition) → CoversAny y ys one other → CoversAny x (y ∷ ys) one other
further x y ys one other h = (h.0, inr h.1, h.2)

covers-any : (x : NameWithPosition) (xs : List NameWithPosition) (one other : NameWithPosition) → Rises x xs → IsIn one (x ∷ xs) → IsIn other (x ∷ xs) → one.name ≡ other.name → one.position < other.position → CoversAny x xs one other
covers-any x xs one other h (inl a) (inl b) e l =
    let p : one.position ≡ x.position = ap (λ (w : NameWithPosition). w.position) a in
    let q : other.position ≡ x.position = ap (λ (w : NameWithPosition). w.position) b in
    absurd (omega arith)
covers-any x xs one other h (inl a) (inr b) e l =
    let P : NameWithPosition → Type 0 = λ w. w.name ≡ other.name in
    let Q : NameWithPosition → Type 0 = λ w. w.position < other.position in
    let R : NameWithPosition → Type 0 = λ w. CoversAny x xs w other in
    subst R (sym a) (covers x xs other h b (subst P a e) (subst Q a l))
covers-any x xs one other h (inr a) (inl b) e l =
    let P : NameWithPosition → Type 0 = λ w. one.name ≡ w.name in
    let names : one.name ≡ x.name = subst P b e in
    let tied : slice_cmp nat_cmp x.name one.name ≡ Equal = (let S : List ℕ → Type 0 = λ n. slice_cmp nat_cmp x.name n ≡ Equal in subst S (sym names) (tied_itself nat_list_cmp_total x.name)) in
    let up : x.position ≤ one.position = positions-rise x one tied (rises-in x xs one h a) in
    let q : other.position ≡ x.position = ap (λ (w : NameWithPosition). w.position) b in
    absurd (omega arith)
covers-any x [] one other h (inr a) (inr b) e l = absurd a
covers-any x (y ∷ ys) one other h (inr a) (inr b) e l = further x y ys one other (covers-any y ys one other h.1 a b e l)

covers-pair : (x : NameWithPosition) (xs : List NameWithPosition) (q : Pair) → Rises x xs → IsPairOfEqualNames (x ∷ xs) q → (p : Pair) × IsIn (Some p) (neighbours_from x xs) × NotAfter p q
covers-pair x xs q h k =
    let l : k.one.position < k.other.position = (let e = k.first in let f = k.second in let g = k.rises in omega arith) in
    let r = covers-any x xs k.one k.other h k.one_in k.other_in k.alike l in
    let e = k.first in
    let f = k.second in
    (r.0, r.1, record { second = (let u = r.2.second in omega arith); first = λ s. (let u = r.2.first (omega arith) in omega arith) })

neighbours-first : (x : NameWithPosition) (xs : List NameWithPosition) → Rises x xs → IsLeastPairIfAny (IsPairOfEqualNames (x ∷ xs)) (least_pair (neighbours_from x xs))
neighbours-first x xs h = covered (λ p. IsIn (Some p) (neighbours_from x xs)) (IsPairOfEqualNames (x ∷ xs)) (least_pair (neighbours_from x xs)) (neighbour-is x xs) (λ q k. covers-pair x xs q h k) (least_pair-first (neighbours_from x xs))

sorted-first : {X : Type 0} (f : X → NameWithPosition) (xs : List X) → IsSortedBy (λ a b. is_lt (name_with_position_cmp (f a) (f b))) xs → IsLeastPairIfAny (IsPairOfEqualNames (map f xs)) (least_pair (neighbours (map f xs)))
sorted-first f [] h = λ q k. k.one_in
sorted-first f (x ∷ xs) h = neighbours-first (f x) (map f xs) (rises-from f x xs h)

pair-permuted : (xs ys : List NameWithPosition) (p : Pair) → IsPermutation xs ys → IsPairOfEqualNames xs p → IsPairOfEqualNames ys p
pair-permuted xs ys p m k = record { one = k.one; other = k.other; one_in = in-permuted k.one xs ys m k.one_in; other_in = in-permuted k.other xs ys m k.other_in; alike = k.alike; first = k.first; second = k.second; rises = k.rises }

-- the names in any order, and the same names sorted
pub first_in_sorted : {X : Type 0} (f : X → NameWithPosition) (xs ys : List X) → IsPermutation xs ys → IsSortedBy (λ a b. is_lt (name_with_position_cmp (f a) (f b))) ys → least_pair (neighbours (map f ys)) ≡ least_pair_of_equal_names (map f xs)
first_in_sorted f xs ys m h =
    let moved = IsPermutation-map f xs ys m in
    unique (IsPairOfEqualNames (map f xs)) (least_pair (neighbours (map f ys))) (least_pair_of_equal_names (map f xs))
    (alike (IsPairOfEqualNames (map f ys)) (IsPairOfEqualNames (map f xs)) (least_pair (neighbours (map f ys))) (λ p k. pair-permuted (map f ys) (map f xs) p (IsPermutation-sym (map f xs) (map f ys) moved) k) (λ p k. pair-permuted (map f xs) (map f ys) p moved k) (sorted-first f ys h))
    (least_pair_of_equal_names-first (map f xs))

pub named_order : {X : Type 0} (f : X → NameWithPosition) → IsStrictWeakOrder (λ a b. is_lt (name_with_position_cmp (f a) (f b)))
named_order f = ranks_by named_total f

-- ---- going over the neighbours

pub turn : {X : Type 0} (f : X → NameWithPosition) (xs : List X) (j : ℕ) (d : X) → j + 1 < length xs → least_pair (neighbours (map f (drop j xs))) ≡ lesser_pair (pair_if_same_name_and_first_precedes (f (get_or xs j d)) (f (get_or xs (j + 1) d))) (least_pair (neighbours (map f (drop (j + 1) xs))))
turn f [] j d h = absurd (omega arith)
turn f (x ∷ []) j d h = absurd (omega arith)
turn f (x ∷ y ∷ xs) zero d h = refl
turn {X} f (x ∷ y ∷ xs) (suc j) d h =
    let e : suc j + 1 ≡ suc (j + 1) = omega arith in
    let P : ℕ → Type 0 = λ n. least_pair (neighbours (map f (drop j (y ∷ xs)))) ≡ lesser_pair (pair_if_same_name_and_first_precedes (f (get_or (y ∷ xs) j d)) (f (get_or (x ∷ y ∷ xs) n d))) (least_pair (neighbours (map f (drop n (x ∷ y ∷ xs))))) in
    subst P (sym e) (turn f (y ∷ xs) j d (omega arith))

last_alone : {X : Type 0} (f : X → NameWithPosition) (xs : List X) (j : ℕ) → length xs ≤ j + 1 → least_pair (neighbours (map f (drop j xs))) ≡ None
last_alone f [] zero h = refl
last_alone f [] (suc j) h = refl
last_alone f (x ∷ []) zero h = refl
last_alone f (x ∷ y ∷ xs) zero h = absurd (omega arith)
last_alone f (x ∷ xs) (suc j) h = last_alone f xs j (omega arith)

pub lesser_pair-none : (a : Option Pair) → lesser_pair a None ≡ a
lesser_pair-none None = refl
lesser_pair-none (Some p) = refl

pub next_pair : {X : Type 0} (f : X → NameWithPosition) (xs : List X) (j : ℕ) (d : X) (best : Option Pair) (o : Option Pair) → j + 1 < length xs → lesser_pair best (least_pair (neighbours (map f (drop j xs)))) ≡ o → lesser_pair (lesser_pair best (pair_if_same_name_and_first_precedes (f (get_or xs j d)) (f (get_or xs (j + 1) d)))) (least_pair (neighbours (map f (drop (j + 1) xs)))) ≡ o
next_pair f xs j d best o h e = lesser_pair-assoc best (pair_if_same_name_and_first_precedes (f (get_or xs j d)) (f (get_or xs (j + 1) d))) _ ∙ (ap (lesser_pair best) (sym (turn f xs j d h)) ∙ e)

pub no_next_pair : {X : Type 0} (f : X → NameWithPosition) (xs : List X) (j : ℕ) (best o : Option Pair) → length xs ≤ j + 1 → lesser_pair best (least_pair (neighbours (map f (drop j xs)))) ≡ o → best ≡ o
no_next_pair f xs j best o h e = sym (lesser_pair-none best) ∙ (ap (lesser_pair best) (sym (last_alone f xs j h)) ∙ e)

-- the same by the index of the later name
pub step_pair : {X : Type 0} (f : X → NameWithPosition) (xs : List X) (i : ℕ) (d : X) (best next o p : Option Pair) → 1 ≤ i → i < length xs → p ≡ pair_if_same_name_and_first_precedes (f (get_or xs (i - 1) d)) (f (get_or xs i d)) → next ≡ lesser_pair best p → lesser_pair best (least_pair (neighbours (map f (drop (i - 1) xs)))) ≡ o → lesser_pair next (least_pair (neighbours (map f (drop (i + 1 - 1) xs)))) ≡ o
step_pair f xs i d best next o p one lt e n h =
    let a : i + 1 - 1 ≡ i - 1 + 1 = omega arith in
    let b : i ≡ i - 1 + 1 = omega arith in
    let same : p ≡ pair_if_same_name_and_first_precedes (f (get_or xs (i - 1) d)) (f (get_or xs (i - 1 + 1) d)) = e ∙ ap (λ k. pair_if_same_name_and_first_precedes (f (get_or xs (i - 1) d)) (f (get_or xs k d))) b in
    (λ k. lesser_pair ((n ∙ ap (lesser_pair best) same) k) (least_pair (neighbours (map f (drop (a k) xs))))) ∙ next_pair f xs (i - 1) d best o (omega arith) h
