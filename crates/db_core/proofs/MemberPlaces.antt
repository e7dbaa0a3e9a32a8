-- The place of a member by its name.
use Rattle.std.proofs.Common.{◌≡◌, ◌⊎◌, inl, inr, ℕ, suc, zero, ◌<◌, ◌≤◌, Bool, true, false, List, [], ◌∷◌, map, length, get_or, Option, Some, None, refl, ap, sym, ◌∙◌, arith, true≢false}
use Rattle.std.specs.Prelude.{◌==◌, bytes_eq, slice_get}
use Rattle.std.specs.Cmp.Lexicographic.{bytes_decides}
use Rattle.std.specs.List.Sorted.{IsPartitionPoint, IsPartitionedBy}
use Rattle.std.specs.Ordering.{is_lt}
use Rattle.std.specs.declared.cmp.Ordering.TheVariants.{Less}
use Rattle.std.proofs.lemmas.Bool.{cases_eq, cases_lt}
use Rattle.std.proofs.lemmas.Bool.Decides.{eqb_tells}
use Rattle.std.proofs.lemmas.Cmp.{nat_list_cmp_total, tied_itself}
use Rattle.std.proofs.lemmas.List.{get_or-map, length-map}
use Rattle.base_core.specs.Listed.{AreSortedDistinctTexts}
use Rattle.base_core.specs.ByteOrder.{bytes_cmp, precedes}
use Rattle.base_core.proofs.Orderings.{is_less}
use Rattle.db_core.specs.EntrySeen.{member_of_entry}
use Rattle.db_core.specs.Members.{Member, is_found_place, member_name}
use Rattle.db_core.proofs.Ordered.{Kept, kept_names}

abbrev pub kept_name : Kept → List ℕ
kept_name e = member_name (member_of_entry e)

abbrev is_one : {X : Type 0} → Option X → Bool
is_one None = false
is_one (Some x) = true

abbrev value_or : {X : Type 0} → X → Option X → X
value_or d None = d
value_or d (Some x) = x

-- ---- the names of those that are kept

-- of two the later one has the greater name
later : (es : List Kept) → AreSortedDistinctTexts (kept_names es) → (i j : ℕ) (d : Kept) → i < j → j < length es → bytes_cmp (kept_name (get_or es i d)) (kept_name (get_or es j d)) ≡ Less
later es rising i j d l m =
    sym (λ k. bytes_cmp (get_or-map kept_name es i d (kept_name d) (omega (arith, l, m)) k) (get_or-map kept_name es j d (kept_name d) m k))
    ∙ rising i j (kept_name d) l (omega (arith, m, length-map es kept_name))

pub kept_parted : (es : List Kept) (q : List ℕ) → AreSortedDistinctTexts (kept_names es) → IsPartitionedBy (λ e. precedes (kept_name e) q) es
kept_parted es q rising i j d le l h = go (cases_eq i j)
  where
    go : (i ≡ j) ⊎ (i ≡ j → ⊥) → precedes (kept_name (get_or es i d)) q ≡ true
    go (inl e) = ap (λ k. precedes (kept_name (get_or es k d)) q) e ∙ h
    go (inr n) =
        let less : bytes_cmp (kept_name (get_or es j d)) q ≡ Less = is_less (bytes_cmp (kept_name (get_or es j d)) q) h in
        ap is_lt (nat_list_cmp_total.trans (kept_name (get_or es i d)) (kept_name (get_or es j d)) q (later es rising i j d (omega (arith, le, n)) l) less)

module _ (es : List Kept) (q : List ℕ) (at : ℕ) (rising : AreSortedDistinctTexts (kept_names es))
    (point : IsPartitionPoint (λ e. precedes (kept_name e) q ≡ true) (λ e. precedes (kept_name e) q ≡ false) es at) where
  -- one that stands elsewhere has another name
  other_there : (i : ℕ) (d : Kept) → i < length es → (i ≡ at → ⊥) → bytes_eq (kept_name (get_or es i d)) q ≡ false
  other_there i d l n = go (bytes_eq (kept_name (get_or es i d)) q) refl (cases_lt i at)
    where
      go : (t : Bool) → bytes_eq (kept_name (get_or es i d)) q ≡ t → (i < at) ⊎ (at ≤ i) → t ≡ false
      go false e s = refl
      go true e (inl below) =
          let is : kept_name (get_or es i d) ≡ q = (bytes_decides (kept_name (get_or es i d)) q).0 e in
          absurd (true≢false (sym (point.0 i d (omega arith) below) ∙ (ap (λ a. precedes a q) is ∙ ap is_lt (tied_itself nat_list_cmp_total q))))
      go true e (inr above) =
          let is : kept_name (get_or es i d) ≡ q = (bytes_decides (kept_name (get_or es i d)) q).0 e in
          let less : bytes_cmp (kept_name (get_or es at d)) (kept_name (get_or es i d)) ≡ Less = later es rising at i d (omega (arith, above, n)) l in
          absurd (true≢false (sym (ap is_lt less) ∙ (ap (λ b. precedes (kept_name (get_or es at d)) b) is ∙ point.1 at d (omega arith) (omega (arith, above, n, l)))))

  -- a member by its place
  member_there : (xs : List Kept) (i : ℕ) (m : Member) (d : Kept) → slice_get (map member_of_entry xs) i ≡ Some m → (i < length xs) × (kept_name (get_or xs i d) ≡ member_name m)
  member_there [] i m d g = absurd (true≢false (sym (ap is_one g)))
  member_there (x ∷ xs) zero m d g = (omega arith, ap (λ o. member_name (value_or m o)) g)
  member_there (x ∷ xs) (suc i) m d g = let r = member_there xs i m d g in (omega (arith, r.0), r.1)

  pub none_at_end : at ≡ length es → (i : ℕ) (m : Member) → slice_get (map member_of_entry es) i ≡ Some m → false ≡ bytes_eq (member_name m) q
  none_at_end e i m g =
      let d : Kept = ([], 0, None) in
      let r = member_there es i m d g in
      sym (ap (λ a. bytes_eq a q) (sym r.1) ∙ other_there i d r.0 (λ s. n_less i (omega (arith, s, e, r.0))))
    where
      n_less : (n : ℕ) → n < n → ⊥
      n_less n h = omega (arith, h)

  pub none_is_there : (d : Kept) → bytes_eq (kept_name (get_or es at d)) q ≡ false → (i : ℕ) (m : Member) → slice_get (map member_of_entry es) i ≡ Some m → false ≡ bytes_eq (member_name m) q
  none_is_there d f i m g =
      let r = member_there es i m d g in
      sym (ap (λ a. bytes_eq a q) (sym r.1) ∙ go r.0 (cases_eq i at))
    where
      go : i < length es → (i ≡ at) ⊎ (i ≡ at → ⊥) → bytes_eq (kept_name (get_or es i d)) q ≡ false
      go l (inl s) = ap (λ k. bytes_eq (kept_name (get_or es k d)) q) s ∙ f
      go l (inr n) = other_there i d l n

  pub one_is_there : (d : Kept) → bytes_eq (kept_name (get_or es at d)) q ≡ true → (i : ℕ) (m : Member) → slice_get (map member_of_entry es) i ≡ Some m → is_found_place i (Some at) ≡ bytes_eq (member_name m) q
  one_is_there d f i m g =
      let r = member_there es i m d g in
      go r.0 (eqb_tells at i) ∙ ap (λ a. bytes_eq a q) r.1
    where
      go : i < length es → ((at == i) ≡ true) × (at ≡ i) ⊎ ((at == i) ≡ false) × (at ≡ i → ⊥) → (at == i) ≡ bytes_eq (kept_name (get_or es i d)) q
      go l (inl (e, s)) = e ∙ sym (ap (λ k. bytes_eq (kept_name (get_or es k d)) q) (sym s) ∙ f)
      go l (inr (e, n)) = e ∙ sym (other_there i d l (λ s. n (sym s)))
