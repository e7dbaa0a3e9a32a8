-- Names in byte order, each once.
use Rattle.std.proofs.Common.{◌≡◌, ◌≢◌, ℕ, suc, zero, ◌<◌, ◌-◌, Bool, true, false, List, [], ◌∷◌, ◌++◌, length, get_or, Some, All, AllPairs, Contains, refl, sym, ap, subst, ◌∙◌, Ordering, Less, Equal, Greater, nat_cmp, arith, ◌==◌, true≢false}
use Rattle.std.specs.Cmp.Lexicographic.{slice_cmp}
use Rattle.std.specs.List.Sorted.{IsSorted}
use Rattle.std.specs.Ordering.{is_lt, ordering_reverse}
use Rattle.std.specs.Prelude.{slice_get}
use Rattle.std.proofs.lemmas.Bool.Decides.{Decides-eqb}
use Rattle.std.proofs.lemmas.Cmp.{nat_list_cmp_total}
use Rattle.std.proofs.lemmas.List.Elements.{All-nil, All-head, All-tail, All-push, All-weaker, All-contains, All-contains_itself}
use Rattle.std.proofs.lemmas.List.Quantifiers.{all_pairs_push}
use Rattle.std.proofs.lemmas.List.Sorted.{ranks_by, sorted_far}
use Rattle.std.proofs.lemmas.Map.Lookups.{exact_bytes}
use Rattle.std.proofs.lemmas.Option.{slice_get-get_or}
use Rattle.base_core.specs.Files.{IsFolderOf}
use Rattle.base_core.specs.Listed.{AreSortedAndEachBelowFolder, AreSortedDistinctTexts}
use Rattle.base_core.specs.Name.{IsName}

abbrev order : List ℕ → List ℕ → Ordering
order = slice_cmp nat_cmp

-- the second is not before the first
abbrev pub IsUpTo : List ℕ → List ℕ → Type 0
IsUpTo a b = is_lt (order b a) ≡ false

-- the names of the sorted ones in front of the rest, each once
pub record IsKept (sorted names rest : List (List ℕ)) : Type 0 where
  pub rising : AreSortedDistinctTexts names
  pub each : All (Contains sorted) names
  pub left : All (Contains sorted) rest
  pub in_order : AllPairs IsUpTo rest
  pub below : All (λ q. All (IsUpTo q) rest) names

pub kept_none : (sorted : List (List ℕ)) → IsSorted order sorted → IsKept sorted [] sorted
kept_none sorted up = record {
  rising = λ i j d before within. absurd (omega (arith, within));
  each = All-nil (Contains sorted);
  left = All-contains_itself sorted;
  in_order = λ i j d before within. sorted_far (λ a b. is_lt (order a b)) (ranks_by nat_list_cmp_total (λ name. name)) sorted up i j d (omega (arith, before)) within;
  below = All-nil (λ q. All (IsUpTo q) sorted);
}

module _ (sorted names rest : List (List ℕ)) (x : List ℕ) (kept : IsKept sorted names (x ∷ rest)) where
  tail_in_order : AllPairs IsUpTo rest
  tail_in_order i j d before within = kept.in_order (suc i) (suc j) d (omega (arith, before)) (omega (arith, within))

  pub kept_same : IsKept sorted names rest
  kept_same = record {
    rising = kept.rising;
    each = kept.each;
    left = All-tail (Contains sorted) x rest kept.left;
    in_order = tail_in_order;
    below = All-weaker (λ q. All (IsUpTo q) (x ∷ rest)) (λ q. All (IsUpTo q) rest) (λ q. All-tail (IsUpTo q) x rest) names kept.below;
  }

  before_other : (q : List ℕ) → IsUpTo q x → q ≢ x → order q x ≡ Less
  before_other q up other = by_order (order x q) refl up
    where
      by_order : (o : Ordering) → order x q ≡ o → is_lt o ≡ false → order q x ≡ Less
      by_order Less is up = absurd (cc (up))
      by_order Equal is up = absurd (other (sym (exact_bytes x q is)))
      by_order Greater is up = nat_list_cmp_total.antisymm q x ∙ ap ordering_reverse is

  -- the last name is another, so each name is before
  each_before : slice_get names (length names - 1) ≢ Some x → (k : ℕ) (d : List ℕ) → k < length names → order (get_or names k d) x ≡ Less
  each_before other k d within = by_place (k == length names - 1) refl
    where
      last_before : order (get_or names (length names - 1) d) x ≡ Less
      last_before = before_other (get_or names (length names - 1) d) (All-head (IsUpTo (get_or names (length names - 1) d)) x rest (kept.below (length names - 1) d (omega (arith, within))))
          (λ is. other (slice_get-get_or names (length names - 1) d (omega (arith, within)) ∙ ap Some is))

      by_place : (b : Bool) → (k == length names - 1) ≡ b → order (get_or names k d) x ≡ Less
      by_place true is = subst (λ (i : ℕ). order (get_or names i d) x ≡ Less) (sym ((Decides-eqb k (length names - 1)).0 is)) last_before
      by_place false is =
          let apart : k ≢ length names - 1 = λ same. true≢false (sym ((Decides-eqb k (length names - 1)).1 same) ∙ is) in
          let before : k < length names - 1 = omega (arith, within, apart) in
          nat_list_cmp_total.trans (get_or names k d) (get_or names (length names - 1) d) x (kept.rising k (length names - 1) d before (omega (arith, within))) last_before

  pub kept_more : slice_get names (length names - 1) ≢ Some x → IsKept sorted (names ++ x ∷ []) rest
  kept_more other = record {
    rising = all_pairs_push (λ a b. order a b ≡ Less) names x kept.rising (each_before other);
    each = All-push (Contains sorted) names x kept.each (All-head (Contains sorted) x rest kept.left);
    left = All-tail (Contains sorted) x rest kept.left;
    in_order = tail_in_order;
    below = All-push (λ q. All (IsUpTo q) rest) names x (kept_same.below) (λ k d within. kept.in_order zero (suc k) d (omega arith) (omega (arith, within)));
  }

pub below_each : (root : List ℕ) (files names : List (List ℕ)) → All (IsFolderOf root) files → AreSortedDistinctTexts names → All (Contains files) names → All IsName names → AreSortedAndEachBelowFolder root names
below_each root files names below rising each named = record {
  rising = rising;
  each = λ k d within. record { named = named k d within; below = All-contains (IsFolderOf root) files (get_or names k d) below (each k d within) };
}
