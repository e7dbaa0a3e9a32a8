-- The candidates whose install-if can come to apply, in byte order of their names.
use Rattle.std.proofs.Common.{◌≡◌, inl, inr, ℕ, ◌+◌, ◌≤◌, ◌<◌, true, false, List, length, get_or, refl, sym, subst, ◌∙◌, arith}
use Rattle.std.specs.Prelude.{Some, slice_get, ◌==◌}
use Rattle.std.specs.List.{list_any}
use Rattle.std.specs.List.Sorted.{IsPermutation, IsSortedBy}
use Rattle.std.specs.Cmp.{IsStrictWeakOrder}
use Rattle.std.specs.Cmp.Lexicographic.{nat_list_cmp_total}
use Rattle.std.proofs.lemmas.Bool.{cases_lt, eq-eqb, eqb-true}
use Rattle.std.proofs.lemmas.List.Sorted.{list_any-IsPermutation, ranks_by, sorted_far}
use Rattle.dep_core.specs.Dependency.{Dependency}
use Rattle.pool_core.specs.candidate_core.Candidates.{is_eligible_with_positive_install_if}
use Rattle.pool_core.specs.candidate_core.Rank.{SelectionProblem}
use Rattle.pool_core.specs.candidate_core.Options.{AreAllMembersOf, IsIn, places_passing_counted_from}
use Rattle.search_tables.specs.InstallIf.{has_lesser_name, install_if_at, is_eligible_with_positive_install_if_at, name_at}
use Rattle.search_tables.specs.NameTable.{items_under_name}
use Rattle.pool_core.proofs.candidate_core.OptionLists.{in_places, places_in}
use Rattle.search_tables.proofs.Satisfying.{any_one, one_any}

-- a list and its permutation have the same members
moved : (xs ys : List ℕ) (k : ℕ) → list_any (λ x. k == x) xs ≡ list_any (λ x. k == x) ys → IsIn k xs → IsIn k ys
moved xs ys k same h =
    let r = any_one (λ x. k == x) ys (sym same ∙ one_any (λ x. k == x) xs k h (eq-eqb k k refl)) in
    subst (λ (z : ℕ). IsIn z ys) (sym (eqb-true k r.0 r.2)) r.1

pub in_sorted : (xs ys : List ℕ) → IsPermutation xs ys → AreAllMembersOf xs ys
in_sorted xs ys same k h = moved xs ys k (list_any-IsPermutation (λ x. k == x) xs ys same) h

pub sorted_in : (xs ys : List ℕ) → IsPermutation xs ys → AreAllMembersOf ys xs
sorted_in xs ys same k h = moved ys xs k (sym (list_any-IsPermutation (λ x. k == x) xs ys same)) h

module _ (pool : SelectionProblem) where
  pub usable_there : (k : ℕ) → IsIn k (places_passing_counted_from 0 (is_eligible_with_positive_install_if pool.world) pool.candidates) → is_eligible_with_positive_install_if_at pool k ≡ true
  usable_there k h =
      let r = places_in 0 (is_eligible_with_positive_install_if pool.world) pool.candidates k h in
      let z : r.0 ≡ k = omega (arith, r.1) in
      subst (λ (j : ℕ). is_eligible_with_positive_install_if_at pool j ≡ true) z r.2

  pub there_usable : (k : ℕ) → is_eligible_with_positive_install_if_at pool k ≡ true → IsIn k (places_passing_counted_from 0 (is_eligible_with_positive_install_if pool.world) pool.candidates)
  there_usable k h =
      let z : 0 + k ≡ k = omega arith in
      subst (λ (j : ℕ). IsIn j (places_passing_counted_from 0 (is_eligible_with_positive_install_if pool.world) pool.candidates)) z (in_places 0 (is_eligible_with_positive_install_if pool.world) pool.candidates k h)

  pub names_weak : IsStrictWeakOrder (has_lesser_name pool)
  names_weak = ranks_by nat_list_cmp_total (name_at pool)

  pub names_rise : (ids : List ℕ) → IsSortedBy (has_lesser_name pool) ids → (i j d : ℕ) → i ≤ j → j < length ids → has_lesser_name pool (get_or ids j d) (get_or ids i d) ≡ false
  names_rise ids up i j d low high = sorted_far (has_lesser_name pool) names_weak ids up i j d low high

  -- one more rank whose entries lead to it
  pub entries_more : (by_name : List ℕ) (old new : List (List ℕ × List ℕ)) (count id : ℕ)
      → ((rank k : ℕ) (d : Dependency) → rank < count → slice_get by_name rank ≡ Some k → IsIn d (install_if_at pool k) → IsIn rank (items_under_name old d.name))
      → slice_get by_name count ≡ Some id
      → ((name : List ℕ) → AreAllMembersOf (items_under_name old name) (items_under_name new name))
      → ((d : Dependency) → IsIn d (install_if_at pool id) → IsIn count (items_under_name new d.name))
      → (rank k : ℕ) (d : Dependency) → rank < count + 1 → slice_get by_name rank ≡ Some k → IsIn d (install_if_at pool k) → IsIn rank (items_under_name new d.name)
  entries_more by_name old new count id was here more each rank k d low there h = elim (cases_lt rank count) [
    | inl before ↦ more d.name rank (was rank k d before there h)
    | inr at ↦
        let e : count ≡ rank = omega (arith, low, at) in
        let same : slice_get by_name rank ≡ Some id = subst (λ (j : ℕ). slice_get by_name j ≡ Some id) e here in
        let one : k ≡ id = cc in
        subst (λ (j : ℕ). IsIn j (items_under_name new d.name)) e (each d (subst (λ (j : ℕ). IsIn d (install_if_at pool j)) one h))
  ]
