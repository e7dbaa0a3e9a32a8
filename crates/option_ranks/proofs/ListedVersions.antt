-- Versions of a list that are ranked: what stays of them in any order, and which rank each gets.
use Rattle.std.proofs.Common.{◌≡◌, All, inl, inr, ℕ, zero, suc, ◌-◌, ◌<◌, true, false, List, [], ◌∷◌, length, map, get_or, refl, sym, subst, ap, ◌∙◌, arith, Ordering}
use Rattle.std.specs.Prelude.{Option, Some, slice_get}
use Rattle.std.specs.Cmp.{IsTotalOrder, on_total}
use Rattle.std.specs.List.Sorted.{IsPermutation, IsSorted}
use Rattle.std.specs.Ordering.{is_eq, is_lt, on}
use Rattle.std.specs.declared.cmp.Ordering.TheVariants.{Less, Equal, Greater}
use Rattle.std.proofs.lemmas.Bool.{false≢true}
use Rattle.std.proofs.lemmas.List.Elements.{All-map}
use Rattle.std.proofs.lemmas.List.Sorted.{All-permutation, IsPermutation-map}
use Rattle.candidate_core.specs.Options.{IsIn}
use Rattle.candidate_core.specs.VersionTexts.{HasVersionTextFrom}
use Rattle.candidate_core.specs.declared.versions.RankedVersion.{RankedVersion}
use Rattle.candidate_core.specs.declared.versions.VersionKind.{VersionKind}
use Rattle.candidate_core.proofs.Steps.{get_at}
use Rattle.option_ranks.specs.Ranking.{version_order}
use Rattle.option_ranks.specs.VersionRanks.{HasRankAmong, rank_among, version_with_rank_among, versions_in}
use Rattle.option_ranks.proofs.CountedRanks.{counted_in, place_counts, same_count}
use Rattle.option_ranks.proofs.MovedMembers.{moved_filter}
use Rattle.option_ranks.proofs.RankedVersions.{first_below, map_first}

pub in_list : {X : Type 0} (xs : List X) (i : ℕ) (x : X) → slice_get xs i ≡ Some x → IsIn x xs
in_list [] zero x h = absurd (cc)
in_list [] (suc i) x h = absurd (cc)
in_list (y ∷ xs) zero x h = let s : x ≡ y = cc in inl s
in_list (y ∷ xs) (suc i) x h = inr (in_list xs i x h)

-- ---- in any order

same_versions : (kind : VersionKind) (vs : List (Option (List ℕ))) (xs : List RankedVersion) → versions_in (map (version_with_rank_among kind vs) xs) ≡ versions_in xs
same_versions kind vs [] = refl
same_versions kind vs (v ∷ xs) = ap (λ (ts : List (Option (List ℕ))). v.version ∷ ts) (same_versions kind vs xs)

module _ (kind : VersionKind) (sorted ranked placed : List RankedVersion) (is : ranked ≡ map (version_with_rank_among kind (versions_in sorted)) sorted) (moved : IsPermutation ranked placed) where
  pub moved_versions : IsPermutation (versions_in sorted) (versions_in placed)
  moved_versions =
      subst (λ (ts : List (Option (List ℕ))). IsPermutation ts (versions_in placed)) (ap versions_in is ∙ same_versions kind (versions_in sorted) sorted)
      (IsPermutation-map (λ (v : RankedVersion). v.version) ranked placed moved)

  same_rank : (version : Option (List ℕ)) → rank_among kind (versions_in sorted) version ≡ rank_among kind (versions_in placed) version
  same_rank version = sym (moved_filter (λ one. is_lt (version_order kind one version)) (versions_in sorted) (versions_in placed) moved_versions)

  pub all_have_ranks : All (HasRankAmong kind (versions_in placed)) placed
  all_have_ranks =
      All-permutation (HasRankAmong kind (versions_in placed)) ranked placed moved
      (subst (λ (vs : List RankedVersion). All (HasRankAmong kind (versions_in placed)) vs) (sym is)
      (All-map (HasRankAmong kind (versions_in placed)) (version_with_rank_among kind (versions_in sorted)) sorted (λ i d h. same_rank (get_or sorted i d).version)))

  pub all_are_read : (text : ℕ → ℕ → List ℕ) → All (HasVersionTextFrom text) sorted → All (HasVersionTextFrom text) placed
  all_are_read text each =
      All-permutation (HasVersionTextFrom text) ranked placed moved
      (subst (λ (vs : List RankedVersion). All (HasVersionTextFrom text) vs) (sym is)
      (All-map (HasVersionTextFrom text) (version_with_rank_among kind (versions_in sorted)) sorted each))

-- ---- in order

equal_by : (o : Ordering) → is_eq o ≡ true → o ≡ Equal
equal_by Less h = absurd (false≢true h)
equal_by Equal h = refl
equal_by Greater h = absurd (false≢true h)

module _ (kind : VersionKind) (total : IsTotalOrder (version_order kind)) (xs : List RankedVersion) (i : ℕ) (x : RankedVersion) (within : i < length xs) where
  -- a version that is equal to the one before it has the rank that this got
  pub rank_of_equal : (one : RankedVersion) → 0 < i → slice_get (map_first (version_with_rank_among kind (versions_in xs)) i xs) (i - 1) ≡ Some one → is_eq (version_order kind one.version x.version) ≡ true → one.rank ≡ rank_among kind (versions_in xs) x.version
  rank_of_equal one low h equal =
      let before : RankedVersion = get_or xs (i - 1) x in
      let there : slice_get xs (i - 1) ≡ Some before = get_at xs (i - 1) x (omega (arith, low, within)) in
      let changed : RankedVersion = version_with_rank_among kind (versions_in xs) before in
      let below : slice_get (map_first (version_with_rank_among kind (versions_in xs)) i xs) (i - 1) ≡ Some changed =
      first_below (version_with_rank_among kind (versions_in xs)) i (i - 1) xs before (omega (arith, low)) there in
      let both : Some one ≡ Some changed = sym h ∙ below in
      let is : one ≡ changed = cc in
      let tied : version_order kind before.version x.version ≡ Equal =
      ap (λ (v : RankedVersion). version_order kind v.version x.version) (sym is) ∙ equal_by (version_order kind one.version x.version) equal in
      ap (λ (v : RankedVersion). v.rank) is ∙ same_count (version_order kind) total before.version x.version tied (versions_in xs)

  -- and any other one is the first of those that are equal to it
  pub rank_of_first : IsSorted (on (λ (v : RankedVersion). v.version) (version_order kind)) xs → slice_get xs i ≡ Some x
      → (0 < i → (one : RankedVersion) → slice_get (map_first (version_with_rank_among kind (versions_in xs)) i xs) (i - 1) ≡ Some one → is_eq (version_order kind one.version x.version) ≡ false)
      → i ≡ rank_among kind (versions_in xs) x.version
  rank_of_first up at apart =
      let f : RankedVersion → RankedVersion = version_with_rank_among kind (versions_in xs) in
      place_counts (on (λ (v : RankedVersion). v.version) (version_order kind)) (on_total (λ (v : RankedVersion). v.version) total) xs i x up at within
      (λ low y h. apart low (f y) (first_below f i (i - 1) xs y (omega (arith, low)) h))
      ∙ counted_in (λ (v : RankedVersion). v.version) (λ one. is_lt (version_order kind one x.version)) xs
