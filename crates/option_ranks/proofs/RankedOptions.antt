-- Options that are sorted by what was read of each, and by the texts or the ranks of their versions,
-- are in rank order.
use Rattle.std.proofs.Common.{◌≡◌, All, ℕ, ◌+◌, ◌<◌, Bool, false, List, [], ◌∷◌, length, map, get_or, refl, sym, ap, subst, ◌∙◌, arith}
use Rattle.std.specs.Prelude.{Option, Some, None}
use Rattle.std.specs.Option.{option_cmp}
use Rattle.std.specs.Cmp.{IsTotalOrder}
use Rattle.std.specs.Ordering.{is_lt, nat_cmp, ordering_then}
use Rattle.std.specs.declared.cmp.Ordering.{Ordering}
use Rattle.std.specs.declared.cmp.Ordering.TheVariants.{Less, Equal, Greater}
use Rattle.std.specs.List.Sorted.{IsPermutation, IsSortedBy}
use Rattle.std.proofs.lemmas.List.{get_or-map, length-map}
use Rattle.std.proofs.lemmas.List.Sorted.{All-permutation, IsPermutation-map, IsPermutation-refl, IsPermutation-trans}
use Rattle.version_core.specs.Order.{version_cmp}
use Rattle.candidate_core.specs.Candidates.{Candidate, Need, version_meeting_need}
use Rattle.candidate_core.specs.Options.{rank_order_of}
use Rattle.candidate_core.specs.Rank.{SelectionProblem, bytes_cmp, candidate_at, earlier_repository_first_cmp, greater_version_first_cmp, is_better, is_pinned, quality_first, rank_cmp, untagged_then_named_then_kept_cmp}
use Rattle.option_ranks.specs.Ranking.{IsRankingIn, Ranking, ranking_from_parts, ranking_cmp, version_order, with_values_of_candidate}
use Rattle.option_ranks.specs.VersionRanks.{AreRankedTwice, AreComparableByKey, rank_among, version_of, with_version_rank}
use Rattle.option_ranks.specs.declared.rank.VersionKey.{VersionKey}
use Rattle.option_ranks.specs.declared.rank.VersionKey.TheVariants.{ByRank, ByText}
use Rattle.candidate_core.specs.declared.versions.RankedVersion.{RankedVersion}
use Rattle.candidate_core.specs.declared.versions.VersionKind.{VersionKind}
use Rattle.candidate_core.specs.declared.versions.VersionKind.TheVariants.{Under, Own}
use Rattle.option_ranks.proofs.CountedRanks.{counts_order}
use Rattle.option_ranks.proofs.RankOrder.{order_of_kind}
use Rattle.option_ranks.proofs.RankedVersions.{HasRank, all_kept, all_ranked, places_kept}

pub few_ranked : (better : ℕ → ℕ → Bool) (xs : List ℕ) → length xs < 2 → rank_order_of better xs ≡ xs
few_ranked better [] h = refl
few_ranked better (x ∷ []) h = refl
few_ranked better (x ∷ (y ∷ xs)) h = absurd (omega (arith, h))

abbrev pub comes_before : VersionKey → Ranking → Ranking → Bool
comes_before key a b = is_lt (ranking_cmp key a b)

abbrev pub place_of : Ranking → ℕ
place_of r = r.place

no_version : RankedVersion
no_version = record { version = None; source = 0; word = 0; rank = 0 }

none_read : Ranking
none_read = ranking_from_parts false false false false no_version 0 [] no_version None 0

-- the version's text is a key of its own, after the version
regroup : (u p n g t r : Ordering) → ordering_then (ordering_then u (ordering_then p (ordering_then n (ordering_then g t)))) r ≡ ordering_then (ordering_then u (ordering_then p (ordering_then n g))) (ordering_then t r)
regroup Less p n g t r = refl
regroup Greater p n g t r = refl
regroup Equal Less n g t r = refl
regroup Equal Greater n g t r = refl
regroup Equal Equal Less g t r = refl
regroup Equal Equal Greater g t r = refl
regroup Equal Equal Equal Less t r = refl
regroup Equal Equal Equal Greater t r = refl
regroup Equal Equal Equal Equal t r = refl

pub same_by_rank : IsTotalOrder version_cmp → (kind : VersionKind) (vs : List (Option (List ℕ))) (a b : Ranking) → HasRank kind vs a → HasRank kind vs b → nat_cmp (version_of kind a).rank (version_of kind b).rank ≡ version_order kind (version_of kind a).version (version_of kind b).version
same_by_rank versions kind vs a b p q =
    ap (λ (n : ℕ). nat_cmp n (version_of kind b).rank) p.rank
    ∙ (ap (nat_cmp (rank_among kind vs (version_of kind a).version)) q.rank
    ∙ counts_order (version_order kind) (order_of_kind versions kind) vs (version_of kind a).version (version_of kind b).version p.listed q.listed)

pub ranking_kept : (pool : SelectionProblem) (need : Need) (kind : VersionKind) (n : ℕ) (r : Ranking) → IsRankingIn pool need r → IsRankingIn pool need (with_version_rank kind n r)
ranking_kept pool need Under n r p = (p.0, (p.1.0, ap (with_version_rank Under n) p.1.1))
ranking_kept pool need Own n r p = (p.0, (p.1.0, ap (with_version_rank Own n) p.1.1))

-- what is sorted by a key that orders places as the rank does
sorted_places : (pool : SelectionProblem) (need : Need) (key : VersionKey) (P : Ranking → Type 0) → ((a b : Ranking) → P a → P b → ranking_cmp key a b ≡ rank_cmp pool need a.place b.place)
    → (rs : List Ranking) → All P rs → IsSortedBy (comes_before key) rs → IsSortedBy (is_better pool need) (map place_of rs)
sorted_places pool need key P same rs all up = λ k d low high.
    let len : length (map place_of rs) ≡ length rs = length-map rs place_of in
    let here : k < length rs = omega (arith, high, len) in
    let next : k + 1 < length rs = omega (arith, high, len) in
    let a : Ranking = get_or rs (k + 1) none_read in
    let b : Ranking = get_or rs k none_read in
    let is_a : get_or (map place_of rs) (k + 1) d ≡ a.place = get_or-map place_of rs (k + 1) none_read d next in
    let is_b : get_or (map place_of rs) k d ≡ b.place = get_or-map place_of rs k none_read d here in
    ap (λ (n : ℕ). is_better pool need n (get_or (map place_of rs) k d)) is_a
    ∙ (ap (is_better pool need a.place) is_b
    ∙ (ap is_lt (sym (same a b (all (k + 1) none_read next) (all k none_read here))) ∙ up k none_read low (omega (arith, high, len))))

-- ---- by texts

module _ (pool : SelectionProblem) (need : Need) where
  read_by_text : (a b : Ranking) (x y : Candidate) → candidate_at pool a.place ≡ Some x → candidate_at pool b.place ≡ Some y → ranking_cmp ByText (with_values_of_candidate pool need x a) (with_values_of_candidate pool need y b) ≡ rank_cmp pool need a.place b.place
  unfolding ranking_cmp rank_cmp
  read_by_text a b x y h g =
      rw (h, g) (ap (λ (o : Ordering). ordering_then (ordering_then (quality_first (is_pinned pool.world) x y) (ordering_then (untagged_then_named_then_kept_cmp pool.upgraded need x y) o)) (nat_cmp a.place b.place))
      (regroup (greater_version_first_cmp (version_meeting_need need x) (version_meeting_need need y)) (nat_cmp y.priority x.priority) (bytes_cmp x.name y.name) (greater_version_first_cmp x.version y.version) (option_cmp bytes_cmp x.version y.version) (earlier_repository_first_cmp x.repository y.repository)))

  same_by_text : (a b : Ranking) → IsRankingIn pool need a → IsRankingIn pool need b → ranking_cmp ByText a b ≡ rank_cmp pool need a.place b.place
  same_by_text a b p q =
      ap (λ (r : Ranking). ranking_cmp ByText r b) p.1.1 ∙ (ap (λ (r : Ranking). ranking_cmp ByText (with_values_of_candidate pool need p.0 a) r) q.1.1
      ∙ read_by_text a b p.0 q.0 p.1.0 q.1.0)

-- ---- by ranks

module _ (versions : IsTotalOrder version_cmp) (pool : SelectionProblem) (need : Need) (unders owns : List (Option (List ℕ))) where
  pub record IsRanked (r : Ranking) : Type 0 where
    pub read : IsRankingIn pool need r
    pub under : HasRank Under unders r
    pub own : HasRank Own owns r

  as_read : (a b : Ranking) (x y : Candidate) → candidate_at pool a.place ≡ Some x → candidate_at pool b.place ≡ Some y → nat_cmp a.under.rank b.under.rank ≡ greater_version_first_cmp (version_meeting_need need x) (version_meeting_need need y) → nat_cmp a.version.rank b.version.rank ≡ ordering_then (greater_version_first_cmp x.version y.version) (option_cmp bytes_cmp x.version y.version) → ranking_cmp ByRank (with_values_of_candidate pool need x a) (with_values_of_candidate pool need y b) ≡ rank_cmp pool need a.place b.place
  unfolding ranking_cmp rank_cmp
  as_read a b x y h g under own =
      rw (h, g, under, own) (ap (λ (o : Ordering). ordering_then (ordering_then (quality_first (is_pinned pool.world) x y) (ordering_then (untagged_then_named_then_kept_cmp pool.upgraded need x y) o)) (nat_cmp a.place b.place))
      (regroup (greater_version_first_cmp (version_meeting_need need x) (version_meeting_need need y)) (nat_cmp y.priority x.priority) (bytes_cmp x.name y.name) (greater_version_first_cmp x.version y.version) (option_cmp bytes_cmp x.version y.version) (earlier_repository_first_cmp x.repository y.repository)))

  same_order : (a b : Ranking) → IsRanked a → IsRanked b → ranking_cmp ByRank a b ≡ rank_cmp pool need a.place b.place
  same_order a b p q =
      let x : Candidate = p.read.0 in
      let y : Candidate = q.read.0 in
      let under : nat_cmp a.under.rank b.under.rank ≡ greater_version_first_cmp (version_meeting_need need x) (version_meeting_need need y) =
      same_by_rank versions Under unders a b p.under q.under
      ∙ (ap (λ (r : Ranking). greater_version_first_cmp r.under.version b.under.version) p.read.1.1 ∙ ap (λ (r : Ranking). greater_version_first_cmp (version_meeting_need need x) r.under.version) q.read.1.1) in
      let own : nat_cmp a.version.rank b.version.rank ≡ version_order Own x.version y.version =
      same_by_rank versions Own owns a b p.own q.own
      ∙ (ap (λ (r : Ranking). version_order Own r.version.version b.version.version) p.read.1.1 ∙ ap (λ (r : Ranking). version_order Own x.version r.version.version) q.read.1.1) in
      ap (λ (r : Ranking). ranking_cmp ByRank r b) p.read.1.1 ∙ (ap (λ (r : Ranking). ranking_cmp ByRank (with_values_of_candidate pool need x a) r) q.read.1.1
      ∙ as_read a b x y p.read.1.0 q.read.1.0 under own)

-- ---- by either

module _ (versions : IsTotalOrder version_cmp) (pool : SelectionProblem) (need : Need) (read : List Ranking) (each : All (IsRankingIn pool need) read) where
  ranked_twice : (second : List Ranking) (twice : AreRankedTwice read second) → All (IsRanked versions pool need twice.under.versions twice.own.versions) second
  ranked_twice second twice =
      let first : List Ranking = twice.between in
      let each_first : All (IsRankingIn pool need) first = all_kept Under read first twice.under (IsRankingIn pool need) (ranking_kept pool need Under) each in
      let each_second : All (IsRankingIn pool need) second = all_kept Own first second twice.own (IsRankingIn pool need) (ranking_kept pool need Own) each_first in
      let under : All (HasRank Under twice.under.versions) second =
      all_kept Own first second twice.own (HasRank Under twice.under.versions) (λ n r h. record { rank = h.rank; listed = h.listed }) (all_ranked Under read first twice.under) in
      let own : All (HasRank Own twice.own.versions) second = all_ranked Own first second twice.own in
      λ i d h. record { read = each_second i d h; under = under i d h; own = own i d h }

  -- what is ready for a key and sorted by it is in rank order
  pub sorted_by_key : (key : VersionKey) (ready sorted : List Ranking) → AreComparableByKey key read ready → IsPermutation ready sorted → IsSortedBy (comes_before key) sorted → IsSortedBy (is_better pool need) (map place_of sorted)
  sorted_by_key ByRank ready sorted twice moved up =
      let P : Ranking → Type 0 = IsRanked versions pool need twice.under.versions twice.own.versions in
      sorted_places pool need ByRank P (same_order versions pool need twice.under.versions twice.own.versions) sorted (All-permutation P ready sorted moved (ranked_twice ready twice)) up
  sorted_by_key ByText ready sorted same moved up =
      let P : Ranking → Type 0 = IsRankingIn pool need in
      sorted_places pool need ByText P (same_by_text pool need) sorted (All-permutation P ready sorted moved (subst (λ (rs : List Ranking). All P rs) (sym same) each)) up

  -- and it has the places that were read
  pub places_ready : (key : VersionKey) (ready : List Ranking) → AreComparableByKey key read ready → IsPermutation (map place_of read) (map place_of ready)
  places_ready ByRank ready twice =
      IsPermutation-trans (map place_of read) (map place_of twice.between) (map place_of ready) (places_kept Under read twice.between twice.under) (places_kept Own twice.between ready twice.own)
  places_ready ByText ready same =
      subst (λ (rs : List Ranking). IsPermutation (map place_of read) (map place_of rs)) (sym same) (IsPermutation-map place_of read read (IsPermutation-refl read))
