-- Candidates that are sorted by what was read of each, and by the texts or the ranks of their versions, are in the order of queries.
use Rattle.std.proofs.Common.{◌≡◌, All, ℕ, ◌+◌, ◌<◌, true, false, List, [], length, map, get_or, refl, sym, ap, subst, ◌∙◌, arith}
use Rattle.std.specs.Prelude.{Option, Some, None, ◌==◌, slice_get}
use Rattle.std.specs.Option.{option_cmp}
use Rattle.std.specs.Cmp.{IsTotalOrder, nat_cmp_total, on_total, then_total}
use Rattle.std.specs.Cmp.Lexicographic.{nat_list_cmp_total, options_total}
use Rattle.std.specs.Ordering.{is_eq, is_lt, nat_cmp, ordering_then}
use Rattle.std.specs.declared.cmp.Ordering.{Ordering}
use Rattle.std.specs.declared.cmp.Ordering.TheVariants.{Less, Equal, Greater}
use Rattle.std.specs.List.Sorted.{IsPermutation, IsSortedBy}
use Rattle.std.proofs.lemmas.Bool.Decides.{Decides-eqb}
use Rattle.std.proofs.lemmas.List.{get_or-map, length-map}
use Rattle.std.proofs.lemmas.List.Sorted.{All-permutation, IsPermutation-map, IsPermutation-refl, IsPermutation-trans}
use Rattle.std.proofs.lemmas.Map.Text.{is_eq-slice_cmp}
use Rattle.std.proofs.lemmas.Slice.Eq.{bytes_eq-Decides}
use Rattle.pool_core.proofs.SamePackage.{same_version}
use Rattle.version_core.specs.Order.{version_cmp}
use Rattle.version_core.proofs.Fits.{nat_cmp-Equal}
use Rattle.pool_core.specs.candidate_core.Candidates.{Candidate, is_same_version}
use Rattle.pool_core.specs.candidate_core.Rank.{bytes_cmp, greater_version_first_cmp}
use Rattle.pool_core.specs.candidate_core.declared.versions.VersionKind.{VersionKind}
use Rattle.pool_core.specs.candidate_core.declared.versions.VersionKind.TheVariants.{Under, Own}
use Rattle.pool_core.specs.option_ranks.Ranking.{Ranking, ranking_from_parts, ranking_cmp, version_order}
use Rattle.pool_core.specs.option_ranks.VersionRanks.{AreRankedTwice, AreComparableByKey, rank_among, with_version_rank}
use Rattle.pool_core.specs.option_ranks.declared.rank.VersionKey.{VersionKey}
use Rattle.pool_core.specs.option_ranks.declared.rank.VersionKey.TheVariants.{ByRank, ByText}
use Rattle.pool_core.proofs.option_ranks.CountedRanks.{nat_same}
use Rattle.pool_core.proofs.option_ranks.MovedMembers.{member_of_all}
use Rattle.pool_core.proofs.option_ranks.RankOrder.{versions_back}
use Rattle.pool_core.proofs.option_ranks.RankedOptions.{comes_before, place_of, same_by_rank}
use Rattle.pool_core.proofs.option_ranks.RankedVersions.{HasRank, all_kept, all_ranked, places_kept}
use Rattle.query_core.specs.Order.{name_then_greater_version_first_cmp, candidate_places_cmp}
use Rattle.query_core.specs.QueryRanking.{AreInQueryOrder, IsQueryRanking, query_ranking}

-- ---- the order is total, and parts all places

module _ (versions : IsTotalOrder version_cmp) where
  pub candidates_total : IsTotalOrder name_then_greater_version_first_cmp
  candidates_total =
      then_total (on_total (λ (c : Candidate). c.name) nat_list_cmp_total)
      (then_total (on_total (λ (c : Candidate). c.version) (versions_back versions)) (on_total (λ (c : Candidate). c.version) (options_total nat_list_cmp_total)))

  pub query_total : (cs : List Candidate) → IsTotalOrder (candidate_places_cmp cs)
  query_total cs = then_total (on_total (slice_get cs) (options_total candidates_total)) nat_cmp_total

pub last_decides : (o r : Ordering) → ordering_then o r ≡ Equal → r ≡ Equal
last_decides Less r h = absurd (cc)
last_decides Equal r h = h
last_decides Greater r h = absurd (cc)

pub one_place : (cs : List Candidate) (a b : ℕ) → candidate_places_cmp cs a b ≡ Equal → a ≡ b
one_place cs a b h = nat_cmp-Equal a b (last_decides (option_cmp name_then_greater_version_first_cmp (slice_get cs a) (slice_get cs b)) (nat_cmp a b) h)

-- ---- the order of rankings

last_equal : (o r : Ordering) → ordering_then (ordering_then o Equal) r ≡ ordering_then o r
last_equal Less r = refl
last_equal Equal r = refl
last_equal Greater r = refl

module _ (cs : List Candidate) where
  read_by_text : (a b : Ranking) (x y : Candidate) → slice_get cs a.place ≡ Some x → slice_get cs b.place ≡ Some y → ranking_cmp ByText (query_ranking x a) (query_ranking y b) ≡ candidate_places_cmp cs a.place b.place
  unfolding ranking_cmp
  read_by_text a b x y h g =
      rw (h, g) (last_equal (ordering_then (bytes_cmp x.name y.name) (ordering_then (greater_version_first_cmp x.version y.version) (option_cmp bytes_cmp x.version y.version))) (nat_cmp a.place b.place))

  same_by_text : (a b : Ranking) → IsQueryRanking cs a → IsQueryRanking cs b → ranking_cmp ByText a b ≡ candidate_places_cmp cs a.place b.place
  same_by_text a b p q =
      ap (λ (r : Ranking). ranking_cmp ByText r b) p.1.1
      ∙ (ap (λ (r : Ranking). ranking_cmp ByText (query_ranking p.0 a) r) q.1.1 ∙ read_by_text a b p.0 q.0 p.1.0 q.1.0)

  module _ (versions : IsTotalOrder version_cmp) (unders owns : List (Option (List ℕ))) where
    pub record IsRanked (r : Ranking) : Type 0 where
      pub read : IsQueryRanking cs r
      pub under : HasRank Under unders r
      pub own : HasRank Own owns r

    as_read : (a b : Ranking) (x y : Candidate) → slice_get cs a.place ≡ Some x → slice_get cs b.place ≡ Some y → nat_cmp a.under.rank b.under.rank ≡ Equal → nat_cmp a.version.rank b.version.rank ≡ ordering_then (greater_version_first_cmp x.version y.version) (option_cmp bytes_cmp x.version y.version) → ranking_cmp ByRank (query_ranking x a) (query_ranking y b) ≡ candidate_places_cmp cs a.place b.place
    unfolding ranking_cmp
    as_read a b x y h g under own =
        rw (h, g, under, own) (last_equal (ordering_then (bytes_cmp x.name y.name) (ordering_then (greater_version_first_cmp x.version y.version) (option_cmp bytes_cmp x.version y.version))) (nat_cmp a.place b.place))

    same_order : (a b : Ranking) → IsRanked a → IsRanked b → ranking_cmp ByRank a b ≡ candidate_places_cmp cs a.place b.place
    same_order a b p q =
        let x : Candidate = p.read.0 in
        let y : Candidate = q.read.0 in
        let under : nat_cmp a.under.rank b.under.rank ≡ Equal =
        same_by_rank versions Under unders a b p.under q.under
        ∙ (ap (λ (r : Ranking). greater_version_first_cmp r.under.version b.under.version) p.read.1.1 ∙ ap (λ (r : Ranking). greater_version_first_cmp None r.under.version) q.read.1.1) in
        let own : nat_cmp a.version.rank b.version.rank ≡ version_order Own x.version y.version =
        same_by_rank versions Own owns a b p.own q.own
        ∙ (ap (λ (r : Ranking). version_order Own r.version.version b.version.version) p.read.1.1 ∙ ap (λ (r : Ranking). version_order Own x.version r.version.version) q.read.1.1) in
        ap (λ (r : Ranking). ranking_cmp ByRank r b) p.read.1.1
        ∙ (ap (λ (r : Ranking). ranking_cmp ByRank (query_ranking x a) r) q.read.1.1 ∙ as_read a b x y p.read.1.0 q.read.1.0 under own)

-- ---- which versions are one

pub texts_same : (o p : Option (List ℕ)) → option_cmp bytes_cmp o p ≡ Equal → o ≡ p
texts_same None None h = refl
texts_same None (Some y) h = absurd (cc)
texts_same (Some x) None h = absurd (cc)
texts_same (Some x) (Some y) h = ap Some ((bytes_eq-Decides x y).0 (sym (is_eq-slice_cmp x y) ∙ ap is_eq h))

same_as_itself : (o : Option (List ℕ)) → is_same_version o o ≡ true
same_as_itself None = refl
same_as_itself (Some x) = (bytes_eq-Decides x x).1 refl

module _ (versions : IsTotalOrder version_cmp) (owns : List (Option (List ℕ))) (a b : Ranking) (p : HasRank Own owns a) (q : HasRank Own owns b) where
  alike_by_rank : (a.version.rank == b.version.rank) ≡ true → a.version.version ≡ b.version.version
  alike_by_rank h =
      texts_same a.version.version b.version.version
      (last_decides (greater_version_first_cmp a.version.version b.version.version) (option_cmp bytes_cmp a.version.version b.version.version)
      (sym (same_by_rank versions Own owns a b p q) ∙ nat_same a.version.rank b.version.rank ((Decides-eqb a.version.rank b.version.rank).0 h)))

  same_by_version : a.version.version ≡ b.version.version → (a.version.rank == b.version.rank) ≡ true
  same_by_version h = (Decides-eqb a.version.rank b.version.rank).1 (p.rank ∙ (ap (rank_among Own owns) h ∙ sym q.rank))

-- ---- sorted rankings

pub none_read : Ranking
none_read = ranking_from_parts false false false false (record { version = None; source = 0; word = 0; rank = 0 }) 0 [] (record { version = None; source = 0; word = 0; rank = 0 }) None 0

sorted_places : (cs : List Candidate) (key : VersionKey) (P : Ranking → Type 0) → ((a b : Ranking) → P a → P b → ranking_cmp key a b ≡ candidate_places_cmp cs a.place b.place)
    → (rs : List Ranking) → All P rs → IsSortedBy (comes_before key) rs → IsSortedBy (λ a b. is_lt (candidate_places_cmp cs a b)) (map place_of rs)
sorted_places cs key P same rs all up = λ k d low high.
    let len : length (map place_of rs) ≡ length rs = length-map rs place_of in
    let here : k < length rs = omega (arith, high, len) in
    let next : k + 1 < length rs = omega (arith, high, len) in
    let a : Ranking = get_or rs (k + 1) none_read in
    let b : Ranking = get_or rs k none_read in
    let is_a : get_or (map place_of rs) (k + 1) d ≡ a.place = get_or-map place_of rs (k + 1) none_read d next in
    let is_b : get_or (map place_of rs) k d ≡ b.place = get_or-map place_of rs k none_read d here in
    ap (λ (n : ℕ). is_lt (candidate_places_cmp cs n (get_or (map place_of rs) k d))) is_a
    ∙ (ap (λ (n : ℕ). is_lt (candidate_places_cmp cs a.place n)) is_b
    ∙ (ap is_lt (sym (same a b (all (k + 1) none_read next) (all k none_read here))) ∙ up k none_read low (omega (arith, high, len))))

ranking_kept : (cs : List Candidate) (kind : VersionKind) (n : ℕ) (r : Ranking) → IsQueryRanking cs r → IsQueryRanking cs (with_version_rank kind n r)
ranking_kept cs Under n r p = (p.0, (p.1.0, ap (with_version_rank Under n) p.1.1))
ranking_kept cs Own n r p = (p.0, (p.1.0, ap (with_version_rank Own n) p.1.1))

module _ (versions : IsTotalOrder version_cmp) (cs : List Candidate) (read : List Ranking) (each : All (IsQueryRanking cs) read) where
  ranked_twice : (second : List Ranking) (twice : AreRankedTwice read second) → All (IsRanked cs versions twice.under.versions twice.own.versions) second
  ranked_twice second twice =
      let first : List Ranking = twice.between in
      let each_first : All (IsQueryRanking cs) first = all_kept Under read first twice.under (IsQueryRanking cs) (ranking_kept cs Under) each in
      let each_second : All (IsQueryRanking cs) second = all_kept Own first second twice.own (IsQueryRanking cs) (ranking_kept cs Own) each_first in
      let under : All (HasRank Under twice.under.versions) second =
      all_kept Own first second twice.own (HasRank Under twice.under.versions) (λ n r h. record { rank = h.rank; listed = h.listed }) (all_ranked Under read first twice.under) in
      let own : All (HasRank Own twice.own.versions) second = all_ranked Own first second twice.own in
      λ i d h. record { read = each_second i d h; under = under i d h; own = own i d h }

  -- what is ready for a key and sorted by it is in the order of queries
  pub sorted_by_key : (key : VersionKey) (ready sorted : List Ranking) → AreComparableByKey key read ready → IsPermutation ready sorted → IsSortedBy (comes_before key) sorted → IsSortedBy (λ a b. is_lt (candidate_places_cmp cs a b)) (map place_of sorted)
  sorted_by_key ByRank ready sorted twice moved up =
      let P : Ranking → Type 0 = IsRanked cs versions twice.under.versions twice.own.versions in
      sorted_places cs ByRank P (same_order cs versions twice.under.versions twice.own.versions) sorted (All-permutation P ready sorted moved (ranked_twice ready twice)) up
  sorted_by_key ByText ready sorted same moved up =
      let P : Ranking → Type 0 = IsQueryRanking cs in
      sorted_places cs ByText P (same_by_text cs) sorted (All-permutation P ready sorted moved (subst (λ (rs : List Ranking). All P rs) (sym same) each)) up

  -- it has the places that were read
  pub places_ready : (key : VersionKey) (ready : List Ranking) → AreComparableByKey key read ready → IsPermutation (map place_of read) (map place_of ready)
  places_ready ByRank ready twice =
      IsPermutation-trans (map place_of read) (map place_of twice.between) (map place_of ready) (places_kept Under read twice.between twice.under) (places_kept Own twice.between ready twice.own)
  places_ready ByText ready same =
      subst (λ (rs : List Ranking). IsPermutation (map place_of read) (map place_of rs)) (sym same) (IsPermutation-map place_of read read (IsPermutation-refl read))

  -- and its versions are parted by the key
  pub in_query_order : (key : VersionKey) (ready sorted : List Ranking) → AreComparableByKey key read ready → IsPermutation ready sorted → AreInQueryOrder cs key sorted
  in_query_order ByRank ready sorted twice moved =
      let owns : List (Option (List ℕ)) = twice.own.versions in
      let P : Ranking → Type 0 = IsRanked cs versions twice.under.versions owns in
      let all : All P sorted = All-permutation P ready sorted moved (ranked_twice ready twice) in
      record {
        read = λ i d h. (all i d h).read;
        alike = λ a b m n e. alike_by_rank versions owns a b (member_of_all P sorted a all m).own (member_of_all P sorted b all n).own e;
        same = λ a b m n e. same_by_version versions owns a b (member_of_all P sorted a all m).own (member_of_all P sorted b all n).own e;
      }
  in_query_order ByText ready sorted same moved =
      let P : Ranking → Type 0 = IsQueryRanking cs in
      record {
        read = All-permutation P ready sorted moved (subst (λ (rs : List Ranking). All P rs) (sym same) each);
        alike = λ a b m n e. same_version a.version.version b.version.version e;
        same = λ a b m n e. subst (λ (o : Option (List ℕ)). is_same_version a.version.version o ≡ true) e (same_as_itself a.version.version);
      }
