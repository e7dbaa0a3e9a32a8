use Rattle.std.proofs.Common.{All, ℕ, List, sym, subst, rules}
use Rattle.std.specs.Ordering.{is_lt, on}
use Rattle.std.specs.List.Sorted.{IsPermutation}
use Rattle.std.proofs.lemmas.List.Sorted.{All-permutation, IsPermutation-map, IsPermutation-trans, ranks_by}
use Rattle.option_ranks.specs.Ranking.{Ranking, version_order}
use Rattle.candidate_core.specs.VersionTexts.{HasVersionTextFrom}
use Rattle.option_ranks.specs.VersionRanks.{HasRankAmong, IsVersionAmong, version_of, versions_in}
use Rattle.candidate_core.specs.declared.versions.RankedVersion.{RankedVersion}
use Rattle.candidate_core.specs.declared.versions.VersionKind.{VersionKind}
use Rattle.candidate_core.proofs.Answering.{compares_by}
use Rattle.option_ranks.proofs.ListedVersions.{all_are_read, all_have_ranks, moved_versions}
use Rattle.option_ranks.proofs.MovedMembers.{moved_member}
use Rattle.option_ranks.proofs.RankOrder.{order_of_kind}
use Rattle.option_ranks.proofs.version_ranks.rank_versions.Goals as goal

pub distinct_versions-requires : goal.distinct_versions-requires
distinct_versions-requires c = (
  c.requires.0,
  subst (λ (rs : List Ranking). All (λ (r : Ranking). HasVersionTextFrom c.requires.0 (version_of c.args.kind r)) rs) (sym c.deref.ensures.value)
      (All-permutation (λ (r : Ranking). HasVersionTextFrom c.requires.0 (version_of c.args.kind r)) c.args.options.now.items c.sort_by.new.self.items c.in_ok-sort_by.ensures.permutation c.requires.1),
)

pub rank_sorted-requires : goal.rank_sorted-requires
rank_sorted-requires c =
    let kind : VersionKind = c.args.kind in
    let weak = ranks_by (order_of_kind c.order_is_total.ensures kind) (λ (v : RankedVersion). v.version) in
    c.in_ok-sort_by-3.ensures.sorted (λ x y. is_lt (version_order kind x.version y.version)) weak
    (compares_by _ (on (λ (v : RankedVersion). v.version) (version_order kind)) _ (λ a r q k. search rules))

pub set_ranks-requires-clause-ranked : goal.set_ranks-requires-clause-ranked
set_ranks-requires-clause-ranked c =
    subst (λ (vs : List RankedVersion). All (HasRankAmong c.args.kind (versions_in vs)) vs) (sym c.deref-2.ensures.value)
    (all_have_ranks c.args.kind c.sort_by-3.new.self.items c.rank_sorted.new.versions.items c.sort_by-4.new.self.items c.rank_sorted.ensures c.in_ok-sort_by-4.ensures.permutation)

pub set_ranks-requires-clause-alike : goal.set_ranks-requires-clause-alike
set_ranks-requires-clause-alike c =
    let kind : VersionKind = c.args.kind in
    let text : ℕ → ℕ → List ℕ = c.requires.0 in
    let moved : List Ranking = c.sort_by.new.self.items in
    let each : All (λ (r : Ranking). HasVersionTextFrom text (version_of kind r)) moved =
    All-permutation (λ (r : Ranking). HasVersionTextFrom text (version_of kind r)) c.args.options.now.items moved c.in_ok-sort_by.ensures.permutation c.requires.1 in
    let found : All (HasVersionTextFrom text) c.in_ok-versions.versions.items =
    c.in_ok-versions.ensures.read text (subst (λ (rs : List Ranking). All (λ (r : Ranking). HasVersionTextFrom text (version_of kind r)) rs) (sym c.deref.ensures.value) each) in
    let guessed : All (HasVersionTextFrom text) c.sort_by-2.new.self.items =
    All-permutation (HasVersionTextFrom text) c.in_ok-versions.versions.items c.sort_by-2.new.self.items c.in_ok-sort_by-2.ensures.permutation found in
    let sorted : All (HasVersionTextFrom text) c.sort_by-3.new.self.items =
    All-permutation (HasVersionTextFrom text) c.sort_by-2.new.self.items c.sort_by-3.new.self.items c.in_ok-sort_by-3.ensures.permutation guessed in
    let placed : All (HasVersionTextFrom text) c.sort_by-4.new.self.items =
    all_are_read kind c.sort_by-3.new.self.items c.rank_sorted.new.versions.items c.sort_by-4.new.self.items c.rank_sorted.ensures c.in_ok-sort_by-4.ensures.permutation text sorted in
    (text, (subst (λ (vs : List RankedVersion). All (HasVersionTextFrom text) vs) (sym c.deref-2.ensures.value) placed, each))

pub returns : goal.returns
returns c =
    let kind : VersionKind = c.args.kind in
    let found : List RankedVersion = c.in_ok-versions.versions.items in
    let sorted : List RankedVersion = c.sort_by-3.new.self.items in
    let placed : List RankedVersion = c.deref-2.result.now in
    let again : IsPermutation (versions_in sorted) (versions_in placed) =
    subst (λ (vs : List RankedVersion). IsPermutation (versions_in sorted) (versions_in vs)) (sym c.deref-2.ensures.value)
    (moved_versions kind sorted c.rank_sorted.new.versions.items c.sort_by-4.new.self.items c.rank_sorted.ensures c.in_ok-sort_by-4.ensures.permutation) in
    let before : IsPermutation found sorted = IsPermutation-trans found c.sort_by-2.new.self.items sorted c.in_ok-sort_by-2.ensures.permutation c.in_ok-sort_by-3.ensures.permutation in
    let moved : IsPermutation (versions_in found) (versions_in placed) =
    IsPermutation-trans (versions_in found) (versions_in sorted) (versions_in placed) (IsPermutation-map (λ (v : RankedVersion). v.version) found sorted before) again in
    let listed : All (IsVersionAmong kind (versions_in found)) c.sort_by.new.self.items = subst (λ (rs : List Ranking). All (IsVersionAmong kind (versions_in found)) rs) c.deref.ensures.value c.in_ok-versions.ensures.listed in
    record {
      versions = versions_in placed;
      moved = c.sort_by.new.self.items;
      permutation = c.in_ok-sort_by.ensures.permutation;
      listed = λ i d h. moved_member (versions_in found) (versions_in placed) _ moved (listed i d h);
      ranked = c.set_ranks.ensures;
    }
