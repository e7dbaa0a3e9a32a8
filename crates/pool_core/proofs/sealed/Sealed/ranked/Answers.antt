use Rattle.std.proofs.Common.{◌≡◌, ◌∙◌, List, ℕ, Bool, ap, map, subst, rules}
use Rattle.std.specs.List.Sorted.{IsPermutation, IsSortedBy}
use Rattle.std.proofs.lemmas.List.Sorted.{IsPermutation-map, IsPermutation-trans, ranks_by}
use Rattle.option_ranks.specs.candidate_core.Candidates.{Need}
use Rattle.option_ranks.specs.candidate_core.Values.{need_of_ref}
use Rattle.option_ranks.specs.candidate_core.Rank.{SelectionProblem, is_better}
use Rattle.option_ranks.specs.Ranking.{Ranking, ranking_cmp}
use Rattle.option_ranks.specs.candidate_core.Options.{is_eligible_for_need, options_for, places_passing_counted_from}
use Rattle.option_ranks.specs.declared.rank.VersionKey.{VersionKey}
use Rattle.option_ranks.proofs.candidate_core.OptionLists.{chain, one_of, places_apart, options_ranked}
use Rattle.option_ranks.proofs.candidate_core.Answering.{compares_by}
use Rattle.option_ranks.proofs.RankOrder.{ranking_total}
use Rattle.option_ranks.proofs.RankedOptions.{comes_before, place_of, places_ready, sorted_by_key}
use Rattle.pool_core.proofs.SortedOptions.{sorted_is_ranked}
use Rattle.pool_core.proofs.sealed.Sealed.ranked.Goals as goal

pub returns : goal.returns
unfolding options_for
returns c =
    let pool : SelectionProblem = c.args.self.now in
    let need : Need = need_of_ref c.args.need.now in
    let versions = c.order_is_total.ensures in
    let total = c.rank_is_total.ensures.total pool need in
    let better : ℕ → ℕ → Bool = is_better pool need in
    let weak = ranks_by total (λ (k : ℕ). k) in
    let places : List ℕ = places_passing_counted_from 0 (is_eligible_for_need pool need) pool.candidates in
    let key : VersionKey = c.in_ok-key.key in
    let read : List Ranking = c.in_ok-rankings.rankings.items in
    let ready : List Ranking = c.rank_long_versions.new.options.items in
    let sorted : List Ranking = c.sort_by.new.self.items in
    let permutation : IsPermutation ready sorted = c.in_ok-sort_by.ensures.permutation in
    let order = ranks_by (ranking_total versions key) (λ (r : Ranking). r) in
    let up : IsSortedBy better (map place_of sorted) =
    sorted_by_key versions pool need read c.in_ok-rankings.ensures.each key ready sorted c.in_ok-key.ensures permutation
    (c.in_ok-sort_by.ensures.sorted (comes_before key) order (compares_by _ (ranking_cmp key) _ (λ a r q k. search rules))) in
    let was : map place_of read ≡ places = c.in_ok-rankings.ensures.places ∙ c.requires.those in
    let moved : IsPermutation (map place_of read) (map place_of sorted) =
    IsPermutation-trans (map place_of read) (map place_of ready) (map place_of sorted)
    (places_ready versions pool need read c.in_ok-rankings.ensures.each key ready c.in_ok-key.ensures) (IsPermutation-map place_of ready sorted permutation) in
    c.of.ensures ∙ (c.in_ok-ids.ensures ∙ (ap (map place_of) c.deref.ensures.value
    ∙ sorted_is_ranked better weak (chain pool need total) (one_of pool need total) places (map place_of sorted) (places_apart 0 (is_eligible_for_need pool need) pool.candidates) up
    (subst (λ (z : List ℕ). IsPermutation z (map place_of sorted)) was moved) (options_ranked pool need total)))
