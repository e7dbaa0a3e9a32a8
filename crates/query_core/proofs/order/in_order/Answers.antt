use Rattle.std.proofs.Common.{List, ℕ, map, subst, rules}
use Rattle.std.specs.List.Sorted.{IsPermutation, IsSortedBy}
use Rattle.std.specs.Ordering.{is_lt}
use Rattle.std.proofs.lemmas.List.Sorted.{IsPermutation-map, IsPermutation-trans, ranks_by}
use Rattle.pool_core.specs.candidate_core.Candidates.{Candidate}
use Rattle.pool_core.proofs.candidate_core.Answering.{compares_by}
use Rattle.pool_core.specs.option_ranks.Ranking.{Ranking, ranking_cmp}
use Rattle.pool_core.specs.option_ranks.declared.rank.VersionKey.{VersionKey}
use Rattle.pool_core.proofs.option_ranks.RankOrder.{ranking_total}
use Rattle.pool_core.proofs.option_ranks.RankedOptions.{comes_before, place_of}
use Rattle.query_core.specs.Order.{candidate_places_cmp}
use Rattle.query_core.proofs.QueryOrder.{in_query_order, one_place, places_ready, query_total, sorted_by_key}
use Rattle.query_core.proofs.SortedLists.{sorted_moved}
use Rattle.query_core.proofs.order.in_order.Goals as goal

pub returns-clause-places : goal.returns-clause-places
returns-clause-places c =
    let cs : List Candidate = c.args.pool.now.candidates in
    let versions = c.order_is_total.ensures in
    let key : VersionKey = c.in_ok-key.key in
    let read : List Ranking = c.in_ok-rankings.rankings.items in
    let ready : List Ranking = c.rank_long_versions.new.options.items in
    let sorted : List Ranking = c.sort_by.new.self.items in
    let permutation : IsPermutation ready sorted = c.in_ok-sort_by.ensures.permutation in
    let order = ranks_by (ranking_total versions key) (λ (r : Ranking). r) in
    let up : IsSortedBy (λ a b. is_lt (candidate_places_cmp cs a b)) (map place_of sorted) =
    sorted_by_key versions cs read c.in_ok-rankings.ensures.each key ready sorted c.in_ok-key.ensures permutation
    (c.in_ok-sort_by.ensures.sorted (comes_before key) order (compares_by _ (ranking_cmp key) _ (λ a r q k. search rules))) in
    let moved : IsPermutation (map place_of read) (map place_of sorted) =
    IsPermutation-trans (map place_of read) (map place_of ready) (map place_of sorted)
    (places_ready versions cs read c.in_ok-rankings.ensures.each key ready c.in_ok-key.ensures) (IsPermutation-map place_of ready sorted permutation) in
    sorted_moved (candidate_places_cmp cs) (query_total versions cs) (one_place cs) c.args.places.now (map place_of sorted) up
    (subst (λ (z : List ℕ). IsPermutation z (map place_of sorted)) c.in_ok-rankings.ensures.places moved)

pub returns-clause-versions : goal.returns-clause-versions
returns-clause-versions c =
    in_query_order c.order_is_total.ensures c.args.pool.now.candidates c.in_ok-rankings.rankings.items c.in_ok-rankings.ensures.each c.in_ok-key.key
    c.rank_long_versions.new.options.items c.sort_by.new.self.items c.in_ok-key.ensures c.in_ok-sort_by.ensures.permutation
