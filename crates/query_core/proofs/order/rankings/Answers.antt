use Rattle.std.proofs.Common.{◌≡◌, ◌∙◌, ◌+◌, ◌++◌, ◌∷◌, [], List, ℕ, map, take, subst, ap, sym, arith}
use Rattle.std.specs.Prelude.{All}
use Rattle.std.proofs.lemmas.List.{map-append, take_more}
use Rattle.std.proofs.lemmas.List.Elements.{All-push}
use Rattle.pool_core.specs.candidate_core.VersionTexts.{source_text}
use Rattle.pool_core.specs.option_ranks.Ranking.{Ranking}
use Rattle.pool_core.specs.option_ranks.VersionRanks.{HasVersionTextsOfSources}
use Rattle.pool_core.proofs.option_ranks.RankedOptions.{place_of}
use Rattle.query_core.specs.QueryRanking.{IsQueryRanking}
use Rattle.query_core.proofs.order.rankings.Goals as goal

pub loop-place-preserved : goal.loop-place-preserved
loop-place-preserved c =
    let rankings : List Ranking = c.loop-place.rankings.items in
    let i : ℕ = c.loop-place.place-index in
    let ids : List ℕ = c.args.places.now in
    let more : take (i + 1) ids ≡ take i ids ++ c.place-item.result ∷ [] = take_more ids i c.place-item.result (omega arith) ∙ ap (λ (k : ℕ). take i ids ++ k ∷ []) (sym c.place-item.is) in
    let P = IsQueryRanking c.args.pool.now.candidates in
    let Q = HasVersionTextsOfSources c.args.packages.now.sources.items in
    record {
      each = subst (λ (rs : List Ranking). All P rs) (sym c.in_ok-push.ensures.items) (All-push P rankings c.ranking.result c.loop-place.invariant.each c.ranking.ensures.ranking);
      places = ap (map place_of) c.in_ok-push.ensures.items
          ∙ (map-append place_of rankings (c.ranking.result ∷ [])
          ∙ (ap (λ (z : List ℕ). z ++ c.ranking.result.place ∷ []) c.loop-place.invariant.places
          ∙ (ap (λ (k : ℕ). take i ids ++ k ∷ []) c.ranking.ensures.place ∙ sym more)));
      texts = subst (λ (rs : List Ranking). All Q rs) (sym c.in_ok-push.ensures.items) (All-push Q rankings c.ranking.result c.loop-place.invariant.texts c.ranking.ensures.texts);
    }

pub returns-clause-under : goal.returns-clause-under
returns-clause-under c = (source_text c.args.packages.now.sources.items, λ i d h. (c.loop-place.invariant.texts i d h).0)

pub returns-clause-version : goal.returns-clause-version
returns-clause-version c = (source_text c.args.packages.now.sources.items, λ i d h. (c.loop-place.invariant.texts i d h).1)
