use Rattle.std.proofs.Common.{◌≡◌, ◌∙◌, ◌+◌, ◌++◌, ◌∷◌, [], List, ℕ, map, take, subst, ap, sym, arith}
use Rattle.std.specs.Prelude.{All}
use Rattle.std.proofs.lemmas.List.{map-append, take_more}
use Rattle.std.proofs.lemmas.List.Elements.{All-push}
use Rattle.option_ranks.specs.candidate_core.Options.{IsIn, is_eligible_for_need}
use Rattle.option_ranks.specs.Ranking.{IsRankingIn, Ranking}
use Rattle.option_ranks.specs.candidate_core.Values.{need_of_ref}
use Rattle.option_ranks.specs.candidate_core.VersionTexts.{source_text}
use Rattle.option_ranks.specs.VersionRanks.{HasVersionTextsOfSources}
use Rattle.option_ranks.proofs.candidate_core.OfferLists.{places_below}
use Rattle.option_ranks.proofs.RankedOptions.{place_of}
use Rattle.option_ranks.proofs.candidate_core.Steps.{member_at}
use Rattle.pool_core.proofs.sealed.Sealed.rankings.Goals as goal

pub ranking-requires-clause-within : goal.ranking-requires-clause-within
ranking-requires-clause-within c =
    let pool = c.args.self.now in
    let there = member_at c.args.ids.now c.loop-id.id-index c.id-item.result (omega arith) c.id-item.is in
    let below = places_below 0 (is_eligible_for_need pool (need_of_ref c.args.need.now)) pool.candidates c.id-item.result (subst (λ (z : List ℕ). IsIn c.id-item.result z) c.requires.those there) in
    omega (arith, below)

pub loop-id-preserved : goal.loop-id-preserved
loop-id-preserved c =
    let rankings : List Ranking = c.loop-id.rankings.items in
    let i : ℕ = c.loop-id.id-index in
    let ids : List ℕ = c.args.ids.now in
    let more : take (i + 1) ids ≡ take i ids ++ c.id-item.result ∷ [] = take_more ids i c.id-item.result (omega arith) ∙ ap (λ (k : ℕ). take i ids ++ k ∷ []) (sym c.id-item.is) in
    let P = IsRankingIn c.args.self.now (need_of_ref c.args.need.now) in
    let Q = HasVersionTextsOfSources c.args.packages.now.sources.items in
    record {
      each = subst (λ (rs : List Ranking). All P rs) (sym c.in_ok-push.ensures.items) (All-push P rankings c.ranking.result c.loop-id.invariant.each c.ranking.ensures.ranking);
      places = ap (map place_of) c.in_ok-push.ensures.items
          ∙ (map-append place_of rankings (c.ranking.result ∷ [])
          ∙ (ap (λ (z : List ℕ). z ++ c.ranking.result.place ∷ []) c.loop-id.invariant.places
          ∙ (ap (λ (k : ℕ). take i ids ++ k ∷ []) c.ranking.ensures.place ∙ sym more)));
      texts = subst (λ (rs : List Ranking). All Q rs) (sym c.in_ok-push.ensures.items) (All-push Q rankings c.ranking.result c.loop-id.invariant.texts c.ranking.ensures.texts);
    }

pub returns-clause-under : goal.returns-clause-under
returns-clause-under c = (source_text c.args.packages.now.sources.items, λ i d h. (c.loop-id.invariant.texts i d h).0)

pub returns-clause-version : goal.returns-clause-version
returns-clause-version c = (source_text c.args.packages.now.sources.items, λ i d h. (c.loop-id.invariant.texts i d h).1)
