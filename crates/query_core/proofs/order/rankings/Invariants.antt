use Rattle.std.proofs.Common.{◌≡◌, All, map, take}
use Rattle.pool_core.specs.option_ranks.VersionRanks.{HasVersionTextsOfSources}
use Rattle.pool_core.proofs.option_ranks.RankedOptions.{place_of}
use Rattle.query_core.specs.QueryRanking.{IsQueryRanking}
use Rattle.query_core.proofs.order.rankings.Given as goal

abbrev pub invariant-loop-place : goal.invariant-loop-place
invariant-loop-place l = record {
  each : All (IsQueryRanking l.pool.candidates) l.rankings.items;
  places : map place_of l.rankings.items ≡ take l.place-index l.places;
  texts : All (HasVersionTextsOfSources l.packages.sources.items) l.rankings.items;
}
