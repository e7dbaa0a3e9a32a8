use Rattle.std.proofs.Common.{◌≡◌, All, map, take}
use Rattle.option_ranks.specs.Ranking.{IsRankingIn}
use Rattle.option_ranks.specs.candidate_core.Values.{need_of_ref}
use Rattle.option_ranks.specs.VersionRanks.{HasVersionTextsOfSources}
use Rattle.option_ranks.proofs.RankedOptions.{place_of}
use Rattle.pool_core.proofs.sealed.Sealed.rankings.Given as goal

abbrev pub invariant-loop-id : goal.invariant-loop-id
invariant-loop-id l = record {
  each : All (IsRankingIn l.self (need_of_ref l.need)) l.rankings.items;
  places : map place_of l.rankings.items ≡ take l.id-index l.ids;
  texts : All (HasVersionTextsOfSources l.packages.sources.items) l.rankings.items;
}
