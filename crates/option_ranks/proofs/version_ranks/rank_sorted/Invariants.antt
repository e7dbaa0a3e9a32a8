use Rattle.std.proofs.Common.{◌≡◌}
use Rattle.option_ranks.specs.VersionRanks.{version_with_rank_among, versions_in}
use Rattle.option_ranks.proofs.RankedVersions.{map_first}
use Rattle.option_ranks.proofs.version_ranks.rank_sorted.Given as goal

abbrev pub invariant-loop-i : goal.invariant-loop-i
invariant-loop-i l = l.versions.items ≡ map_first (version_with_rank_among l.kind (versions_in l.initial.versions.items)) l.i l.initial.versions.items
