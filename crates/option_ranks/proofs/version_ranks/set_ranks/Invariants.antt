use Rattle.std.proofs.Common.{◌≡◌}
use Rattle.option_ranks.specs.VersionRanks.{versions_in, with_rank_among}
use Rattle.option_ranks.proofs.RankedVersions.{map_first}
use Rattle.option_ranks.proofs.version_ranks.set_ranks.Given as goal

abbrev pub invariant-loop-i : goal.invariant-loop-i
invariant-loop-i l = l.options.items ≡ map_first (with_rank_among l.kind (versions_in l.versions)) l.i l.initial.options.items
