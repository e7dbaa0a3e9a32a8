use Rattle.std.proofs.Common.{◌≡◌, ◌≤◌, take, length}
use Rattle.std.specs.List.{filter}
use Rattle.std.specs.Ordering.{is_lt}
use Rattle.candidate_core.specs.declared.versions.RankedVersion.{RankedVersion}
use Rattle.option_ranks.specs.Ranking.{version_order}
use Rattle.option_ranks.proofs.version_ranks.rank_among.Given as goal

abbrev pub invariant-loop-i : goal.invariant-loop-i
invariant-loop-i l = record {
  count : l.rank ≡ length (filter (λ (v : RankedVersion). is_lt (version_order l.kind v.version l.version)) (take l.i l.versions));
  few : l.rank ≤ l.i;
}
