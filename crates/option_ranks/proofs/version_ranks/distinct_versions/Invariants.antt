use Rattle.std.proofs.Common.{All, ℕ, List, take}
use Rattle.candidate_core.specs.VersionTexts.{HasVersionTextFrom}
use Rattle.option_ranks.specs.VersionRanks.{IsVersionAmong, version_of, versions_in}
use Rattle.option_ranks.proofs.version_ranks.distinct_versions.Given as goal

abbrev pub invariant-loop-i : goal.invariant-loop-i
invariant-loop-i l = record {
  listed : All (IsVersionAmong l.kind (versions_in l.versions.items)) (take l.i l.options);
  read : (text : ℕ → ℕ → List ℕ) → All (λ r. HasVersionTextFrom text (version_of l.kind r)) l.options → All (HasVersionTextFrom text) l.versions.items;
}
