use Rattle.std.proofs.Common.{◌≡◌, take}
use Rattle.std.specs.Prelude.{slice_get}
use Rattle.std.specs.List.{filter_map, list_any}
use Rattle.pool_core.specs.candidate_core.Candidates.{Candidate}
use Rattle.pool_core.specs.option_ranks.Ranking.{Ranking}
use Rattle.query_core.proofs.RisingLines.{numbers_of}
use Rattle.query_core.proofs.version_places.placed_version.Given as goal

abbrev pub invariant-loop-i : goal.invariant-loop-i
invariant-loop-i l = record {
  installed : l.is_installed ≡ list_any (λ (c : Candidate). c.installed) (filter_map (λ (r : Ranking). slice_get l.pool.candidates r.place) (take l.i l.rankings));
  numbers : l.repositories.items ≡ numbers_of (filter_map (λ (r : Ranking). slice_get l.pool.candidates r.place) (take l.i l.rankings));
}
