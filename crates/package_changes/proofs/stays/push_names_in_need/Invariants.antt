-- The names of the candidates that are left are still to come.
use Rattle.std.proofs.Common.{◌≡◌, ◌++◌, map, drop}
use Rattle.std.specs.List.{filter}
use Rattle.solve_core.specs.candidate_core.Candidates.{Candidate}
use Rattle.package_changes.specs.Placed.{candidates_at}
use Rattle.package_changes.specs.Report.{is_candidate_needed_by_other}
use Rattle.package_changes.proofs.stays.push_names_in_need.Given as goal

abbrev pub invariant-loop-i : goal.invariant-loop-i
invariant-loop-i l =
    map (λ n. n.now) l.names.items ++ map (λ (c : Candidate). c.name) (filter (is_candidate_needed_by_other l.needed) (candidates_at l.pool (drop l.i l.trace)))
    ≡ map (λ n. n.now) l.initial.names.items ++ map (λ (c : Candidate). c.name) (filter (is_candidate_needed_by_other l.needed) (candidates_at l.pool l.trace))
