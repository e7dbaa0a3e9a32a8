-- The lines of the candidates that are left are still to come.
use Rattle.std.proofs.Common.{◌≡◌, ◌++◌, drop}
use Rattle.std.specs.List.{filter, flat_map}
use Rattle.solve_core.specs.candidate_core.Candidates.{Candidate}
use Rattle.report_core.specs.Reports.{report_line, still_needed_text}
use Rattle.package_changes.specs.Changes.{is_candidate_named}
use Rattle.package_changes.specs.Placed.{candidates_at}
use Rattle.package_changes.specs.Report.{names_needing_candidate, lines_on_name_that_stays}
use Rattle.package_changes.proofs.stays.push_selected_lines.Given as goal

abbrev pub invariant-loop-i : goal.invariant-loop-i
invariant-loop-i l =
    l.report ++ flat_map (λ (c : Candidate). report_line (still_needed_text l.name (names_needing_candidate (candidates_at l.pool l.trace) c))) (filter (is_candidate_named l.name) (candidates_at l.pool (drop l.i l.trace)))
    ≡ l.initial.report ++ lines_on_name_that_stays (candidates_at l.pool l.trace) l.name
