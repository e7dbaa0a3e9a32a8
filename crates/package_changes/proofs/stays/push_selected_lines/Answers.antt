use Rattle.std.proofs.Common.{◌∙◌, ◌+◌, List, ℕ, arith, drop, ap}
use Rattle.std.specs.List.{filter, flat_map}
use Rattle.std.proofs.lemmas.List.{drop_all}
use Rattle.solve_core.specs.candidate_core.Candidates.{Candidate}
use Rattle.solve_core.specs.candidate_core.Rank.{candidate_at}
use Rattle.report_core.specs.Reports.{report_line, still_needed_text}
use Rattle.package_changes.specs.Changes.{is_candidate_named}
use Rattle.package_changes.specs.Placed.{candidates_at}
use Rattle.package_changes.specs.Report.{names_needing_candidate}
use Rattle.package_changes.proofs.Lists.{all_told, left_at, told}
use Rattle.package_changes.proofs.ReportLines.{lines_of_option}
use Rattle.package_changes.proofs.stays.push_selected_lines.Goals as goal

pub loop-i-preserved : goal.loop-i-preserved
loop-i-preserved c =
    let line : Candidate → List ℕ = λ k. report_line (still_needed_text c.args.name.now (names_needing_candidate (candidates_at c.args.pool.now c.args.trace.now) k)) in
    told _ _ _ _ (flat_map line (filter (is_candidate_named c.args.name.now) (candidates_at c.args.pool.now (drop (c.loop-i.i + 1) c.args.trace.now)))) _
    c.in_ok-push_line_of.ensures
    (ap (λ z. flat_map line (filter (is_candidate_named c.args.name.now) (candidates_at c.args.pool.now z))) (left_at c.args.trace.now c.loop-i.i c.get.result c.get.ensures)
    ∙ lines_of_option line (is_candidate_named c.args.name.now) (candidate_at c.args.pool.now c.get.result) (candidates_at c.args.pool.now (drop (c.loop-i.i + 1) c.args.trace.now)))
    c.loop-i.invariant

pub returns : goal.returns
returns c =
    let line : Candidate → List ℕ = λ k. report_line (still_needed_text c.args.name.now (names_needing_candidate (candidates_at c.args.pool.now c.args.trace.now) k)) in
    all_told _ _ _ (ap (λ z. flat_map line (filter (is_candidate_named c.args.name.now) (candidates_at c.args.pool.now z))) (drop_all c.loop-i.i c.args.trace.now (omega (arith, c.len-i-end.ensures, c.loop-i-test.false, c.loop-i.auto.i-end)))) c.loop-i.invariant
