use Rattle.std.proofs.Common.{◌∙◌, ◌+◌, arith, drop, map, ap}
use Rattle.std.specs.List.{filter}
use Rattle.std.proofs.lemmas.List.{drop_all}
use Rattle.solve_core.specs.candidate_core.Candidates.{Candidate}
use Rattle.solve_core.specs.candidate_core.Rank.{candidate_at}
use Rattle.package_changes.specs.Placed.{candidates_at}
use Rattle.package_changes.specs.Report.{is_candidate_needed_by_other}
use Rattle.package_changes.proofs.Lists.{all_told, left_at, told}
use Rattle.package_changes.proofs.ReportLines.{names_of_option}
use Rattle.package_changes.proofs.stays.push_names_in_need.Goals as goal

pub loop-i-preserved : goal.loop-i-preserved
loop-i-preserved c =
    told _ _ _ _ (map (λ (k : Candidate). k.name) (filter (is_candidate_needed_by_other c.args.needed.now) (candidates_at c.args.pool.now (drop (c.loop-i.i + 1) c.args.trace.now)))) _
    c.in_ok-push_name_if_it_needs.ensures
    (ap (λ z. map (λ (k : Candidate). k.name) (filter (is_candidate_needed_by_other c.args.needed.now) (candidates_at c.args.pool.now z))) (left_at c.args.trace.now c.loop-i.i c.get.result c.get.ensures)
    ∙ names_of_option (λ (k : Candidate). k.name) (is_candidate_needed_by_other c.args.needed.now) (candidate_at c.args.pool.now c.get.result) (candidates_at c.args.pool.now (drop (c.loop-i.i + 1) c.args.trace.now)))
    c.loop-i.invariant

pub returns : goal.returns
returns c =
    all_told _ _ _ (ap (λ z. map (λ (k : Candidate). k.name) (filter (is_candidate_needed_by_other c.args.needed.now) (candidates_at c.args.pool.now z))) (drop_all c.loop-i.i c.args.trace.now (omega (arith, c.len-i-end.ensures, c.loop-i-test.false, c.loop-i.auto.i-end)))) c.loop-i.invariant
