use Rattle.std.proofs.Common.{◌∙◌, ◌+◌, arith, drop, map, ap}
use Rattle.std.proofs.lemmas.List.{drop_all}
use Rattle.solve_core.specs.candidate_core.Candidates.{Candidate}
use Rattle.solve_core.specs.candidate_core.Rank.{candidate_at}
use Rattle.package_changes.specs.Placed.{candidates_at}
use Rattle.package_changes.proofs.Lists.{all_told, left_at, option_mapped, told}
use Rattle.package_changes.proofs.placed.push_selected_names.Goals as goal

pub loop-i-preserved : goal.loop-i-preserved
loop-i-preserved c =
    told _ _ _ _ (map (λ (k : Candidate). k.name) (candidates_at c.args.pool.now (drop (c.loop-i.i + 1) c.args.trace.now))) _
    c.in_ok-push_selected_name.ensures
    (ap (λ z. map (λ (k : Candidate). k.name) (candidates_at c.args.pool.now z)) (left_at c.args.trace.now c.loop-i.i c.get.result c.get.ensures)
    ∙ option_mapped (λ (k : Candidate). k.name) (candidate_at c.args.pool.now c.get.result) (candidates_at c.args.pool.now (drop (c.loop-i.i + 1) c.args.trace.now)))
    c.loop-i.invariant

pub returns : goal.returns
returns c =
    all_told _ _ _ (ap (λ z. map (λ (k : Candidate). k.name) (candidates_at c.args.pool.now z)) (drop_all c.loop-i.i c.args.trace.now (omega (arith, c.len-i-end.ensures, c.loop-i-test.false, c.loop-i.auto.i-end)))) c.loop-i.invariant
