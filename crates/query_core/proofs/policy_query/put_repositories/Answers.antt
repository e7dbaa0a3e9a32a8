use Rattle.std.proofs.Common.{◌+◌, ◌∙◌, ◌++◌, [], List, ℕ, drop, get_or, ap, sym, arith}
use Rattle.std.specs.Prelude.{if◌then◌else◌, nat_lt}
use Rattle.pool_core.proofs.candidate_core.Steps.{get_at}
use Rattle.query_core.specs.VersionPlaces.{repository_line_numbered, distinct_repository_lines}
use Rattle.query_core.proofs.Appended.{so_far_all, so_far_more, so_far_nothing}
use Rattle.query_core.proofs.LineParts.{nothing_left, numbers_left}
use Rattle.query_core.proofs.policy_query.put_repositories.Goals as goal

pub loop-i-init : goal.loop-i-init
loop-i-init g c = so_far_nothing (g.O.ReportOut.holds) _ _

pub loop-i-preserved : goal.loop-i-preserved
loop-i-preserved g c =
    let repositories = c.args.repositories.now in
    let ns : List ℕ = c.args.numbers.now in
    let i : ℕ = c.loop-i.i in
    let n : ℕ = get_or ns i 0 in
    so_far_more (g.O.ReportOut.holds) _ _ _ _ _ _ _
    (numbers_left repositories c.loop-i.last ns i n (get_at ns i 0 (omega arith))
    ∙ ap (λ (last : ℕ). (if nat_lt c.loop-i.last n then repository_line_numbered repositories n else []) ++ distinct_repository_lines repositories last (drop (i + 1) ns)) (sym c.in_ok-last.ensures.last))
    c.in_ok-last.ensures.put c.loop-i.invariant

pub returns : goal.returns
returns g c = so_far_all (g.O.ReportOut.holds) _ _ _ _ (ap (distinct_repository_lines c.args.repositories.now c.loop-i.last) (nothing_left c.args.numbers.now c.loop-i.i (omega arith))) c.loop-i.invariant
