use Rattle.std.proofs.Common.{◌∙◌, sym}
use Rattle.solve_core.proofs.PoolRules.{conflict_excludes, shared_name_excludes}
use Rattle.solve_core.proofs.pool_rules.does_exclude.Goals as goal

pub returns-then-has_conflict_met_by : goal.returns-then-has_conflict_met_by
returns-then-has_conflict_met_by c = λ _.
    conflict_excludes c.args.pool.now c.args.id c.args.other _ _ (sym c.at.ensures ∙ c.in-Some.is) (sym c.at-2.ensures ∙ c.in-Some-at.is) (sym c.eq.ensures ∙ c.if-eq.false)
    (c.has_conflict_met_by.ensures c.if-has_conflict_met_by.true)

pub returns : goal.returns
returns c = λ yes.
    shared_name_excludes c.args.pool.now c.args.id c.args.other _ _ (sym c.at.ensures ∙ c.in-Some.is) (sym c.at-2.ensures ∙ c.in-Some-at.is) (sym c.eq.ensures ∙ c.if-eq.false)
    (c.shares_a_name.ensures yes)
