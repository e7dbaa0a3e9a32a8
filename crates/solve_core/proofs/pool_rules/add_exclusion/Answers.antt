use Rattle.std.proofs.Common.{◌≡◌, true, subst, sym}
use Rattle.search_choices.specs.candidate_core.Rank.{SelectionProblem}
use Rattle.search_choices.specs.search_tables.Selection.{exclude_each_other}
use Rattle.solve_core.specs.Clauses.{ClauseValue, IsClause}
use Rattle.solve_core.proofs.Resolution.{excluded_are_reason}
use Rattle.solve_core.proofs.pool_rules.add_exclusion.Goals as goal

pub push-requires : goal.push-requires
push-requires c =
    let pool : SelectionProblem = c.args.known.now in
    let out : exclude_each_other pool c.args.id c.args.other ≡ true =
    subst (λ (p : SelectionProblem). exclude_each_other p c.args.id c.args.other ≡ true) c.pool.ensures (c.does_exclude.ensures c.if-not-does_exclude.false) in
    subst (λ (z : ClauseValue). IsClause pool z) (sym c.in_ok-clause.ensures) (excluded_are_reason pool c.args.id c.args.other out)
