use Rattle.std.proofs.Common.{subst, sym}
use Rattle.std.specs.Prelude.{None, option_to_list}
use Rattle.dep_core.specs.Meets.{dependency}
use Rattle.search_choices.specs.candidate_core.Candidates.{entry}
use Rattle.search_choices.specs.candidate_core.Options.{IsIn}
use Rattle.search_choices.specs.candidate_core.Rank.{SelectionProblem}
use Rattle.search_choices.specs.search_tables.Selection.{needs}
use Rattle.solve_core.specs.Clauses.{IsClause}
use Rattle.solve_core.proofs.PoolRules.{world_raises}
use Rattle.solve_core.proofs.pool_rules.add_entry.Goals as goal

pub need_clause-requires : goal.need_clause-requires
need_clause-requires c =
    subst (λ (p : SelectionProblem). IsIn (entry (dependency c.args.dep.now)) (needs p (option_to_list None))) (sym c.pool.ensures)
    (world_raises c.args.known.now (dependency c.args.dep.now) c.requires c.if-dep.false)

pub add_need-requires : goal.add_need-requires
add_need-requires c = subst (λ (p : SelectionProblem). IsClause p c.in_ok-clause.clause) c.pool.ensures c.in_ok-clause.ensures

pub returns : goal.returns
returns c = c.add_need.ensures
