use Rattle.std.proofs.Common.{subst, sym}
use Rattle.std.specs.Prelude.{option_to_list}
use Rattle.dep_core.specs.Meets.{dependency}
use Rattle.search_choices.specs.candidate_core.Candidates.{entry}
use Rattle.solve_core.specs.Clauses.{ClauseValue, IsClause}
use Rattle.solve_core.proofs.Resolution.{need_is_clause}
use Rattle.solve_core.proofs.pool_rules.need_clause.Goals as goal

pub returns : goal.returns
returns c =
    subst (λ (z : ClauseValue). IsClause c.args.pool.now z) (sym c.in_ok-clause.ensures)
    (need_is_clause c.args.pool.now (λ need. c.options_are_as_promised.ensures c.args.pool.now need) (option_to_list c.args.by) (entry (dependency c.args.dep.now)) c.requires)
