use Rattle.std.proofs.Common.{subst, sym}
use Rattle.solve_core.specs.Clauses.{ClauseValue, IsClause}
use Rattle.solve_core.proofs.propagation.Propagation.without_options.Goals as goal

pub loop-option-init : goal.loop-option-init
loop-option-init c = subst (λ (z : ClauseValue). IsClause c.args.known.now z) (sym c.in_ok-clause.ensures) c.in-Some.ensures

pub without_option-requires : goal.without_option-requires
without_option-requires c = c.loop-option.invariant

pub loop-option-preserved : goal.loop-option-preserved
loop-option-preserved c = c.in_ok-clause-2.ensures

pub returns : goal.returns
returns c = c.loop-option.invariant
