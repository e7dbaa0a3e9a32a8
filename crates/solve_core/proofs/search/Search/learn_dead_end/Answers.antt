use Rattle.std.proofs.Common.{◌∙◌, ℕ, List, refl, subst, sym}
use Rattle.search_choices.specs.candidate_core.Rank.{SelectionProblem}
use Rattle.search_choices.specs.Choices.{choices_of, pool_of}
use Rattle.search_choices.specs.search_tables.Reasons.{IsReason, dead_end_reason}
use Rattle.solve_core.specs.Clauses.{ClauseValue, IsClause}
use Rattle.solve_core.proofs.Resolution.{clause_of_reason}
use Rattle.solve_core.proofs.Steps.{dead_end, dead_same}
use Rattle.solve_core.proofs.search.Search.learn_dead_end.Goals as goal

pub learn-requires : goal.learn-requires
learn-requires c =
    let pool = pool_of c.args.self.now.chosen in
    let both = dead_end pool (λ need. c.options_are_as_promised.ensures pool need) (choices_of c.args.self.now.chosen) c.args.spent.now c.requires.spent in
    let dead : IsReason pool c.as_slice.result.now = subst (λ (z : List ℕ). IsReason pool z) (sym c.as_slice.ensures) (dead_same pool (dead_end_reason c.args.spent.now) _ c.in_ok-store_reason.ensures both.1) in
    subst (λ (p : SelectionProblem). IsClause p c.in_ok-learnt.learnt) (sym c.requires.underway.known)
    (subst (λ (z : ClauseValue). IsClause pool z) (sym c.in_ok-learnt.ensures) (clause_of_reason pool c.as_slice.result.now dead))

pub returns-clause-underway : goal.returns-clause-underway
returns-clause-underway c = record { chosen = c.requires.underway.chosen; matches = c.requires.underway.matches; known = c.learn.ensures ∙ c.requires.underway.known }

pub returns-clause-dead : goal.returns-clause-dead
returns-clause-dead c =
    let pool = pool_of c.args.self.now.chosen in
    let both = dead_end pool (λ need. c.options_are_as_promised.ensures pool need) (choices_of c.args.self.now.chosen) c.args.spent.now c.requires.spent in
    record {
      within = λ k h. both.0 k (c.in_ok-store_reason.ensures.0 k h);
      dead = dead_same pool (dead_end_reason c.args.spent.now) _ c.in_ok-store_reason.ensures both.1;
    }

pub returns-in_err-store_reason-clause-chosen : goal.returns-in_err-store_reason-clause-chosen
returns-in_err-store_reason-clause-chosen c = refl

pub returns-in_err-store_reason-clause-turns : goal.returns-in_err-store_reason-clause-turns
returns-in_err-store_reason-clause-turns c = refl

pub returns-in_err-learnt-clause-chosen : goal.returns-in_err-learnt-clause-chosen
returns-in_err-learnt-clause-chosen c = refl

pub returns-in_err-learnt-clause-turns : goal.returns-in_err-learnt-clause-turns
returns-in_err-learnt-clause-turns c = refl

pub returns-in_err-learn-clause-chosen : goal.returns-in_err-learn-clause-chosen
returns-in_err-learn-clause-chosen c = refl

pub returns-in_err-learn-clause-turns : goal.returns-in_err-learn-clause-turns
returns-in_err-learn-clause-turns c = refl

pub returns-clause-chosen : goal.returns-clause-chosen
returns-clause-chosen c = refl

pub returns-clause-turns : goal.returns-clause-turns
returns-clause-turns c = refl
