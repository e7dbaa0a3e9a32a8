use Rattle.std.proofs.Common.{ℕ, List, subst, sym}
use Rattle.search_choices.specs.candidate_core.Options.{IsIn}
use Rattle.solve_core.proofs.search.is_reason_of_choices.Goals as goal

pub returns-clause-choices : goal.returns-clause-choices
returns-clause-choices c = λ yes k h. c.are_choices.ensures yes k (subst (λ (z : List ℕ). IsIn k z) (sym c.members.ensures) h)
