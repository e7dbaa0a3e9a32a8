use Rattle.solve_core.proofs.WalkLaws.{first_is_unique}
use Rattle.solve_core.proofs.laws.the_first_selection_is_unique.Goals as goal

pub returns : goal.returns
returns c = λ pool trace other first second. first_is_unique pool (λ need. c.rank_is_total.ensures.total pool need) (λ need a b e. c.rank_is_total.ensures.strict pool need a b e) (λ need. c.options_are_as_promised.ensures pool need) trace other first second
