use Rattle.solve_core.proofs.WalkLaws.{first_exists}
use Rattle.solve_core.proofs.laws.a_first_selection_exists.Goals as goal

pub returns : goal.returns
returns c = λ pool selection s. first_exists pool (λ need. c.rank_is_total.ensures.total pool need) (λ need a b e. c.rank_is_total.ensures.strict pool need a b e) (λ need. c.options_are_as_promised.ensures pool need) selection s
