use Rattle.solve_core.proofs.WalkLaws.{has_a_walk, has_one_walk}
use Rattle.solve_core.proofs.laws.each_selection_has_one_walk.Goals as goal

pub returns-clause-some : goal.returns-clause-some
returns-clause-some c = λ pool selection s. has_a_walk pool (λ need. c.rank_is_total.ensures.total pool need) (λ need a b e. c.rank_is_total.ensures.strict pool need a b e) (λ need. c.options_are_as_promised.ensures pool need) selection s

pub returns-clause-one : goal.returns-clause-one
returns-clause-one c = λ pool selection walk other first second. has_one_walk pool (λ need. c.rank_is_total.ensures.total pool need) (λ need a b e. c.rank_is_total.ensures.strict pool need a b e) (λ need. c.options_are_as_promised.ensures pool need) selection walk other first second
