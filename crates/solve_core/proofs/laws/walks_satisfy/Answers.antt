use Rattle.solve_core.proofs.WalkLaws.{walk_of_walk, walk_satisfies}
use Rattle.solve_core.proofs.laws.walks_satisfy.Goals as goal

pub returns-clause-satisfies : goal.returns-clause-satisfies
returns-clause-satisfies c = λ pool selection walk s walked. walk_satisfies pool (λ need. c.rank_is_total.ensures.total pool need) (λ need a b e. c.rank_is_total.ensures.strict pool need a b e) (λ need. c.options_are_as_promised.ensures pool need) selection walk s walked

pub returns-clause-walked : goal.returns-clause-walked
returns-clause-walked c = λ pool selection walk walked. walk_of_walk pool (λ need. c.rank_is_total.ensures.total pool need) (λ need a b e. c.rank_is_total.ensures.strict pool need a b e) (λ need. c.options_are_as_promised.ensures pool need) selection walk walked
