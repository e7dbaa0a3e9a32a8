use Rattle.solve_core.proofs.WalkLaws.{best_completed}
use Rattle.solve_core.proofs.laws.each_choice_is_the_best_that_can_be_completed.Goals as goal

pub returns : goal.returns
returns c = λ pool front rest selection k o need first next s in_it meets. best_completed pool (λ q. c.rank_is_total.ensures.total pool q) (λ q a b e. c.rank_is_total.ensures.strict pool q a b e) (λ q. c.options_are_as_promised.ensures pool q) front rest selection k o need first next s in_it meets
