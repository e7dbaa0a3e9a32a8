use Rattle.option_ranks.proofs.candidate_core.OptionLists.{options_those, options_each, options_ranked}
use Rattle.pool_core.proofs.laws.options_are_the_best_first.Goals as goal

pub returns-clause-those : goal.returns-clause-those
returns-clause-those c = λ pool need k h. options_those pool need k h

pub returns-clause-each : goal.returns-clause-each
returns-clause-each c = λ pool need k eligible meets. options_each pool need k eligible meets

pub returns-clause-best_first : goal.returns-clause-best_first
returns-clause-best_first c = λ pool need. options_ranked pool need (c.rank_is_total.ensures.total pool need)
