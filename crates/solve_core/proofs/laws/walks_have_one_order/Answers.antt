use Rattle.solve_core.proofs.WalkLaws.{before_is_transitive, not_both_before, walks_compare}
use Rattle.solve_core.proofs.laws.walks_have_one_order.Goals as goal

pub returns-clause-one_of : goal.returns-clause-one_of
returns-clause-one_of c = λ pool selection other walk second s o first last. walks_compare pool (λ need. c.rank_is_total.ensures.total pool need) (λ need a b e. c.rank_is_total.ensures.strict pool need a b e) (λ need. c.options_are_as_promised.ensures pool need) selection other walk second s o first last

pub returns-clause-not_both : goal.returns-clause-not_both
returns-clause-not_both c = λ pool walk second before after. not_both_before pool (λ need. c.rank_is_total.ensures.total pool need) (λ need a b e. c.rank_is_total.ensures.strict pool need a b e) (λ need. c.options_are_as_promised.ensures pool need) walk second before after

pub returns-clause-transitive : goal.returns-clause-transitive
returns-clause-transitive c = λ pool first second third before after. before_is_transitive pool (λ need. c.rank_is_total.ensures.total pool need) (λ need a b e. c.rank_is_total.ensures.strict pool need a b e) (λ need. c.options_are_as_promised.ensures pool need) first second third before after
