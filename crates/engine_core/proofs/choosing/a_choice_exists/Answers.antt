use Rattle.engine_core.proofs.Choices.{choice_exists}
use Rattle.engine_core.proofs.choosing.a_choice_exists.Goals as goal

pub returns : goal.returns
returns c = choice_exists (λ pool need. record {
  those = λ k h. c.options_are_the_best_first.ensures.those pool need k h;
  each = λ k eligible meets. c.options_are_the_best_first.ensures.each pool need k eligible meets;
  best_first = c.options_are_the_best_first.ensures.best_first pool need;
})
