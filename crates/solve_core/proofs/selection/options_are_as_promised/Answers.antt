use Rattle.solve_core.proofs.selection.options_are_as_promised.Goals as goal

pub returns : goal.returns
returns c = λ pool need. record {
  those = λ k h. c.options_are_the_best_first.ensures.those pool need k h;
  each = λ k eligible meets. c.options_are_the_best_first.ensures.each pool need k eligible meets;
  best_first = c.options_are_the_best_first.ensures.best_first pool need;
}
