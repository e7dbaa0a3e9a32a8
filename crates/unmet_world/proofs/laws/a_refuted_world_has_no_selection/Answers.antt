use Rattle.unmet_world.proofs.Sound.{no_selection}
use Rattle.unmet_world.proofs.laws.a_refuted_world_has_no_selection.Goals as goal

pub returns : goal.returns
returns c = λ pool r selection is s. no_selection pool (λ need o eligible meets. c.options_are_the_best_first.ensures.each pool need o eligible meets) selection s r is
