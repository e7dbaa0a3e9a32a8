use Rattle.refusal_laws.proofs.RunMade.{first_selected}
use Rattle.refusal_laws.proofs.laws.the_packages_after_a_run_are_those_of_the_first_selection.Goals as goal

pub returns : goal.returns
returns c = λ command files o changes is none off. first_selected command files o (c.a_change_takes_the_first_selection_or_is_refused.ensures.over command files o changes is) none off
