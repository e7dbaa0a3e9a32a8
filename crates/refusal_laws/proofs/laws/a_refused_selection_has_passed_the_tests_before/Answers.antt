use Rattle.refusal_laws.proofs.OperandsKnown.{selection_passed}
use Rattle.refusal_laws.proofs.laws.a_refused_selection_has_passed_the_tests_before.Goals as goal

pub returns : goal.returns
returns c = λ command inputs chosen refusal. selection_passed command inputs chosen refusal
