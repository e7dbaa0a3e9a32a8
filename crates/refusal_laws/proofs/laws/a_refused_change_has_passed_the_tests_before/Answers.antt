use Rattle.refusal_laws.proofs.TestsPassed.{change_passed}
use Rattle.refusal_laws.proofs.laws.a_refused_change_has_passed_the_tests_before.Goals as goal

pub returns : goal.returns
returns c = change_passed
