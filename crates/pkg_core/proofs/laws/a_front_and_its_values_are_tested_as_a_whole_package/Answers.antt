-- Test by test.
use Rattle.pkg_core.proofs.WholeTests.{front_alike, values_alike}
use Rattle.pkg_core.proofs.laws.a_front_and_its_values_are_tested_as_a_whole_package.Goals as goal

pub returns-clause-front : goal.returns-clause-front
returns-clause-front c = front_alike

pub returns-clause-values : goal.returns-clause-values
returns-clause-values c = values_alike
