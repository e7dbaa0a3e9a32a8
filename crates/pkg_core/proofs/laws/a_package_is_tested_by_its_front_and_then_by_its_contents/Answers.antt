-- Test by test.
use Rattle.pkg_core.proofs.WholeTests.{front_is_first, whole_by_front}
use Rattle.pkg_core.proofs.laws.a_package_is_tested_by_its_front_and_then_by_its_contents.Goals as goal

pub returns-clause-front : goal.returns-clause-front
returns-clause-front c = front_is_first

pub returns-clause-contents : goal.returns-clause-contents
returns-clause-contents c = whole_by_front
