-- By whether its values are refused.
use Rattle.pkg_core.proofs.Steps.{package_steps}
use Rattle.pkg_core.proofs.checks.a_package_is_tested_by_its_values_and_then_its_files.Goals as goal

pub returns : goal.returns
returns c = package_steps
