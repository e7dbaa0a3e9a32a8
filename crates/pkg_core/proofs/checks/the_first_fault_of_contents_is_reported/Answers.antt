use Rattle.pkg_core.proofs.First.{first_told}
use Rattle.pkg_core.proofs.checks.the_first_fault_of_contents_is_reported.Goals as goal

pub returns : goal.returns
returns c = first_told
