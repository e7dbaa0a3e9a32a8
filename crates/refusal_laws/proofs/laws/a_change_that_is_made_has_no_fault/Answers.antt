use Rattle.refusal_laws.proofs.FoundPackages.{no_package_fault}
use Rattle.refusal_laws.proofs.TestsPassed.{change_made}
use Rattle.refusal_laws.proofs.laws.a_change_that_is_made_has_no_fault.Goals as goal

pub returns-clause-packages : goal.returns-clause-packages
returns-clause-packages c = λ inputs r wishes read found refusal are is. no_package_fault inputs r wishes read found are refusal is

pub returns-clause-files : goal.returns-clause-files
returns-clause-files c = change_made
