use Rattle.definition_laws.proofs.outcomes.Versions.{first_no_version}
use Rattle.definition_laws.proofs.outcomes.version.version_refuses_the_first_that_is_no_version.Goals as goal

pub returns : goal.returns
returns c = first_no_version
