use Rattle.definition_laws.proofs.outcomes.Versions.{checked}
use Rattle.definition_laws.proofs.outcomes.version.version_prints_what_is_no_version.Goals as goal

pub returns : goal.returns
returns c = checked
