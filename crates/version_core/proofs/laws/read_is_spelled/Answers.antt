use Rattle.version_core.proofs.ReadBack.{spelled}
use Rattle.version_core.proofs.laws.read_is_spelled.Goals as goal

pub returns : goal.returns
returns c = spelled
