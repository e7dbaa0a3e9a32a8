use Rattle.change_outcome.proofs.Leading.{acted_is}
use Rattle.change_outcome.proofs.laws.actions_lead_to_given_files.Goals as goal

pub returns : goal.returns
returns c = acted_is
