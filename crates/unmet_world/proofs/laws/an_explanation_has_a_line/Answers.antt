use Rattle.unmet_world.proofs.HasLine.{has_line}
use Rattle.unmet_world.proofs.laws.an_explanation_has_a_line.Goals as goal

pub returns : goal.returns
returns c = has_line
