use Rattle.dep_core.proofs.ReadOut.{read-out}
use Rattle.dep_core.proofs.laws.read_texts_are_spelled.Goals as goal

pub returns : goal.returns
returns c = read-out
