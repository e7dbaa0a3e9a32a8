use Rattle.words_core.proofs.ReasonsHold.{reason_so}
use Rattle.words_core.proofs.laws.a_reason_is_so.Goals as goal

pub returns : goal.returns
returns c = reason_so
