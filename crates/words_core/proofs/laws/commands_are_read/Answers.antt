use Rattle.words_core.proofs.AskedLaws.{made_or_asked}
use Rattle.words_core.proofs.laws.commands_are_read.Goals as goal

pub returns : goal.returns
returns c = made_or_asked
