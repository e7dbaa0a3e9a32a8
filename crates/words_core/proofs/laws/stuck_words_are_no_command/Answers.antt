use Rattle.words_core.proofs.AskedStuck.{stuck_words}
use Rattle.words_core.proofs.laws.stuck_words_are_no_command.Goals as goal

pub returns : goal.returns
returns c = stuck_words
