use Rattle.words_core.proofs.AskedLaws.{read_or_asked}
use Rattle.words_core.proofs.laws.read_words_are_a_command.Goals as goal

pub returns : goal.returns
returns c = read_or_asked
