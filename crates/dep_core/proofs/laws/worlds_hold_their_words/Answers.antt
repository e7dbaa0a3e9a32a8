use Rattle.dep_core.proofs.WorldWords.{world-words}
use Rattle.dep_core.proofs.laws.worlds_hold_their_words.Goals as goal

pub returns : goal.returns
returns c = world-words
