use Rattle.dep_core.proofs.WorldWords.{words-world}
use Rattle.dep_core.proofs.laws.words_of_different_names_are_a_world.Goals as goal

pub returns : goal.returns
returns c = words-world
