use Rattle.words_core.proofs.Letters.{letters}
use Rattle.words_core.proofs.laws.letters_are_those_of_short_words.Goals as goal

pub returns : goal.returns
returns _ applet = letters applet
