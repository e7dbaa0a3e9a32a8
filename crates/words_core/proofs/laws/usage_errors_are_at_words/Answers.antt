use Rattle.words_core.proofs.AskedLaws.{usage_between_words}
use Rattle.words_core.proofs.laws.usage_errors_are_at_words.Goals as goal

pub returns : goal.returns
returns c = usage_between_words
