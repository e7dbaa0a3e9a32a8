use Rattle.words_core.proofs.AskedStuck.{completed_words}
use Rattle.words_core.proofs.laws.words_before_a_usage_error_can_be_completed.Goals as goal

pub returns : goal.returns
returns c = completed_words
