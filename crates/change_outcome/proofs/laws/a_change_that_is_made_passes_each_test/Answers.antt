use Rattle.change_outcome.proofs.Made.{made}
use Rattle.change_outcome.proofs.laws.a_change_that_is_made_passes_each_test.Goals as goal

pub returns : goal.returns
returns c = made
