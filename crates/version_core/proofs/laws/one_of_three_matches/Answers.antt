use Rattle.version_core.proofs.OrderLaws.{one_of_three}
use Rattle.version_core.proofs.laws.one_of_three_matches.Goals as goal

pub returns : goal.returns
returns c = one_of_three
