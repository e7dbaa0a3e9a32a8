use Rattle.definition_laws.proofs.outcomes.Versions.{accepted, shows_equal, shows_greater, shows_less, silent}
use Rattle.definition_laws.proofs.outcomes.version.version_prints_the_order.Goals as goal

pub returns : goal.returns
returns c = record { less = shows_less; equal = shows_equal; greater = shows_greater; refused = silent; accepted = accepted }
