use Rattle.change_outcome.proofs.Made.{a_clash_found, clash_once}
use Rattle.change_outcome.proofs.laws.a_change_has_a_first_clash_or_none.Goals as goal

pub returns-clause-one : goal.returns-clause-one
returns-clause-one c = clash_once

pub returns-clause-exists : goal.returns-clause-exists
returns-clause-exists c = a_clash_found
