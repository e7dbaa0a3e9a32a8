use Rattle.base_core.proofs.Counting.{readings_none, readings_two}
use Rattle.base_core.proofs.laws.consecutive_reads_compose.Goals as goal

pub returns-clause-none : goal.returns-clause-none
returns-clause-none g c = readings_none

pub returns-clause-two : goal.returns-clause-two
returns-clause-two g c = readings_two
