use Rattle.journal_core.proofs.Images.{quiet_same, quiet_on}
use Rattle.journal_core.proofs.laws.quiet_moments_compose.Goals as goal

pub returns-clause-none : goal.returns-clause-none
returns-clause-none c = quiet_same

pub returns-clause-two : goal.returns-clause-two
returns-clause-two c = quiet_on
