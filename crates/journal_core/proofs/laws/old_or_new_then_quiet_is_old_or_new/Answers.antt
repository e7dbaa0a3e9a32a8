use Rattle.journal_core.proofs.Compose.{settled_is_new, then_quiet}
use Rattle.journal_core.proofs.laws.old_or_new_then_quiet_is_old_or_new.Goals as goal

pub returns-clause-settled : goal.returns-clause-settled
returns-clause-settled c = settled_is_new

pub returns-clause-both : goal.returns-clause-both
returns-clause-both c = then_quiet
