use Rattle.db_core.proofs.KeptParts.{priority_after, scripts_after, triggers_after}
use Rattle.db_core.proofs.laws.a_package_keeps_its_scripts_and_its_priority.Goals as goal

pub returns-clause-scripts : goal.returns-clause-scripts
returns-clause-scripts c = scripts_after

pub returns-clause-triggers : goal.returns-clause-triggers
returns-clause-triggers c = triggers_after

pub returns-clause-priority : goal.returns-clause-priority
returns-clause-priority c = priority_after
