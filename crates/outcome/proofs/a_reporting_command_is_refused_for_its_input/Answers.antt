use Rattle.tell_core.proofs.Refusing.{info_late, info_refused}
use Rattle.outcome.proofs.Tellers.{late_stated, refused_stated}
use Rattle.outcome.proofs.a_reporting_command_is_refused_for_its_input.Goals as goal

pub returns-clause-refused : goal.returns-clause-refused
returns-clause-refused c = refused_stated info_refused info_late

pub returns-clause-following_refusal : goal.returns-clause-following_refusal
returns-clause-following_refusal c = late_stated info_refused info_late
