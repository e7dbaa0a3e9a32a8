use Rattle.tell_core.proofs.Refusing.{info_late, info_refused}
use Rattle.tell_core.proofs.info.reporting.info_refuses_only_for_an_operand.Goals as goal

pub returns-clause-refused : goal.returns-clause-refused
returns-clause-refused c = info_refused

pub returns-clause-following_refusal : goal.returns-clause-following_refusal
returns-clause-following_refusal c = info_late
