use Rattle.std.proofs.Common.{refl}
use Rattle.hint_core.specs.Hints.{subject_of}
use Rattle.hint_core.proofs.So.{cause_so, subject_so}
use Rattle.hint_core.proofs.laws.hints_are_so.Goals as goal

pub returns-clause-subject : goal.returns-clause-subject
returns-clause-subject c = λ words refusal found. subject_so words refusal found (subject_of refusal) refl

pub returns-clause-cause : goal.returns-clause-cause
returns-clause-cause c = λ words refusal found. cause_so words refusal found
