use Rattle.definition_laws.proofs.roots.NextInputs.{begins, refused}
use Rattle.definition_laws.proofs.roots.a_command_begins_with_what_the_last_change_left.Goals as goal

pub returns-clause-inputs : goal.returns-clause-inputs
returns-clause-inputs c = λ command later read next chosen done inputs left. begins command later read next chosen done left inputs

pub returns-clause-refused : goal.returns-clause-refused
returns-clause-refused c = λ command later read next chosen done refusal left. refused command later read next chosen done left refusal
