use Rattle.definition_laws.proofs.answers.DueLines.{accepted, named}
use Rattle.definition_laws.proofs.answers.triggers.a_due_trigger_refuses_the_change.Goals as goal

pub returns : goal.returns
returns c = record { accepted = accepted; named = named }
