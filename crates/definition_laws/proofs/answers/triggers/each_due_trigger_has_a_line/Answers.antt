use Rattle.definition_laws.proofs.answers.DueLines.{trigger_lines_are}
use Rattle.definition_laws.proofs.answers.triggers.each_due_trigger_has_a_line.Goals as goal

pub returns : goal.returns
returns c = trigger_lines_are
