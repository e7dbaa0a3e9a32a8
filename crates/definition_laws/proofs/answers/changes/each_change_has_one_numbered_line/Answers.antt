use Rattle.definition_laws.proofs.answers.Numbered.{numbered}
use Rattle.definition_laws.proofs.answers.changes.each_change_has_one_numbered_line.Goals as goal

pub returns : goal.returns
returns c = numbered
