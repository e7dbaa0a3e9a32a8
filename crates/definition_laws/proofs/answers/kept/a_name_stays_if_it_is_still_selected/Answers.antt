use Rattle.definition_laws.proofs.answers.Needing.{kept_lines}
use Rattle.definition_laws.proofs.answers.kept.a_name_stays_if_it_is_still_selected.Goals as goal

pub returns : goal.returns
returns c = kept_lines
