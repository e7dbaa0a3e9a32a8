use Rattle.journal_intent.proofs.Digits.{stage_is_name}
use Rattle.journal_intent.proofs.StageNames.{stage_names_apart, stage_name_staged, stage_name_no_intent}
use Rattle.journal_intent.proofs.names.each_staged_file_has_its_own_name.Goals as goal

pub returns-clause-apart : goal.returns-clause-apart
returns-clause-apart c = stage_names_apart

pub returns-clause-staged : goal.returns-clause-staged
returns-clause-staged c = stage_name_staged

pub returns-clause-no_intent : goal.returns-clause-no_intent
returns-clause-no_intent c = stage_name_no_intent

pub returns-clause-named : goal.returns-clause-named
returns-clause-named c = stage_is_name
