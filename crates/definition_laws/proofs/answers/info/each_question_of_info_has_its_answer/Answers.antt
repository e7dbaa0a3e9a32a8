use Rattle.definition_laws.proofs.answers.Sections.{contents, depends, description, listed_paths, owner}
use Rattle.definition_laws.proofs.answers.info.each_question_of_info_has_its_answer.Goals as goal

pub returns : goal.returns
returns c = record { contents = contents; listed = listed_paths; depends = depends; description = description; owner = owner }
