use Rattle.definition_laws.proofs.answers.ScriptTexts.{first_taken, none_taken}
use Rattle.definition_laws.proofs.answers.scripts.the_first_script_that_has_text_is_taken.Goals as goal

pub returns : goal.returns
returns c = record { first = first_taken; none = none_taken }
