use Rattle.definition_laws.proofs.answers.DroppedLines.{no_info, no_scripts, no_size}
use Rattle.definition_laws.proofs.answers.letters.what_no_letter_gives_is_null.Goals as goal

pub returns : goal.returns
returns c = record { scripts = no_scripts; info = no_info; file = no_size }
