use Rattle.definition_laws.proofs.answers.DroppedLines.{dropped_exactly}
use Rattle.definition_laws.proofs.answers.letters.a_line_is_dropped_if_its_letter_is_not_listed.Goals as goal

pub returns : goal.returns
returns c = dropped_exactly
