use Rattle.definition_laws.proofs.answers.RecordFields.{letters_tell}
use Rattle.definition_laws.proofs.answers.letters.each_letter_gives_its_field.Goals as goal

pub returns : goal.returns
returns c = letters_tell c.read_texts_are_spelled.ensures c.spelled_texts_are_read.ensures
