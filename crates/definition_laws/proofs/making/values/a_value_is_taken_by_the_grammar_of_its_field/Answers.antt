use Rattle.definition_laws.proofs.making.FieldValues.{says_from, says_to}
use Rattle.definition_laws.proofs.making.values.a_value_is_taken_by_the_grammar_of_its_field.Goals as goal

pub returns : goal.returns
returns c = λ f value said. (
  says_to c.read_texts_are_spelled.ensures c.spelled_texts_are_read.ensures f value said,
  says_from c.read_texts_are_spelled.ensures c.spelled_texts_are_read.ensures f value said,
)
