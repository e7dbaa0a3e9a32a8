use Rattle.definition_laws.proofs.making.TakenOptions.{not_offended, taken}
use Rattle.definition_laws.proofs.making.values.an_option_offends_unless_it_is_taken.Goals as goal

pub returns : goal.returns
returns c = λ too_long before option. (
  taken c.read_texts_are_spelled.ensures c.spelled_texts_are_read.ensures too_long before option,
  not_offended c.read_texts_are_spelled.ensures c.spelled_texts_are_read.ensures too_long before option,
)
