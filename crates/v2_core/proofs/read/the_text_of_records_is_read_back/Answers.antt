use Rattle.v2_core.proofs.Spelled.{one_reading, text_read_back}
use Rattle.v2_core.proofs.read.the_text_of_records_is_read_back.Goals as goal

pub returns-clause-back : goal.returns-clause-back
returns-clause-back c text records spelled = text_read_back text records spelled

pub returns-clause-one : goal.returns-clause-one
returns-clause-one c text records others a b = one_reading text records others a b
