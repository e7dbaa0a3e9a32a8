use Rattle.adb_dump.proofs.ValueLaws.{one_text_one_value}
use Rattle.adb_dump.proofs.laws.values_of_one_text_are_equal.Goals as goal

pub returns : goal.returns
returns c = one_text_one_value
