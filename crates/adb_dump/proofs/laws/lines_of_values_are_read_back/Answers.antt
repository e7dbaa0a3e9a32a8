use Rattle.adb_dump.proofs.ValueLaws.{read_back}
use Rattle.adb_dump.proofs.laws.lines_of_values_are_read_back.Goals as goal

pub returns : goal.returns
returns c = read_back
