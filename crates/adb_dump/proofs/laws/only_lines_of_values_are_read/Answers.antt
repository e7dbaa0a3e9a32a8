use Rattle.adb_dump.proofs.ValueLaws.{only_values}
use Rattle.adb_dump.proofs.laws.only_lines_of_values_are_read.Goals as goal

pub returns : goal.returns
returns c = only_values
