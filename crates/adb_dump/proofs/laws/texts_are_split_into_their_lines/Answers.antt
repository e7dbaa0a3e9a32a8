use Rattle.adb_dump.proofs.TextLines.{dump_text_of_lines-lines}
use Rattle.adb_dump.proofs.ValueLaws.{text_split}
use Rattle.adb_dump.proofs.laws.texts_are_split_into_their_lines.Goals as goal

pub returns : goal.returns
returns c = record { split = text_split; joined = dump_text_of_lines-lines }
