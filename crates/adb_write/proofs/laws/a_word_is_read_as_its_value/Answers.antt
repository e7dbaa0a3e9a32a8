use Rattle.adb_write.proofs.AnyOrder.{word_read}
use Rattle.adb_write.proofs.laws.a_word_is_read_as_its_value.Goals as goal

pub returns : goal.returns
returns c = word_read
