use Rattle.adb_write.proofs.AnyOrder.{null_stands, int_stands, blob_stands, arr_stands, obj_stands}
use Rattle.adb_write.proofs.laws.an_answer_denotes_its_value.Goals as goal

pub returns : goal.returns
returns c = record { null = null_stands; int = int_stands; blob = blob_stands; arr = arr_stands; obj = obj_stands }
