use Rattle.adb_write.proofs.DepthFirst.{writes_null, writes_int, writes_blob, writes_arr, writes_obj, writes_none, writes_more, writes_push}
use Rattle.adb_write.proofs.laws.values_are_written_depth_first.Goals as goal

pub returns : goal.returns
returns c = record { null = writes_null; int = writes_int; blob = writes_blob; arr = writes_arr; obj = writes_obj; none = writes_none; more = writes_more; push = writes_push }
