use Rattle.adb_view.specs.Shapes.{object_shape}
use Rattle.adb_view.proofs.tables.tables_are_unrolled_whole.Goals as goal

pub returns : goal.returns
returns c = object_shape
