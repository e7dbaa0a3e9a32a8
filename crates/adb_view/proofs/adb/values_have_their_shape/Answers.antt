use Rattle.adb_view.proofs.FoundShapes.{plain_shape, plains_shape}
use Rattle.adb_view.proofs.adb.values_have_their_shape.Goals as goal

pub returns : goal.returns
returns c = record { word = plain_shape; fields = plains_shape }
