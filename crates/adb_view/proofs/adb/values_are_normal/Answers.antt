use Rattle.adb_view.proofs.Normal.{plain_of_normal}
use Rattle.adb_view.proofs.adb.values_are_normal.Goals as goal

pub returns : goal.returns
returns c = plain_of_normal
