use Rattle.adb_view.proofs.ShapeWalk.{reported}
use Rattle.adb_view.proofs.walk.the_first_faulty_visit_is_reported.Goals as goal

pub returns : goal.returns
returns c = reported
