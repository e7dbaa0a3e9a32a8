use Rattle.adb_view.proofs.ShapeWalk.{none_reported}
use Rattle.adb_view.proofs.walk.values_of_few_visits_have_no_fault.Goals as goal

pub returns : goal.returns
returns c = none_reported c.value_is_found_where_visits_are_sound.ensures.word
