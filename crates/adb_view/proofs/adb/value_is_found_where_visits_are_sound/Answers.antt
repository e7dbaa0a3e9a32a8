use Rattle.adb_view.proofs.Found.{plain_of-found, plains_of-found}
use Rattle.adb_view.proofs.adb.value_is_found_where_visits_are_sound.Goals as goal

pub returns : goal.returns
returns c = record { word = plain_of-found; fields = plains_of-found }
