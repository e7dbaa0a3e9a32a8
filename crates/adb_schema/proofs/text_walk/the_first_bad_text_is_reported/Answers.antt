use Rattle.adb_schema.specs.Texts.{leaves_of}
use Rattle.adb_schema.proofs.FirstBad.{tells_first_bad}
use Rattle.adb_schema.proofs.text_walk.the_first_bad_text_is_reported.Goals as goal

pub returns : goal.returns
returns c = λ which value. tells_first_bad (leaves_of which value)
