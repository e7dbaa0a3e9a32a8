use Rattle.db_core.proofs.adb_schema.Sound.{sound_payload}
use Rattle.change_inputs.proofs.root.test_file.Goals as goal

pub returns-clause-sound : goal.returns-clause-sound
returns-clause-sound c = sound_payload c.args.which c.args.file.now c.in_ok-read_adb.ensures.sound
