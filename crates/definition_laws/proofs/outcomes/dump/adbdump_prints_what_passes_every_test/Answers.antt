use Rattle.definition_laws.proofs.outcomes.Dumped.{absent_refused, sound_dumped}
use Rattle.definition_laws.proofs.outcomes.dump.adbdump_prints_what_passes_every_test.Goals as goal

pub returns : goal.returns
returns c = record { sound = sound_dumped; absent = absent_refused }
