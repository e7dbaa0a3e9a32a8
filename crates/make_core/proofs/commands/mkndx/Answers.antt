use Rattle.make_core.proofs.MadeIndex.{index_sound}
use Rattle.make_core.proofs.commands.mkndx.Goals as goal

pub returns-clause-sound : goal.returns-clause-sound
returns-clause-sound g c = index_sound c.a_made_index_is_sound.ensures c.args.command.now c.make.result c.make.ensures.found
