use Rattle.command_core.specs.declared.values.TheConstants.{FILES}
use Rattle.make_core.proofs.MadeParts.{first_value_is}
use Rattle.make_core.proofs.packages.reading.first_folder.Goals as goal

pub returns : goal.returns
returns c = first_value_is FILES c.args.values.now c.first.result c.first.ensures
