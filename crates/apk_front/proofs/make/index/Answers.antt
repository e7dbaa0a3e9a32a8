use Rattle.apk_front.proofs.Containers.{index_made, index_found}
use Rattle.apk_front.proofs.make.index.Goals as goal

pub returns-clause-made : goal.returns-clause-made
returns-clause-made g c = index_made c.args.command.now _ _ c.mkndx.ensures.made

pub returns-clause-found : goal.returns-clause-found
returns-clause-found g c = index_found c.args.command.now _ c.mkndx.ensures.found
