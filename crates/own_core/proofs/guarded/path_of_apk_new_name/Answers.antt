use Rattle.std.proofs.Common.{sym}
use Rattle.own_core.proofs.Endings.{no_ending, some_ending}
use Rattle.own_core.proofs.guarded.path_of_apk_new_name.Goals as goal

pub returns-in-Some : goal.returns-in-Some
returns-in-Some c = some_ending c.args.path.now.folder.now c.args.path.now.name.now _ c.in-Some.ensures.cases.0 c.in-Some.ensures.cases.1

pub returns-in-None : goal.returns-in-None
returns-in-None c = sym (no_ending c.args.path.now.folder.now c.args.path.now.name.now c.in-None.ensures.cases)
