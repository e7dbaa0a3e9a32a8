use Rattle.make_core.proofs.MadePackage.{run_err, run_found, run_found_err, run_ok, run_sound}
use Rattle.make_core.proofs.commands.mkpkg.Goals as goal

pub returns-clause-ok : goal.returns-clause-ok
returns-clause-ok g c = run_ok _ c.args.command.now c.make.result c.make.ensures.made

pub returns-clause-err : goal.returns-clause-err
returns-clause-err g c = run_err _ c.args.command.now c.make.result c.make.ensures.made

pub returns-clause-found : goal.returns-clause-found
returns-clause-found g c = run_found _ c.args.command.now c.make.result c.make.ensures.made

pub returns-clause-found_err : goal.returns-clause-found_err
returns-clause-found_err g c = run_found_err _ c.args.command.now c.make.result c.make.ensures.made

pub returns-clause-sound : goal.returns-clause-sound
returns-clause-sound g c = run_sound c.a_made_package_is_sound.ensures _ c.args.command.now c.make.result c.make.ensures.made
