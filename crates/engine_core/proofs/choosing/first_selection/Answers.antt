use Rattle.std.proofs.Common.{sym, ◌∙◌, Ok}
use Rattle.engine_core.proofs.choosing.first_selection.Goals as goal

pub solve-requires : goal.solve-requires
solve-requires c = c.new_world.ensures ∙ sym c.requires

pub returns-in-Err : goal.returns-in-Err
returns-in-Err c = let (chosen, choice) = c.a_choice_exists.ensures (Ok c.args.pool.now) in (chosen, choice, tt)
