use Rattle.std.proofs.Common.{refl}
use Rattle.base_core.specs.Read.{bytes_in}
use Rattle.base_core.proofs.ReadAfter.{both_readings, reading_off, second_reading_failed}
use Rattle.root_names.specs.RootNames.{repositories_name, world_name}
use Rattle.change_inputs.proofs.Reading.{named_found}
use Rattle.change_inputs.proofs.root.read_lists.Goals as goal

pub returns-in_err-world-clause-tree : goal.returns-in_err-world-clause-tree
returns-in_err-world-clause-tree g c = reading_off _ _ _ _ _ _ c.from_residual.result c.from_residual.ensures.1 c.in_err-world.ensures.tree

pub returns-in_err-repositories-clause-tree : goal.returns-in_err-repositories-clause-tree
returns-in_err-repositories-clause-tree g c =
    second_reading_failed _ _ _ _ _ _ _ _ _ c.from_residual-in_err-repositories.result c.from_residual-in_err-repositories.ensures.1 c.in_ok-world.ensures.tree c.in_err-repositories.ensures.tree

pub returns-clause-world : goal.returns-clause-world
returns-clause-world g c =
    let old = g.T.Tree.history c.args.tree.now in
    named_found old old c.world_name.result world_name (bytes_in c.in_ok-world.world) refl c.world_name.ensures c.in_ok-world.ensures.found

pub returns-clause-repositories : goal.returns-clause-repositories
returns-clause-repositories g c =
    named_found (g.T.Tree.history c.args.tree.now) (g.T.Tree.history c.read_named_file.new.tree) c.repositories_name.result repositories_name (bytes_in c.in_ok-repositories.repositories) c.in_ok-world.ensures.tree.same c.repositories_name.ensures c.in_ok-repositories.ensures.found

pub returns-clause-tree : goal.returns-clause-tree
returns-clause-tree g c = both_readings _ _ _ _ _ _ _ _ _ _ c.in_ok-world.ensures.tree c.in_ok-repositories.ensures.tree
