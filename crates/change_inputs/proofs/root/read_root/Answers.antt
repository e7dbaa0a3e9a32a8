use Rattle.std.proofs.Common.{List, subst}
use Rattle.base_core.specs.Read.{bytes_in}
use Rattle.base_core.specs.Tree.{TreeState}
use Rattle.base_core.proofs.ReadAfter.{both_readings, reading_off, second_reading_failed}
use Rattle.root_names.specs.RootNames.{repositories_name, world_name}
use Rattle.change_inputs.specs.Answers.{IsFileFoundInTree}
use Rattle.change_inputs.proofs.root.read_root.Goals as goal

pub returns-in_err-databases-clause-tree : goal.returns-in_err-databases-clause-tree
returns-in_err-databases-clause-tree g c = reading_off _ _ _ _ _ _ c.from_residual.result c.from_residual.ensures.1 c.in_err-databases.ensures.tree

pub returns-in_err-lists-clause-tree : goal.returns-in_err-lists-clause-tree
returns-in_err-lists-clause-tree g c =
    second_reading_failed _ _ _ _ _ _ _ _ _ c.from_residual-in_err-lists.result c.from_residual-in_err-lists.ensures.1 c.in_ok-databases.ensures.tree c.in_err-lists.ensures.tree

pub returns-clause-found : goal.returns-clause-found
returns-clause-found g c =
    let same = c.in_ok-databases.ensures.tree.same in
    let lists = c.in_ok-lists.lists in record {
      database = c.in_ok-databases.ensures.database;
      text_database = c.in_ok-databases.ensures.text_database;
      world = subst (λ (history : List TreeState). IsFileFoundInTree history world_name (bytes_in lists.0)) same c.in_ok-lists.ensures.world;
      repositories = subst (λ (history : List TreeState). IsFileFoundInTree history repositories_name (bytes_in lists.1)) same c.in_ok-lists.ensures.repositories;
    }

pub returns-clause-tree : goal.returns-clause-tree
returns-clause-tree g c = both_readings _ _ _ _ _ _ _ _ _ _ c.in_ok-databases.ensures.tree c.in_ok-lists.ensures.tree
