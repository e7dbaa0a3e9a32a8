use Rattle.std.proofs.Common.{refl, subst}
use Rattle.base_core.specs.Read.{bytes_in}
use Rattle.base_core.proofs.ReadAfter.{both_readings, reading_as, reading_off, second_reading_failed}
use Rattle.root_names.specs.RootNames.{database_name, text_database_name}
use Rattle.change_inputs.proofs.Reading.{named_found}
use Rattle.change_inputs.specs.Answers.{IsFileFoundInTree}
use Rattle.change_inputs.proofs.root.read_databases.Goals as goal

pub returns-in_err-database-clause-tree : goal.returns-in_err-database-clause-tree
returns-in_err-database-clause-tree g c = reading_off _ _ _ _ _ _ c.from_residual.result c.from_residual.ensures.1 c.in_err-database.ensures.tree

pub returns-in-Some-clause-database : goal.returns-in-Some-clause-database
returns-in-Some-clause-database g c =
    let old = g.T.Tree.history c.args.tree.now in
    subst (λ found. IsFileFoundInTree old database_name (bytes_in found)) c.in-Some.is
    (named_found old old c.database_name.result database_name (bytes_in c.in_ok-database.database) refl c.database_name.ensures c.in_ok-database.ensures.found)

pub returns-in-Some-clause-tree : goal.returns-in-Some-clause-tree
returns-in-Some-clause-tree g c = reading_as _ _ _ _ _ _ _ c.in_ok-database.ensures.tree

pub returns-in_err-text-in-None-clause-tree : goal.returns-in_err-text-in-None-clause-tree
returns-in_err-text-in-None-clause-tree g c =
    second_reading_failed _ _ _ _ _ _ _ _ _ c.from_residual-in_err-text-in-None.result c.from_residual-in_err-text-in-None.ensures.1 c.in_ok-database.ensures.tree c.in_err-text-in-None.ensures.tree

pub returns-in_ok-text-in-None-clause-database : goal.returns-in_ok-text-in-None-clause-database
returns-in_ok-text-in-None-clause-database g c =
    let old = g.T.Tree.history c.args.tree.now in
    subst (λ found. IsFileFoundInTree old database_name (bytes_in found)) c.in-None.is
    (named_found old old c.database_name.result database_name (bytes_in c.in_ok-database.database) refl c.database_name.ensures c.in_ok-database.ensures.found)

pub returns-in_ok-text-in-None-clause-text_database : goal.returns-in_ok-text-in-None-clause-text_database
returns-in_ok-text-in-None-clause-text_database g c = λ none.
    named_found (g.T.Tree.history c.args.tree.now) (g.T.Tree.history c.read_named_file.new.tree) c.text_database_name.result text_database_name (bytes_in c.in_ok-text-in-None.text) c.in_ok-database.ensures.tree.same c.text_database_name.ensures c.in_ok-text-in-None.ensures.found

pub returns-in_ok-text-in-None-clause-tree : goal.returns-in_ok-text-in-None-clause-tree
returns-in_ok-text-in-None-clause-tree g c = both_readings _ _ _ _ _ _ _ _ _ _ c.in_ok-database.ensures.tree c.in_ok-text-in-None.ensures.tree
