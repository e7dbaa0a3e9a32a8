-- The files of a root as they were read. Serves the contract of `read_root` in `src/root.rt`.
use Rattle.std.specs.Prelude.{◌≡◌, List, None}
use Rattle.base_core.specs.Read.{bytes_in}
use Rattle.base_core.specs.Tree.{TreeState}
use Rattle.root_names.specs.RootNames.{database_name, repositories_name, text_database_name, world_name}
use Rattle.change_inputs.specs.Answers.{IsFileFoundInTree}
use Rattle.change_inputs.specs.declared.root.RootFiles.{RootFiles}

-- on an observable tree, the files of a root are those of the tree under their names; the text database is read only if
-- there is no database file
pub record AreRootFilesInTree (history : List TreeState) (files : RootFiles) : Type 0 where
  -- the database is the file under its name in the tree, or absent there
  pub database : IsFileFoundInTree history database_name (bytes_in files.database)
  -- without a database, the text database is the file under its name
  pub text_database : bytes_in files.database ≡ None
      → IsFileFoundInTree history text_database_name (bytes_in files.text_database)
  -- the same for world and for the list of repositories
  pub world : IsFileFoundInTree history world_name (bytes_in files.world)
  -- the list of repositories is the file under its name
  pub repositories : IsFileFoundInTree history repositories_name (bytes_in files.repositories)
