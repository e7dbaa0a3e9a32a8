-- The values of definitions that the values of the program denote. Serves the contracts of `Loaded` and `Installed`.
use Rattle.std.specs.Prelude.{true, false, List, [], Some, None, map}
use Rattle.db_core.specs.adb_fields.Repeated.{entries_of_field_at_index}
use Rattle.db_core.specs.adb_schema.Soundness.{payload_in, root_value_of_payload}
use Rattle.adb_view.specs.FieldIndexes.{IDB_PACKAGES_INDEX}
use Rattle.adb_view.specs.declared.tables.Which.TheVariants.{Idb}
use Rattle.adb_view.specs.Plain.{Plain}
use Rattle.change_inputs.specs.Database.{Database, database_of_packages_file_and_is_text}
use Rattle.change_inputs.specs.IndexFiles.{bytes_of_each, index_of_file}
use Rattle.change_inputs.specs.Inputs.{Inputs, Root, inputs_from_parts}
use Rattle.change_inputs.specs.declared.database.DatabaseFile.{DatabaseFile}
use Rattle.change_inputs.specs.declared.database.DatabaseFile.TheVariants.{Container, New, Payload}
use Rattle.change_inputs.specs.declared.index.IndexFiles.{IndexFiles}
use Rattle.change_inputs.specs.declared.installed.Installed.{Installed}
use Rattle.change_inputs.specs.declared.loaded.Loaded.{Loaded}
use Rattle.change_inputs.specs.declared.root.TestedRoot.{TestedRoot}

-- a database of the program, as contracts see it: its packages, its container's bytes, and whether they
-- are from a text
abbrev pub database_seen : DatabaseFile → Database
database_seen (Container own) =
    database_of_packages_file_and_is_text
    (entries_of_field_at_index IDB_PACKAGES_INDEX (root_value_of_payload Idb (payload_in own.file.items)))
    (Some own.file.items) false
database_seen (Payload own) =
    database_of_packages_file_and_is_text
    (entries_of_field_at_index IDB_PACKAGES_INDEX (root_value_of_payload Idb own.payload.items)) None true
database_seen New = database_of_packages_file_and_is_text [] None false

-- the database of an `Installed`, which was read alone, as contracts see it
abbrev pub installed_seen : Installed → Database
installed_seen installed = database_seen installed.database

-- index files, as contracts see them: their values in the order of the repositories
abbrev pub indexes_seen : IndexFiles → List Plain
indexes_seen indexes = map index_of_file (bytes_of_each indexes.files.items)

-- a root whose files passed all tests, as contracts see it
abbrev pub root_seen : TestedRoot → Root
root_seen root = record {
  database = database_seen root.database;
  world_text = root.worlds.text.items;
  world = root.worlds.before;
  new_world = root.worlds.after;
  repositories = root.repositories;
}

-- all that was loaded for a change, as contracts see it
abbrev pub inputs_seen : Loaded → Inputs
inputs_seen loaded = inputs_from_parts (root_seen loaded.root) (indexes_seen loaded.indexes)
