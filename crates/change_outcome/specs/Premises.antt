-- What laws require of a change and of its inputs. The premises are listed in the README of this crate;
-- that a database has no reserved name is a rule of `docs/formats.md`, "Tests of a container", "The
-- texts", field 401.
use Rattle.std.specs.Prelude.{◌≡◌, All, false, None}
use Rattle.db_core.specs.adb_schema.Reserved.{is_reserved}
use Rattle.base_core.specs.Files.{Files}
use Rattle.package_changes.specs.own_core.FileChange.{FileChange, old_listings}
use Rattle.package_changes.specs.own_core.PlanLists.{first_reserved_added_path_in_byte_order}
use Rattle.change_inputs.specs.Inputs.{Root}
use Rattle.change_inputs.specs.World.{found_text_or_empty}
use Rattle.root_names.specs.RootNames.{database_name, world_name}

-- no package before the change and no added package lists a reserved path (`docs/formats.md`, "The texts")
pub record OldAndAddedPackagesListNoReservedPath (change : FileChange) : Type 0 where
  -- no package before lists a reserved path
  pub before : All (λ l. is_reserved l.path ≡ false) (old_listings change)
  -- no added package lists a reserved path
  pub coming : first_reserved_added_path_in_byte_order change.members ≡ None

-- the database and world were read from these files
pub record AreDatabaseAndWorldReadFromFiles (files : Files) (root : Root) : Type 0 where
  -- the bytes of the database are those of its file
  pub database : root.database.file ≡ files database_name
  -- the text of world is that of its file, and empty if there is no file
  pub world : root.world_text ≡ found_text_or_empty (files world_name)
