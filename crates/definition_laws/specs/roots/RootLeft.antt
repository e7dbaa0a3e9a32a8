-- The root that a change leaves, as a later command reads it. The rules are in `docs/formats.md`, "The
-- database after a change" and "World".
use Rattle.std.specs.Prelude.{◌≡◌, ℕ, ◌<◌, false, List, All, Option, Some, Ok}
use Rattle.make_core.specs.adb_fields.Repeated.{list_of}
use Rattle.base_core.specs.Files.{Files}
use Rattle.engine_core.specs.change_inputs.Database.{Database, database_of_packages_file_and_is_text}
use Rattle.engine_core.specs.change_inputs.Inputs.{database_for, database_read_number, world_read_number}
use Rattle.engine_core.specs.change_inputs.World.{root_world, found_text_or_empty}
use Rattle.engine_core.specs.change_outcome.ChangeOutcome.{ChangeDone, members_after_change}
use Rattle.engine_core.specs.change_outcome.MembersAfter.{MemberFound, found_members}
use Rattle.command_core.specs.Command.{CommandLine}
use Rattle.engine_core.specs.db_core.Members.{Member}
use Rattle.engine_core.specs.db_core.NewDatabase.{packages_in_new_database}
use Rattle.dep_core.specs.World.{world_text}
use Rattle.engine_core.specs.Changed.{InputsAndReplacement, selected_from_reads_by_choice}
use Rattle.engine_core.specs.Wishes.{wishes_of}
use Rattle.engine_core.specs.file_owners.Owners.{owned_flags_of}
use Rattle.make_core.specs.make_info.Reads.{Reads}
use Rattle.root_names.specs.RootNames.{database_name, world_name}

-- each file that the reads find consists of bytes, that is, numbers below 256
abbrev pub AreAllReadFilesBytes : Reads → Type 0
AreAllReadFilesBytes read =
    (n : ℕ) (name bytes : List ℕ) → read n name ≡ Some bytes → All (λ b. b < 256) bytes

-- the reads of the database and of world find those among these files
pub record ReadsDatabaseAndWorldOfFiles (files : Files) (read : Reads) : Type 0 where
  -- the read of the database finds what the files have under the database's name
  pub database : read database_read_number database_name ≡ files database_name
  -- the read of world finds what the files have under world's name
  pub world : read world_read_number world_name ≡ files world_name

-- the database, as a command reads it, of the members of a change, each with the files that it owns; `bytes` are those
-- of its container
abbrev pub database_of_members : List Member → List ℕ → Database
database_of_members members bytes =
    database_of_packages_file_and_is_text
    (list_of (packages_in_new_database members (owned_flags_of members)))
    (Some bytes) false

-- A change of this command, which is done with the result `done`, leaves a root in which each later command finds a
-- database with the packages after the change, and the change's new world.
pub record LaterCommandsFindMembersAndNewWorld (command : CommandLine) (read : Reads)
    (chosen : Option (List ℕ))
    (done : ChangeDone) : Type 0 where
  -- the inputs of the change, and its replacement: the packages before, and the selected ones
  pub selected : InputsAndReplacement
  -- these are what the command reads and selects
  pub is_selected : selected_from_reads_by_choice command read chosen ≡ Ok selected
  -- the packages after the change, and for each added one its file and the contents of its files
  pub found : List MemberFound
  -- these are the members of this replacement
  pub members : members_after_change selected.inputs selected.replacement (wishes_of command) read
      ≡ Ok found
  -- the bytes of the new database
  pub bytes : List ℕ
  -- a later command that reads the files after the change finds a database of the packages after the change
  pub database : (later : CommandLine) (next : Reads) → ReadsDatabaseAndWorldOfFiles done.files next
      → database_for later next ≡ Ok (database_of_members (found_members found) bytes)
  -- a later command that reads these files finds the new world of the change
  pub world : (next : Reads) → ReadsDatabaseAndWorldOfFiles done.files next
      → root_world (found_text_or_empty (next world_read_number world_name))
      ≡ Ok selected.inputs.root.new_world
  -- the text of the file of world is that of this new world
  pub text : (next : Reads) → ReadsDatabaseAndWorldOfFiles done.files next
      → found_text_or_empty (next world_read_number world_name) ≡ world_text selected.inputs.root.new_world
