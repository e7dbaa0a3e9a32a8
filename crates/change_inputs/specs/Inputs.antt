-- What a change reads of a root, in the order of the tests: the database, world, the repositories, and their indexes.
-- The rules are in `docs/commands.md`, "`add` and `del`", parts "What is read" and "What is refused".
use Rattle.std.specs.Prelude.{ℕ, suc, List, [], ◌∷◌, Option, Result, Ok}
use Rattle.adb_view.specs.Plain.{Plain}
use Rattle.command_core.specs.Command.{CommandLine}
use Rattle.dep_core.specs.Dependency.{Dependency}
use Rattle.dep_core.specs.Repositories.{Repository}
use Rattle.package_files.specs.make_info.Reads.{Reads}
use Rattle.report_core.specs.declared.refusal.Refusal.{Refusal}
use Rattle.root_names.specs.RootNames.{database_name, repositories_name, text_database_name, world_name}
use Rattle.change_inputs.specs.Chains.{and_then}
use Rattle.change_inputs.specs.Database.{Database, root_database}
use Rattle.change_inputs.specs.Indexes.{root_indexes}
use Rattle.change_inputs.specs.Repositories.{root_repositories}
use Rattle.change_inputs.specs.World.{new_world, root_world, found_text_or_empty}

-- the contents of a root's files (without the indexes) for a command, and the new world that the command asks for
pub record Root : Type 0 where
  -- the packages that are installed before the command
  pub database : Database
  -- the text of the file of world before the command
  pub world_text : List ℕ
  -- world before the command
  pub world : List Dependency
  -- world with the entries that the command adds, and without those that it removes
  pub new_world : List Dependency
  -- the listed repositories, in the order of the list
  pub repositories : List Repository

-- a root with this database, this text of world's file, this world and these repositories; the new world is what the
-- command makes of world
abbrev pub root_with_new_world_of_command :
    CommandLine → Database → List ℕ → List Dependency → List Repository → Root
root_with_new_world_of_command command database text world repositories = record {
  database = database;
  world_text = text;
  world = world;
  new_world = new_world command.applet command.operands world;
  repositories = repositories;
}

-- a root, given its four files, each None if absent: the database, the text database, world and the list of
-- repositories; or the first refusal. With `--initdb`, which only `add` has, a command may begin a database
abbrev pub root_from_databases_world_repositories :
    CommandLine → Option (List ℕ) → Option (List ℕ) → Option (List ℕ) → Option (List ℕ)
    → Result Root Refusal
root_from_databases_world_repositories command file text world_file repositories_file =
    and_then (root_database command.flags.initdb file text) (λ database.
    and_then (root_world (found_text_or_empty world_file)) (λ world.
    and_then
    (root_repositories command.flags.allow_untrusted (found_text_or_empty repositories_file))
    (λ repositories.
    Ok (root_with_new_world_of_command command database
    (found_text_or_empty world_file) world repositories))))

-- all that a change reads: the contents of a root's files, and the value of each repository's index
pub record Inputs : Type 0 where
  -- the contents of the files of the root
  pub root : Root
  -- the value of the index of each repository, in the same order
  pub indexes : List Plain

-- the inputs with this root and the values of these indexes
abbrev pub inputs_from_parts : Root → List Plain → Inputs
inputs_from_parts root indexes = record { root = root; indexes = indexes }

-- ---- the numbers of the reads

-- the number of the read of the database; the reads of a run are numbered from 0
abbrev pub database_read_number : ℕ
database_read_number = 0

-- the number of the read of the text database; what this read finds does not matter if there is a database file
abbrev pub text_database_read_number : ℕ
text_database_read_number = 1

-- the number of the read of world, after both databases
abbrev pub world_read_number : ℕ
world_read_number = 2

-- the number of the read of `etc/apk/repositories`
abbrev pub repositories_read_number : ℕ
repositories_read_number = 3

-- the number of the first read of an index: there is one for each repository
abbrev pub first_index_read_number : ℕ
first_index_read_number = 4

-- the files, or None, that reads find under the paths of repositories; `n` is the number of the read of the first index
abbrev pub index_reads_from : Reads → ℕ → List Repository → List (Option (List ℕ))
index_reads_from read n [] = []
index_reads_from read n (repository ∷ repositories) =
    read n repository.path ∷ index_reads_from read (suc n) repositories

-- ---- the inputs

-- the database of a root, without its other files, given what reads find; or the refusal
abbrev pub database_for : CommandLine → Reads → Result Database Refusal
database_for command read =
    root_database command.flags.initdb (read database_read_number database_name)
    (read text_database_read_number text_database_name)

-- a root, given what reads find, with the new world of the command; or the first refusal
abbrev pub root_for : CommandLine → Reads → Result Root Refusal
root_for command read =
    root_from_databases_world_repositories command (read database_read_number database_name)
    (read text_database_read_number text_database_name) (read world_read_number world_name)
    (read repositories_read_number repositories_name)

-- the values of the indexes of these repositories, given what reads find, or the first refusal
abbrev pub indexes_of : Reads → List Repository → Result (List Plain) Refusal
indexes_of read repositories =
    root_indexes (index_reads_from read first_index_read_number repositories)

-- the inputs of a command that changes what is installed, or its first refusal
unfoldable pub inputs_of : CommandLine → Reads → Result Inputs Refusal
inputs_of command read =
    and_then (root_for command read) (λ root.
    and_then (indexes_of read root.repositories) (λ indexes. Ok (inputs_from_parts root indexes)))
