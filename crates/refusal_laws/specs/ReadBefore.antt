-- What was read without a refusal before a later input is refused. The order is that of reasons 2 to 5 in
-- `docs/commands.md`, "`add` and `del`", part "What is refused".
use Rattle.std.specs.Prelude.{◌≡◌, ◌<◌, ℕ, true, List, None, Ok}
use Rattle.base_core.specs.declared.cause.Cause.{Cause}
use Rattle.outcome.specs.change_inputs.Database.{Database}
use Rattle.outcome.specs.change_inputs.Inputs.{database_for, world_read_number}
use Rattle.outcome.specs.change_inputs.World.{root_world, found_text_or_empty}
use Rattle.command_core.specs.Command.{CommandLine}
use Rattle.dep_core.specs.Dependency.{Dependency}
use Rattle.dep_core.specs.Repositories.{Repository, repositories_of}
use Rattle.outcome.specs.make_info.Reads.{Reads}
use Rattle.report_core.specs.declared.refusal.Refusal.{Refusal}
use Rattle.report_core.specs.declared.refusal.Refusal.TheVariants.{IndexBad, IndexMissing, RepositoriesBad, Untrusted, WorldBad}
use Rattle.root_names.specs.RootNames.{world_name}
use Rattle.refusal_laws.specs.InputFaults.{IsIndexBad, IsIndexRead, repositories_file_text}

-- the database was read without a refusal: it passes its tests, or there is none and `--initdb` allows to begin one
abbrev pub HasDatabase : CommandLine → Reads → Type 0
HasDatabase command read = (database : Database) × (database_for command read ≡ Ok database)

-- the file of world was read without a refusal: no line of it is bad
abbrev pub HasWorld : Reads → Type 0
HasWorld read =
    (world : List Dependency)
    × (root_world (found_text_or_empty (read world_read_number world_name)) ≡ Ok world)

-- the list of repositories was read without a refusal: no line of it is bad
abbrev pub HasRepositories : Reads → Type 0
HasRepositories read =
    (repositories : List Repository) × (repositories_of (repositories_file_text read) ≡ Ok repositories)

-- the database and world were read without a refusal
abbrev pub HasDatabaseAndWorld : CommandLine → Reads → Type 0
HasDatabaseAndWorld command read = HasDatabase command read × HasWorld read

-- the database, world and the list of repositories were read without a refusal, and
-- `--allow-untrusted` is given
abbrev pub AllowsUntrusted : CommandLine → Reads → Type 0
AllowsUntrusted command read =
    HasDatabaseAndWorld command read × HasRepositories read × (command.flags.allow_untrusted ≡ true)

-- the index of each repository with a smaller number than `number` is found
abbrev pub HasIndexesBefore : Reads → ℕ → Type 0
HasIndexesBefore read number =
    (earlier : ℕ) → earlier < number → IsIndexRead read earlier None → ⊥

-- the index of each repository is found
abbrev pub HasIndexes : Reads → Type 0
HasIndexes read = (number : ℕ) → IsIndexRead read number None → ⊥

-- the index of each repository with a smaller number than `number` passes all tests
abbrev pub AreEarlierIndexesSound : Reads → ℕ → Type 0
AreEarlierIndexesSound read number =
    (earlier : ℕ) (cause : Cause) → earlier < number → IsIndexBad read earlier cause → ⊥

-- What was read without a refusal before this refusal of an input. The order is: the database, world, the list of
-- repositories, which `--allow-untrusted` must allow, and last their indexes. All indexes are looked up, in the order
-- of their numbers, before the first of them is tested.
abbrev pub HasPassedTestsBeforeInputRefusal : CommandLine → Reads → Refusal → Type 0
HasPassedTestsBeforeInputRefusal command read (WorldBad line) = HasDatabase command read
HasPassedTestsBeforeInputRefusal command read (RepositoriesBad line) = HasDatabaseAndWorld command read
HasPassedTestsBeforeInputRefusal command read Untrusted = HasDatabaseAndWorld command read
HasPassedTestsBeforeInputRefusal command read (IndexMissing number) =
    AllowsUntrusted command read × HasIndexesBefore read number
HasPassedTestsBeforeInputRefusal command read (IndexBad number cause) =
    AllowsUntrusted command read × HasIndexes read × AreEarlierIndexesSound read number
HasPassedTestsBeforeInputRefusal command read other = Unit {0}
