-- Why a change is refused for what it reads of a root: reasons 2 to 6 of `docs/commands.md`, "`add` and `del`", part
-- "What is refused"; and a text database that is too large for a container. The texts of the refusals are in "Error
-- lines" there. `read n name` is the result of the read with the number `n` of the file `name`.
use Rattle.std.specs.Prelude.{◌≡◌, ◌⊎◌, ◌+◌, ◌<◌, ℕ, suc, false, List, ◌∷◌, length, Option, Some, None, Ok, Err, slice_get}
use Rattle.outcome.specs.adb_schema.Soundness.{container_fault_except_contents}
use Rattle.adb_view.specs.declared.tables.Which.TheVariants.{Idb, Index}
use Rattle.base_core.specs.declared.cause.Cause.{Cause}
use Rattle.outcome.specs.change_inputs.Candidates.{candidates_of}
use Rattle.outcome.specs.change_inputs.Inputs.{Inputs, database_read_number, first_index_read_number, repositories_read_number, text_database_read_number, world_read_number}
use Rattle.outcome.specs.change_inputs.World.{found_text_or_empty}
use Rattle.command_core.specs.Command.{CommandLine}
use Rattle.dep_core.specs.Repositories.{Repository, repositories_of}
use Rattle.dep_core.specs.World.{world_of}
use Rattle.outcome.specs.make_info.Reads.{Reads}
use Rattle.outcome.specs.candidate_core.declared.candidate_list.TheConstants.{MOST_CANDIDATES}
use Rattle.report_core.specs.declared.refusal.Refusal.{Refusal}
use Rattle.report_core.specs.declared.refusal.Refusal.TheVariants.{DatabaseBad, IndexBad, IndexMissing, NoDatabase, RepositoriesBad, ResultTooLarge, Untrusted, WorldBad}
use Rattle.root_names.specs.RootNames.{database_name, repositories_name, text_database_name, world_name}
use Rattle.outcome.specs.v2_core.Payload.{payload_of_text}
use Rattle.outcome.specs.v2_core.declared.read.V2Fault.{V2Fault}
use Rattle.outcome.specs.v2_core.declared.read.V2Fault.TheVariants.{Bad, TooLarge}

-- ---- the database

-- neither file of a database is found, and `--initdb`, by which the command may begin one, is not given
pub record IsDatabaseAbsentAndInitdbNotGiven (command : CommandLine) (read : Reads) : Type 0 where
  -- no database file is found
  pub container : read database_read_number database_name ≡ None
  -- no text database is found
  pub text : read text_database_read_number text_database_name ≡ None
  -- `--initdb` is not given
  pub not_begun : command.flags.initdb ≡ false

-- the database file, a container, is found, and this is the first test that it fails
pub record IsDatabaseContainerBad (read : Reads) (cause : Cause) : Type 0 where
  -- the bytes of the database file
  pub file : List ℕ
  pub is_file : read database_read_number database_name ≡ Some file
  -- the first test of a database container that the file fails
  pub fault : container_fault_except_contents Idb file ≡ Some cause

-- no database file, a container, is found, and the text database has this fault
pub record IsTextDatabaseRefused (read : Reads) (fault : V2Fault) : Type 0 where
  -- no database file is found
  pub container : read database_read_number database_name ≡ None
  -- the bytes of the text database
  pub text : List ℕ
  pub is_text : read text_database_read_number text_database_name ≡ Some text
  -- the fault for which the text database cannot be taken over
  pub refused : payload_of_text text ≡ Err fault

-- ---- repositories

-- the text of the list of repositories as it is read: empty if the file is absent
abbrev pub repositories_file_text : Reads → List ℕ
repositories_file_text read = found_text_or_empty (read repositories_read_number repositories_name)

-- the list of repositories names at least one, and `--allow-untrusted` is not given
pub record IsUntrustedRepositoryListed (command : CommandLine) (read : Reads) : Type 0 where
  -- `--allow-untrusted` is not given
  pub no_leave : command.flags.allow_untrusted ≡ false
  -- the first repository of the list, and those after it
  pub repository : Repository
  pub others : List Repository
  pub listed : repositories_of (repositories_file_text read) ≡ Ok (repository ∷ others)

-- the list has a repository with this number, counted from 1, and `file` is what the read of its index finds
pub record IsIndexRead (read : Reads) (number : ℕ) (file : Option (List ℕ)) : Type 0 where
  -- the repositories in the order of the list
  pub repositories : List Repository
  pub listed : repositories_of (repositories_file_text read) ≡ Ok repositories
  -- the number of the repository in the list, counted from 0
  pub place : ℕ
  pub is_number : number ≡ suc place
  -- the repository
  pub repository : Repository
  pub is_repository : slice_get repositories place ≡ Some repository
  -- the read of the repository's index finds this file, or none
  pub is_file : read (first_index_read_number + place) repository.path ≡ file

-- the index of the repository with this number is found, and this is the first test that it fails
pub record IsIndexBad (read : Reads) (number : ℕ) (cause : Cause) : Type 0 where
  -- the bytes of the index
  pub file : List ℕ
  pub is_read : IsIndexRead read number (Some file)
  -- the first test of an index that these bytes fail
  pub fault : container_fault_except_contents Index file ≡ Some cause

-- ---- each refusal

-- a refusal of what the command reads of the root is true
abbrev pub IsFaultOfInput : CommandLine → Reads → Refusal → Type 0
IsFaultOfInput command read NoDatabase = IsDatabaseAbsentAndInitdbNotGiven command read
IsFaultOfInput command read (DatabaseBad cause) =
    IsDatabaseContainerBad read cause ⊎ IsTextDatabaseRefused read (Bad cause)
-- a text database with more data than a container may have
IsFaultOfInput command read (ResultTooLarge bytes values) =
    IsTextDatabaseRefused read (TooLarge bytes values)
IsFaultOfInput command read (WorldBad line) =
    world_of (found_text_or_empty (read world_read_number world_name)) ≡ Err line
IsFaultOfInput command read (RepositoriesBad line) =
    repositories_of (repositories_file_text read) ≡ Err line
IsFaultOfInput command read Untrusted = IsUntrustedRepositoryListed command read
IsFaultOfInput command read (IndexMissing number) = IsIndexRead read number None
IsFaultOfInput command read (IndexBad number cause) = IsIndexBad read number cause
IsFaultOfInput command read other = ⊥

-- ---- too many

-- there are more candidates than the limit, and `count`, which the refusal reports, is the limit and 1
pub record AreTooManyAndCountIsLimitPlusOne (inputs : Inputs) (count : ℕ) : Type 0 where
  -- there are more candidates than the limit
  pub more : MOST_CANDIDATES < length (candidates_of inputs)
  -- the refusal reports the limit and 1, not the number of candidates
  pub told : count ≡ MOST_CANDIDATES + 1
