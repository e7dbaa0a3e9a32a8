-- How a change ends.
use Rattle.std.proofs.Common.{◌≡◌, ℕ, ◌+◌, Bool, true, false, List, [], ◌∷◌, Option, Some, None, Result, Ok, Err, refl}
use Rattle.std.specs.Prelude.{if◌then◌else◌, nat_lt, length}
use Rattle.gen_core.specs.adb_schema.Soundness.{container_fault_except_contents}
use Rattle.adb_view.specs.declared.tables.Which.TheVariants.{Idb, Index}
use Rattle.base_core.specs.declared.cause.Cause.{Cause}
use Rattle.tell_core.specs.change_inputs.Candidates.{candidates_of, root_pool}
use Rattle.tell_core.specs.change_inputs.Chains.{and_then, with_error_as_refusal, unless_cause}
use Rattle.tell_core.specs.change_inputs.Database.{payload_database, root_database}
use Rattle.tell_core.specs.change_inputs.Indexes.{file_or_index_missing, index_files_from, index_in_file, indexes_in_files}
use Rattle.tell_core.specs.change_inputs.Inputs.{Inputs, database_read_number, first_index_read_number, index_reads_from, indexes_of, inputs_of, repositories_read_number, root_for, root_from_databases_world_repositories, text_database_read_number, world_read_number}
use Rattle.tell_core.specs.change_inputs.Repositories.{repositories_if_untrusted_allowed, root_repositories}
use Rattle.tell_core.specs.change_inputs.World.{root_world, found_text_or_empty}
use Rattle.command_core.specs.Command.{CommandLine}
use Rattle.dep_core.specs.Repositories.{Repository, repositories_of}
use Rattle.dep_core.specs.World.{world_of}
use Rattle.make_core.specs.make_info.Reads.{Reads}
use Rattle.tell_core.specs.candidate_core.Rank.{UpgradedNames, selection_problem_from_parts}
use Rattle.tell_core.specs.candidate_core.declared.candidate_list.TheConstants.{MOST_CANDIDATES}
use Rattle.report_core.specs.declared.refusal.Refusal.{Refusal}
use Rattle.report_core.specs.declared.refusal.Refusal.TheVariants.{DatabaseBad, IndexBad, RepositoriesBad, TooMany, WorldBad}
use Rattle.root_names.specs.RootNames.{database_name, repositories_name, text_database_name, world_name}
use Rattle.tell_core.specs.v2_core.Payload.{payload_of_text}
use Rattle.tell_core.specs.v2_core.declared.read.V2Fault.{V2Fault}
use Rattle.tell_core.specs.v2_core.declared.read.V2Fault.TheVariants.{Bad, Memory, TooLarge}
use Rattle.outcome.specs.ChangeEnd.{is_input_refusal}

-- ---- chains of stated refusals

-- where there is a refusal, it is one of these
abbrev pub HasKnownRefusal : {A : Type 0} → (Refusal → Bool) → Result A Refusal → Type 0
HasKnownRefusal is_fault (Ok a) = Unit {0}
HasKnownRefusal is_fault (Err refusal) = is_fault refusal ≡ true

pub then_stated : {A B : Type 0} (is_fault : Refusal → Bool) (a : Result A Refusal) (next : A → Result B Refusal) → HasKnownRefusal is_fault a → ((x : A) → HasKnownRefusal is_fault (next x)) → HasKnownRefusal is_fault (and_then a next)
then_stated is_fault (Ok x) next h rest = rest x
then_stated is_fault (Err refusal) next h rest = h

cause_stated : {A : Type 0} (refusal : Cause → Refusal) (cause : Option Cause) (a : A) → ((c : Cause) → is_input_refusal (refusal c) ≡ true) → HasKnownRefusal is_input_refusal (unless_cause refusal cause a)
cause_stated refusal None a h = tt
cause_stated refusal (Some cause) a h = h cause

as_stated : {A E : Type 0} (refusal : E → Refusal) (r : Result A E) → ((e : E) → is_input_refusal (refusal e) ≡ true) → HasKnownRefusal is_input_refusal (with_error_as_refusal refusal r)
as_stated refusal (Ok a) h = tt
as_stated refusal (Err e) h = h e

-- ---- what is read of a root

payload_stated : (payload : Result (List ℕ) V2Fault) → HasKnownRefusal is_input_refusal (payload_database payload)
payload_stated (Ok payload) = tt
payload_stated (Err (Bad cause)) = refl
payload_stated (Err (TooLarge bytes values)) = refl
payload_stated (Err Memory) = refl

pub database_stated : (may_begin : Bool) (file text : Option (List ℕ)) → HasKnownRefusal is_input_refusal (root_database may_begin file text)
database_stated may_begin (Some file) text = cause_stated DatabaseBad (container_fault_except_contents Idb file) _ (λ c. refl)
database_stated may_begin None (Some text) = payload_stated (payload_of_text text)
database_stated true None None = tt
database_stated false None None = refl

trusted_stated : (is_allowed : Bool) (repositories : List Repository) → HasKnownRefusal is_input_refusal (repositories_if_untrusted_allowed is_allowed repositories)
trusted_stated is_allowed [] = tt
trusted_stated true (repository ∷ repositories) = tt
trusted_stated false (repository ∷ repositories) = refl

repositories_stated : (is_allowed : Bool) (text : List ℕ) → HasKnownRefusal is_input_refusal (root_repositories is_allowed text)
repositories_stated is_allowed text =
    then_stated is_input_refusal (with_error_as_refusal RepositoriesBad (repositories_of text)) (repositories_if_untrusted_allowed is_allowed) (as_stated RepositoriesBad (repositories_of text) (λ e. refl)) (trusted_stated is_allowed)

found_stated : (command : CommandLine) (file text world_file repositories_file : Option (List ℕ)) → HasKnownRefusal is_input_refusal (root_from_databases_world_repositories command file text world_file repositories_file)
found_stated command file text world_file repositories_file =
    then_stated is_input_refusal (root_database command.flags.initdb file text) _ (database_stated command.flags.initdb file text) (λ database.
    then_stated is_input_refusal (root_world (found_text_or_empty world_file)) _ (as_stated WorldBad (world_of (found_text_or_empty world_file)) (λ e. refl)) (λ world.
    then_stated is_input_refusal (root_repositories command.flags.allow_untrusted (found_text_or_empty repositories_file)) _ (repositories_stated command.flags.allow_untrusted (found_text_or_empty repositories_file)) (λ repositories. tt)))

file_stated : (n : ℕ) (found : Option (List ℕ)) → HasKnownRefusal is_input_refusal (file_or_index_missing n found)
file_stated n None = refl
file_stated n (Some file) = tt

files_stated : (n : ℕ) (found : List (Option (List ℕ))) → HasKnownRefusal is_input_refusal (index_files_from n found)
files_stated n [] = tt
files_stated n (f ∷ found) =
    then_stated is_input_refusal (file_or_index_missing n f) _ (file_stated n f) (λ file.
    then_stated is_input_refusal (index_files_from (n + 1) found) _ (files_stated (n + 1) found) (λ files. tt))

indexes_stated : (n : ℕ) (files : List (List ℕ)) → HasKnownRefusal is_input_refusal (indexes_in_files n files)
indexes_stated n [] = tt
indexes_stated n (file ∷ files) =
    then_stated is_input_refusal (index_in_file n file) _ (cause_stated (IndexBad n) (container_fault_except_contents Index file) _ (λ c. refl)) (λ index.
    then_stated is_input_refusal (indexes_in_files (n + 1) files) _ (indexes_stated (n + 1) files) (λ indexes. tt))

pub inputs_stated : (command : CommandLine) (read : Reads) → HasKnownRefusal is_input_refusal (inputs_of command read)
unfolding inputs_of
inputs_stated command read =
    then_stated is_input_refusal (root_for command read) _ (found_stated command (read database_read_number database_name) (read text_database_read_number text_database_name) (read world_read_number world_name) (read repositories_read_number repositories_name)) (λ root.
    then_stated is_input_refusal (indexes_of read root.repositories) _
    (then_stated is_input_refusal (index_files_from 1 (index_reads_from read first_index_read_number root.repositories)) (indexes_in_files 1) (files_stated 1 (index_reads_from read first_index_read_number root.repositories)) (indexes_stated 1))
    (λ indexes. tt))

pub pool_stated : (inputs : Inputs) (upgraded : UpgradedNames) → HasKnownRefusal is_input_refusal (root_pool inputs upgraded)
unfolding root_pool
pool_stated inputs upgraded = by_count (nat_lt MOST_CANDIDATES (length (candidates_of inputs)))
  where
    by_count : (b : Bool) → HasKnownRefusal is_input_refusal (if b then Err (TooMany (MOST_CANDIDATES + 1)) else Ok (selection_problem_from_parts (candidates_of inputs) inputs.root.new_world upgraded))
    by_count true = refl
    by_count false = tt
