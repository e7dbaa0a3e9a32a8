-- What a command begins with that reads the root which a change has left.
use Rattle.std.proofs.Common.{◌≡◌, ℕ, ◌+◌, Bool, true, false, List, [], ◌∷◌, Option, Some, None, Result, Ok, Err, sym, subst}
use Rattle.make_core.specs.adb_schema.Soundness.{container_fault_except_contents, payload_in, root_value_of_payload}
use Rattle.adb_view.specs.declared.tables.Which.TheVariants.{Index}
use Rattle.adb_view.specs.Plain.{Plain}
use Rattle.base_core.specs.declared.cause.Cause.{Cause}
use Rattle.engine_core.specs.change_inputs.Chains.{and_then, with_error_as_refusal, unless_cause}
use Rattle.engine_core.specs.change_inputs.Database.{Database}
use Rattle.engine_core.specs.change_inputs.Indexes.{file_or_index_missing, index_files_from, index_in_file, indexes_in_files, root_indexes}
use Rattle.engine_core.specs.change_inputs.Inputs.{Inputs, Root, database_for, index_reads_from, first_index_read_number, indexes_of, inputs_from_parts, inputs_of, repositories_read_number, root_with_new_world_of_command, root_for, world_read_number}
use Rattle.engine_core.specs.change_inputs.Repositories.{repositories_if_untrusted_allowed, root_repositories}
use Rattle.engine_core.specs.change_inputs.World.{root_world, found_text_or_empty}
use Rattle.engine_core.specs.change_outcome.ChangeOutcome.{ChangeDone}
use Rattle.engine_core.specs.change_outcome.MembersAfter.{found_members}
use Rattle.command_core.specs.Command.{CommandLine}
use Rattle.dep_core.specs.Dependency.{Dependency}
use Rattle.dep_core.specs.Repositories.{Repository, repositories_of}
use Rattle.make_core.specs.make_info.Reads.{Reads}
use Rattle.report_core.specs.declared.refusal.Refusal.{Refusal}
use Rattle.report_core.specs.declared.refusal.Refusal.TheVariants.{IndexBad, RepositoriesBad}
use Rattle.root_names.specs.RootNames.{repositories_name, world_name}
use Rattle.definition_laws.specs.roots.NextInputs.{HasDatabaseAndWorldOfRootLeft, IsRefusalOfRepositoriesOrIndex}
use Rattle.definition_laws.specs.roots.RootLeft.{LaterCommandsFindMembersAndNewWorld, ReadsDatabaseAndWorldOfFiles, database_of_members}
use Rattle.definition_laws.proofs.roots.SoundBefore.{inputs_parts}

-- ---- inputs

one_answer : {A : Type 0} (r : Result A Refusal) (x y : A) → r ≡ Ok x → r ≡ Ok y → x ≡ y
one_answer (Ok a) x y e h = (cc (e, h))
one_answer (Err refusal) x y e h = absurd (cc (e))

pub begins : (command later : CommandLine) (read next : Reads) (chosen : Option (List ℕ)) (done : ChangeDone) (left : LaterCommandsFindMembersAndNewWorld command read chosen done) (inputs : Inputs)
    → ReadsDatabaseAndWorldOfFiles done.files next → inputs_of later next ≡ Ok inputs → HasDatabaseAndWorldOfRootLeft left inputs
begins command later read next chosen done left inputs reads e =
    let is = inputs_parts later next inputs e in
    record {
      database = one_answer (database_for later next) inputs.root.database (database_of_members (found_members left.found) left.bytes) is.database (left.database later next reads);
      world = one_answer (root_world (found_text_or_empty (next world_read_number world_name))) inputs.root.world left.selected.inputs.root.new_world is.world (left.world next reads);
    }

-- ---- refusals

-- where it is refused, it is for the repositories or an index
abbrev FailsOfRepositories : {A : Type 0} → Result A Refusal → Type 0
FailsOfRepositories (Ok a) = Unit {0}
FailsOfRepositories (Err refusal) = IsRefusalOfRepositoriesOrIndex refusal

then_fails : {A B : Type 0} (r : Result A Refusal) (next : A → Result B Refusal) → FailsOfRepositories r → ((a : A) → FailsOfRepositories (next a)) → FailsOfRepositories (and_then r next)
then_fails (Ok a) next h f = f a
then_fails (Err refusal) next h f = h

known_fails : {A B : Type 0} (r : Result A Refusal) (next : A → Result B Refusal) (a : A) → r ≡ Ok a → FailsOfRepositories (next a) → FailsOfRepositories (and_then r next)
known_fails r next a e h = subst (λ (x : Result _ Refusal). FailsOfRepositories (and_then x next)) (sym e) h

text_fails : (r : Result (List Repository) ℕ) → FailsOfRepositories (with_error_as_refusal RepositoriesBad r)
text_fails (Ok repositories) = tt
text_fails (Err line) = tt

trusted_fails : (is_allowed : Bool) (repositories : List Repository) → FailsOfRepositories (repositories_if_untrusted_allowed is_allowed repositories)
trusted_fails is_allowed [] = tt
trusted_fails true (repository ∷ repositories) = tt
trusted_fails false (repository ∷ repositories) = tt

repositories_fail : (is_allowed : Bool) (text : List ℕ) → FailsOfRepositories (root_repositories is_allowed text)
repositories_fail is_allowed text = then_fails (with_error_as_refusal RepositoriesBad (repositories_of text)) (repositories_if_untrusted_allowed is_allowed) (text_fails (repositories_of text)) (trusted_fails is_allowed)

file_fails : (n : ℕ) (f : Option (List ℕ)) → FailsOfRepositories (file_or_index_missing n f)
file_fails n None = tt
file_fails n (Some file) = tt

files_fail : (n : ℕ) (found : List (Option (List ℕ))) → FailsOfRepositories (index_files_from n found)
files_fail n [] = tt
files_fail n (f ∷ found) =
    then_fails (file_or_index_missing n f) (λ file. and_then (index_files_from (n + 1) found) (λ files. Ok (file ∷ files))) (file_fails n f)
    (λ file. then_fails (index_files_from (n + 1) found) (λ files. Ok (file ∷ files)) (files_fail (n + 1) found) (λ files. tt))

index_fails : (n : ℕ) (fault : Option Cause) (index : Plain) → FailsOfRepositories (unless_cause (IndexBad n) fault index)
index_fails n None index = tt
index_fails n (Some cause) index = tt

indexes_fail : (n : ℕ) (files : List (List ℕ)) → FailsOfRepositories (indexes_in_files n files)
indexes_fail n [] = tt
indexes_fail n (file ∷ files) =
    then_fails (index_in_file n file) (λ index. and_then (indexes_in_files (n + 1) files) (λ indexes. Ok (index ∷ indexes))) (index_fails n (container_fault_except_contents Index file) (root_value_of_payload Index (payload_in file)))
    (λ index. then_fails (indexes_in_files (n + 1) files) (λ indexes. Ok (index ∷ indexes)) (indexes_fail (n + 1) files) (λ indexes. tt))

found_fail : (found : List (Option (List ℕ))) → FailsOfRepositories (root_indexes found)
found_fail found = then_fails (index_files_from 1 found) (indexes_in_files 1) (files_fail 1 found) (indexes_fail 1)

module _ (later : CommandLine) (next : Reads) (database : Database) (world : List Dependency)
    (has_database : database_for later next ≡ Ok database) (has_world : root_world (found_text_or_empty (next world_read_number world_name)) ≡ Ok world) where
  root_fails : FailsOfRepositories (root_for later next)
  root_fails =
      let text : List ℕ = found_text_or_empty (next world_read_number world_name) in
      let lines : List ℕ = found_text_or_empty (next repositories_read_number repositories_name) in
      let after_world : List Dependency → Result Root Refusal = λ world. and_then (root_repositories later.flags.allow_untrusted lines) (λ repositories. Ok (root_with_new_world_of_command later database text world repositories)) in
      let after_database : Database → Result Root Refusal = λ database.
      and_then (root_world text) (λ world. and_then (root_repositories later.flags.allow_untrusted lines) (λ repositories. Ok (root_with_new_world_of_command later database text world repositories))) in
      known_fails (database_for later next) after_database database has_database
      (known_fails (root_world text) after_world world has_world
      (then_fails (root_repositories later.flags.allow_untrusted lines) (λ repositories. Ok (root_with_new_world_of_command later database text world repositories)) (repositories_fail later.flags.allow_untrusted lines) (λ repositories. tt)))

  inputs_fail : FailsOfRepositories (inputs_of later next)
  unfolding inputs_of
  inputs_fail =
      then_fails (root_for later next) (λ root. and_then (indexes_of next root.repositories) (λ indexes. Ok (inputs_from_parts root indexes))) root_fails
      (λ root. then_fails (indexes_of next root.repositories) (λ indexes. Ok (inputs_from_parts root indexes)) (found_fail (index_reads_from next first_index_read_number root.repositories)) (λ indexes. tt))

pub refused : (command later : CommandLine) (read next : Reads) (chosen : Option (List ℕ)) (done : ChangeDone) → LaterCommandsFindMembersAndNewWorld command read chosen done → (refusal : Refusal)
    → ReadsDatabaseAndWorldOfFiles done.files next → inputs_of later next ≡ Err refusal → IsRefusalOfRepositoriesOrIndex refusal
refused command later read next chosen done left refusal reads e =
    subst (λ (r : Result Inputs Refusal). FailsOfRepositories r) e
    (inputs_fail later next (database_of_members (found_members left.found) left.bytes) left.selected.inputs.root.new_world (left.database later next reads) (left.world next reads))
