-- A command has no selection exactly if no packages satisfy its new world.
use Rattle.std.proofs.Common.{◌≡◌, ◌↔◌, ℕ, Bool, true, false, List, [], ◌∷◌, Option, Some, None, Result, Ok, Err, refl, ap, sym, subst, ◌∙◌}
use Rattle.std.specs.Prelude.{◌+◌, nat_lt, length, if◌then◌else◌}
use Rattle.base_core.specs.declared.cause.Cause.{Cause}
use Rattle.engine_core.specs.candidate_core.Rank.{SelectionProblem, UpgradedNames, selection_problem_from_parts}
use Rattle.engine_core.specs.candidate_core.declared.candidate_list.TheConstants.{MOST_CANDIDATES}
use Rattle.engine_core.specs.adb_schema.Soundness.{container_fault_except_contents, payload_in, root_value_of_payload}
use Rattle.adb_view.specs.declared.tables.Which.TheVariants.{Idb, Index}
use Rattle.engine_core.specs.change_inputs.Candidates.{candidates_of, root_pool}
use Rattle.engine_core.specs.change_inputs.Chains.{and_then, with_error_as_refusal, unless_cause}
use Rattle.engine_core.specs.change_inputs.Database.{payload_database, root_database}
use Rattle.engine_core.specs.change_inputs.Indexes.{file_or_index_missing, index_files_from, index_in_file, indexes_in_files}
use Rattle.engine_core.specs.change_inputs.Inputs.{Inputs, database_read_number, first_index_read_number, index_reads_from, inputs_of, repositories_read_number, root_for, text_database_read_number, world_read_number}
use Rattle.engine_core.specs.change_inputs.Repositories.{repositories_if_untrusted_allowed, root_repositories}
use Rattle.engine_core.specs.change_inputs.World.{root_world, found_text_or_empty}
use Rattle.command_core.specs.Command.{CommandLine}
use Rattle.dep_core.specs.Repositories.{Repository, repositories_of}
use Rattle.dep_core.specs.World.{world_of}
use Rattle.engine_core.specs.Changed.{selected_from_pool_by_choice, selected_from_reads_by_choice, selected_from_inputs_by_choice}
use Rattle.engine_core.specs.Choice.{IsPreferredChoice, IsPreferredChoiceOrNoneIfRefused}
use Rattle.engine_core.specs.Selecting.{pool_of_inputs_unless_too_many_candidates, pool_of_command}
use Rattle.engine_core.specs.Wishes.{names_to_upgrade, unknown_operand_place, unless_unknown_operand}
use Rattle.engine_core.specs.make_info.Reads.{Reads}
use Rattle.engine_core.specs.package_changes.Placed.{candidates_at}
use Rattle.report_core.specs.declared.refusal.Refusal.{Refusal}
use Rattle.report_core.specs.declared.refusal.Refusal.TheVariants.{DatabaseBad, IndexBad, RepositoriesBad, TooMany, Unsatisfied, WorldBad}
use Rattle.root_names.specs.RootNames.{database_name, repositories_name, text_database_name, world_name}
use Rattle.engine_core.specs.v2_core.Payload.{payload_of_text}
use Rattle.engine_core.specs.v2_core.declared.read.V2Fault.{V2Fault}
use Rattle.engine_core.specs.v2_core.declared.read.V2Fault.TheVariants.{Bad, Memory, TooLarge}
use Rattle.definition_laws.specs.worlds.SatisfiedWorld.{IsUnsatisfiable}
use Rattle.definition_laws.proofs.worlds.CommandPools.{root_pool_is}
use Rattle.definition_laws.proofs.worlds.SatisfiedWorlds.{satisfied}
use Rattle.definition_laws.proofs.worlds.SatisfyingPlaces.{selection_of}

-- ---- a pool

pub none_of_pool : (pool : SelectionProblem) → IsPreferredChoice pool None ↔ IsUnsatisfiable pool.candidates pool.world
none_of_pool pool = (
  λ none packages are. (let found = selection_of pool packages are in none found.0 found.1),
  λ unsatisfiable selection is. unsatisfiable (candidates_at pool selection) (satisfied pool selection is),
)

none_of_inputs : (inputs : Inputs) (upgraded : UpgradedNames) (pool : SelectionProblem) → root_pool inputs upgraded ≡ Ok pool → IsPreferredChoice pool None ↔ IsUnsatisfiable (candidates_of inputs) inputs.root.new_world
none_of_inputs inputs upgraded pool e =
    let is : pool ≡ selection_problem_from_parts (candidates_of inputs) inputs.root.new_world upgraded = (root_pool_is inputs upgraded pool e).is in
    subst (λ (p : SelectionProblem). IsPreferredChoice pool None ↔ IsUnsatisfiable p.candidates p.world) is (none_of_pool pool)

-- ---- no input is refused so

-- a result is not that refusal
abbrev IsOther : {A : Type 0} → Result A Refusal → Type 0
IsOther {A} r = r ≡ Err Unsatisfied → ⊥

chain : {A B : Type 0} (a : Result A Refusal) (next : A → Result B Refusal) → IsOther a → ((x : A) → IsOther (next x)) → IsOther (and_then a next)
chain (Ok x) next first rest e = rest x e
chain (Err refusal) next first rest e = let same : refusal ≡ Unsatisfied = cc in first (ap (λ r. Err r) same)

as_other : {A E : Type 0} (refusal : E → Refusal) (a : Result A E) → ((e : E) → refusal e ≡ Unsatisfied → ⊥) → IsOther (with_error_as_refusal refusal a)
as_other refusal (Ok a) other e = cc (e)
as_other refusal (Err x) other e = let same : refusal x ≡ Unsatisfied = cc in other x same

cause_other : {A : Type 0} (refusal : Cause → Refusal) (o : Option Cause) (a : A) → ((c : Cause) → refusal c ≡ Unsatisfied → ⊥) → IsOther (unless_cause refusal o a)
cause_other refusal None a other e = cc (e)
cause_other refusal (Some cause) a other e = let same : refusal cause ≡ Unsatisfied = cc in other cause same

payload_other : (r : Result (List ℕ) V2Fault) → IsOther (payload_database r)
payload_other (Ok payload) e = cc (e)
payload_other (Err (Bad cause)) e = cc (e)
payload_other (Err (TooLarge bytes values)) e = cc (e)
payload_other (Err Memory) e = cc (e)

database_other : (may_begin : Bool) (file text : Option (List ℕ)) → IsOther (root_database may_begin file text)
database_other may_begin (Some file) text = cause_other DatabaseBad (container_fault_except_contents Idb file) _ (λ c e. cc (e))
database_other may_begin None (Some text) = payload_other (payload_of_text text)
database_other true None None = λ e. cc (e)
database_other false None None = λ e. cc (e)

trusted_other : (is_allowed_by_tags_of_world : Bool) (repositories : List Repository) → IsOther (repositories_if_untrusted_allowed is_allowed_by_tags_of_world repositories)
trusted_other is_allowed_by_tags_of_world [] e = cc (e)
trusted_other true (repository ∷ others) e = cc (e)
trusted_other false (repository ∷ others) e = cc (e)

repositories_other : (is_allowed_by_tags_of_world : Bool) (text : List ℕ) → IsOther (root_repositories is_allowed_by_tags_of_world text)
repositories_other is_allowed_by_tags_of_world text = chain (with_error_as_refusal RepositoriesBad (repositories_of text)) (repositories_if_untrusted_allowed is_allowed_by_tags_of_world) (as_other RepositoriesBad (repositories_of text) (λ n e. cc (e))) (trusted_other is_allowed_by_tags_of_world)

file_other : (n : ℕ) (found : Option (List ℕ)) → IsOther (file_or_index_missing n found)
file_other n None e = cc (e)
file_other n (Some file) e = cc (e)

files_other : (n : ℕ) (found : List (Option (List ℕ))) → IsOther (index_files_from n found)
files_other n [] = λ e. cc (e)
files_other n (f ∷ found) =
    chain (file_or_index_missing n f) (λ file. and_then (index_files_from (n + 1) found) (λ files. Ok (file ∷ files))) (file_other n f)
    (λ file. chain (index_files_from (n + 1) found) (λ files. Ok (file ∷ files)) (files_other (n + 1) found) (λ files e. cc (e)))

indexes_other : (n : ℕ) (files : List (List ℕ)) → IsOther (indexes_in_files n files)
indexes_other n [] = λ e. cc (e)
indexes_other n (file ∷ files) =
    chain (index_in_file n file) (λ index. and_then (indexes_in_files (n + 1) files) (λ indexes. Ok (index ∷ indexes))) (cause_other (IndexBad n) (container_fault_except_contents Index file) (root_value_of_payload Index (payload_in file)) (λ c e. cc (e)))
    (λ index. chain (indexes_in_files (n + 1) files) (λ indexes. Ok (index ∷ indexes)) (indexes_other (n + 1) files) (λ indexes e. cc (e)))

module _ (command : CommandLine) (read : Reads) where
  root_other : IsOther (root_for command read)
  root_other =
      chain (root_database command.flags.initdb (read database_read_number database_name) (read text_database_read_number text_database_name)) _ (database_other command.flags.initdb (read database_read_number database_name) (read text_database_read_number text_database_name))
      (λ database. chain (root_world (found_text_or_empty (read world_read_number world_name))) _ (as_other WorldBad (world_of (found_text_or_empty (read world_read_number world_name))) (λ n e. cc (e)))
      (λ world. chain (root_repositories command.flags.allow_untrusted (found_text_or_empty (read repositories_read_number repositories_name))) _ (repositories_other command.flags.allow_untrusted (found_text_or_empty (read repositories_read_number repositories_name)))
      (λ repositories e. cc (e))))

  inputs_other : IsOther (inputs_of command read)
  unfolding inputs_of
  inputs_other =
      chain (root_for command read) _ root_other
      (λ root. chain (and_then (index_files_from 1 (index_reads_from read first_index_read_number root.repositories)) (indexes_in_files 1)) _
      (chain (index_files_from 1 (index_reads_from read first_index_read_number root.repositories)) (indexes_in_files 1) (files_other 1 (index_reads_from read first_index_read_number root.repositories)) (indexes_other 1))
      (λ indexes e. cc (e)))

  pool_other : (inputs : Inputs) → IsOther (pool_of_inputs_unless_too_many_candidates command inputs)
  unfolding root_pool
  pool_other inputs = by (nat_lt MOST_CANDIDATES (length (candidates_of inputs)))
    where
      by : (t : Bool) → IsOther (if t then Err (TooMany (MOST_CANDIDATES + 1)) else Ok (selection_problem_from_parts (candidates_of inputs) inputs.root.new_world (names_to_upgrade command.applet command.operands)))
      by true e = cc (e)
      by false e = cc (e)

  -- ---- a command

  pub none_for : (inputs : Inputs) (pool : SelectionProblem) → inputs_of command read ≡ Ok inputs → pool_of_command command read ≡ Ok pool → IsPreferredChoice pool None ↔ IsUnsatisfiable (candidates_of inputs) inputs.root.new_world
  none_for inputs pool e f =
      none_of_inputs inputs (names_to_upgrade command.applet command.operands) pool (sym (ap (λ (r : Result Inputs Refusal). and_then r (pool_of_inputs_unless_too_many_candidates command)) e) ∙ f)

  -- the inputs are read, and no packages satisfy the new world
  abbrev HasNone : Type 0
  HasNone = (inputs : Inputs) × (inputs_of command read ≡ Ok inputs) × IsUnsatisfiable (candidates_of inputs) inputs.root.new_world

  pub refused : (chosen : Option (List ℕ)) → IsPreferredChoiceOrNoneIfRefused (pool_of_command command read) chosen → selected_from_reads_by_choice command read chosen ≡ Err Unsatisfied → HasNone
  refused chosen choice e = by (inputs_of command read) refl choice e
    where
      by_chosen : (inputs : Inputs) → inputs_of command read ≡ Ok inputs → (pool : SelectionProblem) → pool_of_inputs_unless_too_many_candidates command inputs ≡ Ok pool → (place : Option ℕ) (chosen : Option (List ℕ)) → IsPreferredChoice pool chosen
          → unless_unknown_operand place (selected_from_pool_by_choice command inputs pool chosen) ≡ Err Unsatisfied → HasNone
      by_chosen inputs is pool made (Some place) chosen choice e = absurd (cc (e))
      by_chosen inputs is pool made None (Some trace) choice e = absurd (cc (e))
      by_chosen inputs is pool made None None choice e = (inputs, is, (none_of_inputs inputs (names_to_upgrade command.applet command.operands) pool made).0 choice)

      by_pool : (inputs : Inputs) → inputs_of command read ≡ Ok inputs → (made : Result SelectionProblem Refusal) → pool_of_inputs_unless_too_many_candidates command inputs ≡ made → IsPreferredChoiceOrNoneIfRefused made chosen
          → and_then made (λ pool. unless_unknown_operand (unknown_operand_place command.applet inputs command.operands) (selected_from_pool_by_choice command inputs pool chosen)) ≡ Err Unsatisfied → HasNone
      by_pool inputs is (Err refusal) made choice e = let same : refusal ≡ Unsatisfied = cc in absurd (pool_other inputs (made ∙ ap (λ r. Err r) same))
      by_pool inputs is (Ok pool) made choice e = by_chosen inputs is pool made (unknown_operand_place command.applet inputs command.operands) chosen choice e

      by : (r : Result Inputs Refusal) → inputs_of command read ≡ r → IsPreferredChoiceOrNoneIfRefused (and_then r (pool_of_inputs_unless_too_many_candidates command)) chosen → and_then r (selected_from_inputs_by_choice command chosen) ≡ Err Unsatisfied → HasNone
      by (Err refusal) is choice e = let same : refusal ≡ Unsatisfied = cc in absurd (inputs_other (is ∙ ap (λ r. Err r) same))
      by (Ok inputs) is choice e = by_pool inputs is (pool_of_inputs_unless_too_many_candidates command inputs) refl choice e

  pub refuses : (chosen : Option (List ℕ)) (inputs : Inputs) (pool : SelectionProblem) → IsPreferredChoiceOrNoneIfRefused (pool_of_command command read) chosen → inputs_of command read ≡ Ok inputs → pool_of_command command read ≡ Ok pool
      → unknown_operand_place command.applet inputs command.operands ≡ None → IsUnsatisfiable (candidates_of inputs) inputs.root.new_world → selected_from_reads_by_choice command read chosen ≡ Err Unsatisfied
  refuses chosen inputs pool choice e f known none = by chosen (subst (λ (r : Result SelectionProblem Refusal). IsPreferredChoiceOrNoneIfRefused r chosen) f choice) refl
    where
      made : pool_of_inputs_unless_too_many_candidates command inputs ≡ Ok pool
      made = sym (ap (λ (r : Result Inputs Refusal). and_then r (pool_of_inputs_unless_too_many_candidates command)) e) ∙ f

      read_so : (taken : Option (List ℕ)) → selected_from_reads_by_choice command read taken ≡ selected_from_pool_by_choice command inputs pool taken
      read_so taken =
          ap (λ (r : Result Inputs Refusal). and_then r (selected_from_inputs_by_choice command taken)) e
          ∙ (ap (λ (r : Result SelectionProblem Refusal). and_then r (λ p. unless_unknown_operand (unknown_operand_place command.applet inputs command.operands) (selected_from_pool_by_choice command inputs p taken))) made
          ∙ ap (λ (o : Option ℕ). unless_unknown_operand o (selected_from_pool_by_choice command inputs pool taken)) known)

      by : (taken : Option (List ℕ)) → IsPreferredChoice pool taken → chosen ≡ taken → selected_from_reads_by_choice command read chosen ≡ Err Unsatisfied
      by None choice same = ap (selected_from_reads_by_choice command read) same ∙ read_so None
      by (Some trace) choice same = absurd ((none_for inputs pool e f).1 none trace choice.satisfies)
