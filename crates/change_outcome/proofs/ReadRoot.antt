-- What is read of a root is what stands there.
use Rattle.std.proofs.Common.{◌≡◌, ◌∙◌, ℕ, Bool, true, false, List, Option, Some, None, Result, Ok, Err, refl, sym, ap}
use Rattle.db_core.specs.adb_schema.Soundness.{container_fault_except_contents}
use Rattle.adb_view.specs.declared.tables.Which.TheVariants.{Idb}
use Rattle.base_core.specs.Files.{Files}
use Rattle.base_core.specs.declared.cause.Cause.{Cause}
use Rattle.change_inputs.specs.Chains.{and_then, unless_cause}
use Rattle.change_inputs.specs.Database.{Database, payload_database, root_database}
use Rattle.change_inputs.specs.Inputs.{Inputs, Root, database_read_number, indexes_of, inputs_from_parts, inputs_of, repositories_read_number, root_with_new_world_of_command, root_from_databases_world_repositories, root_for, text_database_read_number, world_read_number}
use Rattle.change_inputs.specs.Repositories.{root_repositories}
use Rattle.change_inputs.specs.World.{root_world, found_text_or_empty}
use Rattle.command_core.specs.Command.{CommandLine}
use Rattle.dep_core.specs.Dependency.{Dependency}
use Rattle.dep_core.specs.Repositories.{Repository}
use Rattle.change_inputs.specs.make_info.Reads.{Reads}
use Rattle.report_core.specs.declared.refusal.Refusal.{Refusal}
use Rattle.report_core.specs.declared.refusal.Refusal.TheVariants.{DatabaseBad}
use Rattle.root_names.specs.RootNames.{database_name, repositories_name, text_database_name, world_name}
use Rattle.change_inputs.specs.v2_core.Payload.{payload_of_text}
use Rattle.change_inputs.specs.v2_core.declared.read.V2Fault.{V2Fault}
use Rattle.change_inputs.specs.v2_core.declared.read.V2Fault.TheVariants.{Bad, Memory, TooLarge}
use Rattle.change_outcome.specs.Premises.{AreDatabaseAndWorldReadFromFiles}
use Rattle.change_outcome.proofs.Made.{and_then_ok}

container_file : (fault : Option Cause) (file : List ℕ) (d database : Database) → d.file ≡ Some file → unless_cause DatabaseBad fault d ≡ Ok database → database.file ≡ Some file
container_file None file d database is e = let same : d ≡ database = cc in ap (λ (x : Database). x.file) (sym same) ∙ is
container_file (Some cause) file d database is e = absurd (cc (e))

abbrev kept : Database → Result Database Refusal
kept d = Ok d

one_file : (d database : Database) → kept d ≡ kept database → database.file ≡ d.file
one_file d database e = let same : d ≡ database = cc in ap (λ (x : Database). x.file) (sym same)

payload_file : (r : Result (List ℕ) V2Fault) (database : Database) → payload_database r ≡ Ok database → database.file ≡ None
payload_file (Ok payload) database e = one_file _ database e
payload_file (Err (Bad cause)) database e = absurd (cc (e))
payload_file (Err (TooLarge bytes values)) database e = absurd (cc (e))
payload_file (Err Memory) database e = absurd (cc (e))

database_file : (may_begin : Bool) (file text : Option (List ℕ)) (database : Database) → root_database may_begin file text ≡ Ok database → database.file ≡ file
database_file may_begin (Some file) text database e = container_file (container_fault_except_contents Idb file) file _ database refl e
database_file may_begin None (Some text) database e = payload_file (payload_of_text text) database e
database_file true None None database e = one_file _ database e
database_file false None None database e = absurd (cc (e))

module _ (command : CommandLine) (file text world_file repositories_file : Option (List ℕ)) (root : Root) (e : root_from_databases_world_repositories command file text world_file repositories_file ≡ Ok root) where
  pub root_records : (root.database.file ≡ file) × (root.world_text ≡ found_text_or_empty world_file)
  root_records =
      let after_database : Database → Result Root Refusal = λ database.
      and_then (root_world (found_text_or_empty world_file)) (λ world.
      and_then (root_repositories command.flags.allow_untrusted (found_text_or_empty repositories_file)) (λ repositories.
      Ok (root_with_new_world_of_command command database (found_text_or_empty world_file) world repositories))) in
      let database = and_then_ok (root_database command.flags.initdb file text) after_database root e in
      let after_world : List Dependency → Result Root Refusal = λ world.
      and_then (root_repositories command.flags.allow_untrusted (found_text_or_empty repositories_file)) (λ repositories.
      Ok (root_with_new_world_of_command command database.0 (found_text_or_empty world_file) world repositories)) in
      let world = and_then_ok (root_world (found_text_or_empty world_file)) after_world root database.2 in
      let after_repositories : List Repository → Result Root Refusal = λ repositories. Ok (root_with_new_world_of_command command database.0 (found_text_or_empty world_file) world.0 repositories) in
      let repositories = and_then_ok (root_repositories command.flags.allow_untrusted (found_text_or_empty repositories_file)) after_repositories root world.2 in
      let same : root_with_new_world_of_command command database.0 (found_text_or_empty world_file) world.0 repositories.0 ≡ root = (let last = repositories.2 in cc) in (
        ap (λ (x : Root). x.database.file) (sym same) ∙ database_file command.flags.initdb file text database.0 database.1,
        ap (λ (x : Root). x.world_text) (sym same),
      )

pub root_read : (command : CommandLine) (read : Reads) (inputs : Inputs) (files : Files) → ((n : ℕ) (name : List ℕ) → read n name ≡ files name) → inputs_of command read ≡ Ok inputs → AreDatabaseAndWorldReadFromFiles files inputs.root
unfolding inputs_of
root_read command read inputs files reads e =
    let root = and_then_ok (root_for command read) (λ root. and_then (indexes_of read root.repositories) (λ indexes. Ok (inputs_from_parts root indexes))) inputs e in
    let indexes = and_then_ok (indexes_of read root.0.repositories) (λ indexes. Ok (inputs_from_parts root.0 indexes)) inputs root.2 in
    let same : inputs_from_parts root.0 indexes.0 ≡ inputs = (let last = indexes.2 in cc) in
    let records = root_records command (read database_read_number database_name) (read text_database_read_number text_database_name) (read world_read_number world_name) (read repositories_read_number repositories_name) root.0 root.1 in
    record {
      database = ap (λ (x : Inputs). x.root.database.file) (sym same) ∙ (records.0 ∙ reads database_read_number database_name);
      world = ap (λ (x : Inputs). x.root.world_text) (sym same) ∙ (records.1 ∙ ap found_text_or_empty (reads world_read_number world_name));
    }
