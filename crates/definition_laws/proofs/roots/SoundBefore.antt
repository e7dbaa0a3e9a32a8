-- The packages before a change are of a sound database.
use Rattle.std.proofs.Common.{◌≡◌, ◌∙◌, ℕ, ◌<◌, Bool, true, false, List, [], Option, Some, None, Result, Ok, Err, refl, sym, ap, subst}
use Rattle.std.specs.Prelude.{All}
use Rattle.make_core.specs.adb_fields.FirstPair.{IsIn}
use Rattle.make_core.specs.adb_fields.Repeated.{entries_of_field_at_index}
use Rattle.make_core.specs.adb_schema.SoundContainers.{IsSoundContainerExceptContents}
use Rattle.make_core.proofs.adb_schema.Sound as Values
use Rattle.make_core.specs.adb_schema.Soundness.{container_fault_except_contents, payload_in, root_value_of_payload}
use Rattle.adb_view.specs.declared.tables.Which.TheVariants.{Idb}
use Rattle.adb_view.specs.Plain.{Plain}
use Rattle.base_core.specs.declared.cause.Cause.{Cause}
use Rattle.engine_core.specs.change_inputs.Chains.{and_then, unless_cause}
use Rattle.engine_core.specs.change_inputs.Database.{Database, container_database, database_of_packages_file_and_is_text, payload_database, root_database}
use Rattle.engine_core.specs.change_inputs.Inputs.{Inputs, Root, database_for, database_read_number, indexes_of, inputs_from_parts, inputs_of, repositories_read_number, root_with_new_world_of_command, root_for, text_database_read_number, world_read_number}
use Rattle.engine_core.specs.change_inputs.Repositories.{root_repositories}
use Rattle.engine_core.specs.change_inputs.World.{new_world, root_world, found_text_or_empty}
use Rattle.engine_core.proofs.change_outcome.Made.{and_then_ok}
use Rattle.command_core.specs.Command.{CommandLine}
use Rattle.engine_core.specs.db_core.SoundMembers.{IsPackageOfSoundContainer, IsOfSoundDatabase}
use Rattle.dep_core.specs.Dependency.{Dependency}
use Rattle.dep_core.specs.Repositories.{Repository}
use Rattle.dep_core.specs.World.{IsWorldSortedByName}
use Rattle.make_core.proofs.IndexSound.{payload_all}
use Rattle.make_core.specs.make_info.Reads.{Reads}
use Rattle.report_core.specs.declared.refusal.Refusal.{Refusal}
use Rattle.report_core.specs.declared.refusal.Refusal.TheVariants.{DatabaseBad}
use Rattle.root_names.specs.RootNames.{database_name, repositories_name, text_database_name, world_name}
use Rattle.engine_core.proofs.change_inputs.Texts.{text_passes}
use Rattle.engine_core.specs.v2_core.Payload.{payload_of_text}
use Rattle.engine_core.specs.v2_core.declared.read.V2Fault.{V2Fault}
use Rattle.engine_core.specs.v2_core.declared.read.V2Fault.TheVariants.{Bad, Memory, TooLarge}
use Rattle.definition_laws.specs.roots.RootLeft.{AreAllReadFilesBytes}
use Rattle.definition_laws.proofs.roots.TextNormal.{Exact, ReadBack, text_normal}
use Rattle.definition_laws.proofs.roots.NewWorld.{new_world_is, read_world_is}

abbrev pub AllSound : List Plain → Type 0
AllSound pkgs = (pkg : Plain) → IsIn pkg pkgs → IsOfSoundDatabase pkg

-- what is said of a file and of a text
abbrev pub FilesMayStay : Type 0
FilesMayStay = (file : List ℕ) (pkg : Plain) → IsSoundContainerExceptContents Idb file → All (λ b. b < 256) (payload_in file) → IsIn pkg (entries_of_field_at_index 0 (root_value_of_payload Idb (payload_in file))) → IsPackageOfSoundContainer pkg None

abbrev pub TextsAreSound : Type 0
TextsAreSound = (text payload : List ℕ) → payload_of_text text ≡ Ok payload → AllSound (entries_of_field_at_index 0 (root_value_of_payload Idb payload))

-- what a text says is sound
pub texts_are_sound : Values.Laws → ReadBack → Exact → TextsAreSound
texts_are_sound laws back exact text payload is pkg here =
    record {
      database = root_value_of_payload Idb payload;
      sound = Values.sound_value laws Idb payload (text_passes text payload is);
      normal = text_normal back exact text payload is;
      listed = here;
    }

abbrev kept : Database → Result Database Refusal
kept d = Ok d

same_sound : (d database : Database) → AllSound d.packages → kept d ≡ kept database → AllSound database.packages
same_sound d database sound e = let same : d ≡ database = cc in subst (λ (x : Database). AllSound x.packages) same sound

container_sound : FilesMayStay → (file : List ℕ) (database : Database) → All (λ b. b < 256) file → container_database file ≡ Ok database → AllSound database.packages
container_sound stay file database bytes e = by_fault (container_fault_except_contents Idb file) refl e
  where
    by_fault : (fault : Option Cause) → container_fault_except_contents Idb file ≡ fault → unless_cause DatabaseBad fault (database_of_packages_file_and_is_text (entries_of_field_at_index 0 (root_value_of_payload Idb (payload_in file))) (Some file) false) ≡ Ok database → AllSound database.packages
    by_fault None sound e =
        same_sound (database_of_packages_file_and_is_text (entries_of_field_at_index 0 (root_value_of_payload Idb (payload_in file))) (Some file) false) database
        (λ pkg here. stay file pkg sound (payload_all (λ b. b < 256) file bytes) here) e
    by_fault (Some cause) sound e = absurd (cc (e))

text_sound : TextsAreSound → (text : List ℕ) (database : Database) → payload_database (payload_of_text text) ≡ Ok database → AllSound database.packages
text_sound texts text database e = by_payload (payload_of_text text) refl e
  where
    by_payload : (r : Result (List ℕ) V2Fault) → payload_of_text text ≡ r → payload_database r ≡ Ok database → AllSound database.packages
    by_payload (Ok payload) is e = same_sound (database_of_packages_file_and_is_text (entries_of_field_at_index 0 (root_value_of_payload Idb payload)) None true) database (texts text payload is) e
    by_payload (Err (Bad cause)) is e = absurd (cc (e))
    by_payload (Err (TooLarge n values)) is e = absurd (cc (e))
    by_payload (Err Memory) is e = absurd (cc (e))

abbrev IfBytes : Option (List ℕ) → Type 0
IfBytes found = (bytes : List ℕ) → found ≡ Some bytes → All (λ b. b < 256) bytes

database_sound : FilesMayStay → TextsAreSound → (may_begin : Bool) (file text : Option (List ℕ)) (database : Database) → IfBytes file → root_database may_begin file text ≡ Ok database → AllSound database.packages
database_sound stay texts may_begin (Some file) text database h e = container_sound stay file database (h file refl) e
database_sound stay texts may_begin None (Some text) database h e = text_sound texts text database e
database_sound stay texts true None None database h e = same_sound (database_of_packages_file_and_is_text [] None false) database (λ pkg here. absurd here) e
database_sound stay texts false None None database h e = absurd (cc (e))

-- ---- what inputs are of

pub record IsRootFor (command : CommandLine) (read : Reads) (root : Root) : Type 0 where
  pub database : database_for command read ≡ Ok root.database
  pub world : root_world (found_text_or_empty (read world_read_number world_name)) ≡ Ok root.world
  pub new : root.new_world ≡ new_world command.applet command.operands root.world

module _ (command : CommandLine) (read : Reads) (root : Root) (e : root_for command read ≡ Ok root) where
  root_parts : IsRootFor command read root
  root_parts =
      let text : List ℕ = found_text_or_empty (read world_read_number world_name) in
      let after_database : Database → Result Root Refusal = λ database.
      and_then (root_world text) (λ world.
      and_then (root_repositories command.flags.allow_untrusted (found_text_or_empty (read repositories_read_number repositories_name))) (λ repositories.
      Ok (root_with_new_world_of_command command database text world repositories))) in
      let database = and_then_ok (database_for command read) after_database root e in
      let after_world : List Dependency → Result Root Refusal = λ world.
      and_then (root_repositories command.flags.allow_untrusted (found_text_or_empty (read repositories_read_number repositories_name))) (λ repositories.
      Ok (root_with_new_world_of_command command database.0 text world repositories)) in
      let world = and_then_ok (root_world text) after_world root database.2 in
      let after_repositories : List Repository → Result Root Refusal = λ repositories. Ok (root_with_new_world_of_command command database.0 text world.0 repositories) in
      let repositories = and_then_ok (root_repositories command.flags.allow_untrusted (found_text_or_empty (read repositories_read_number repositories_name))) after_repositories root world.2 in
      let same : root_with_new_world_of_command command database.0 text world.0 repositories.0 ≡ root = (let last = repositories.2 in cc) in
      record {
        database = database.1 ∙ ap (λ (x : Root). Ok x.database) same;
        world = world.1 ∙ ap (λ (x : Root). Ok x.world) same;
        new = ap (λ (x : Root). x.new_world) (sym same) ∙ ap (λ (x : Root). new_world command.applet command.operands x.world) same;
      }

pub inputs_parts : (command : CommandLine) (read : Reads) (inputs : Inputs) → inputs_of command read ≡ Ok inputs → IsRootFor command read inputs.root
unfolding inputs_of
inputs_parts command read inputs e =
    let root = and_then_ok (root_for command read) (λ root. and_then (indexes_of read root.repositories) (λ indexes. Ok (inputs_from_parts root indexes))) inputs e in
    let indexes = and_then_ok (indexes_of read root.0.repositories) (λ indexes. Ok (inputs_from_parts root.0 indexes)) inputs root.2 in
    let same : inputs_from_parts root.0 indexes.0 ≡ inputs = (let last = indexes.2 in cc) in
    subst (λ (x : Inputs). IsRootFor command read x.root) same (root_parts command read root.0 root.1)

pub before_sound : FilesMayStay → TextsAreSound → (command : CommandLine) (read : Reads) (root : Root) → AreAllReadFilesBytes read → IsRootFor command read root → AllSound root.database.packages
before_sound stay texts command read root bytes is =
    database_sound stay texts command.flags.initdb (read database_read_number database_name) (read text_database_read_number text_database_name) root.database
    (bytes database_read_number database_name) is.database

pub new_world_sound : (command : CommandLine) (read : Reads) (root : Root) → IsRootFor command read root → IsWorldSortedByName root.new_world
new_world_sound command read root is =
    subst IsWorldSortedByName (sym is.new) (new_world_is command.applet command.operands root.world (read_world_is (found_text_or_empty (read world_read_number world_name)) root.world is.world))
