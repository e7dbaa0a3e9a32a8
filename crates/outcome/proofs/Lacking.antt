-- A root has no database only where no file of one stands there.
use Rattle.std.proofs.Common.{◌≡◌, ℕ, Bool, true, false, List, Option, Some, None, Result, Ok, Err, refl}
use Rattle.gen_core.specs.adb_schema.Soundness.{container_fault_except_contents, payload_fault}
use Rattle.adb_view.specs.declared.tables.Which.TheVariants.{Idb}
use Rattle.gen_core.specs.adb_write.Canonical.{ByteAndValueCounts, payload_or_counts_at_overflow}
use Rattle.base_core.specs.Files.{Files}
use Rattle.base_core.specs.declared.cause.Cause.{Cause}
use Rattle.tell_core.specs.change_inputs.Chains.{unless_cause}
use Rattle.tell_core.specs.change_inputs.Database.{Database, payload_database, root_database}
use Rattle.tell_core.specs.change_inputs.Inputs.{database_for}
use Rattle.command_core.specs.Command.{CommandLine}
use Rattle.report_core.specs.declared.refusal.Refusal.TheVariants.{DatabaseBad, NoDatabase}
use Rattle.root_names.specs.RootNames.{database_name, text_database_name}
use Rattle.tell_core.specs.v2_core.Database.{database_value_of_records}
use Rattle.tell_core.specs.v2_core.Payload.{payload_unless_too_large, payload_of_text, payload_if_sound, payload_unless_fault, untested_payload_of_records}
use Rattle.tell_core.specs.v2_core.Reading.{records_of}
use Rattle.tell_core.specs.v2_core.Records.{Record}
use Rattle.tell_core.specs.v2_core.declared.read.V2Fault.{V2Fault}
use Rattle.tell_core.specs.v2_core.declared.read.V2Fault.TheVariants.{Bad, Memory, TooLarge}
use Rattle.outcome.specs.Commands.{reads_in}

-- ---- a text is never refused for want of memory

pub bad_remembers : (payload : List ℕ) (cause : Option Cause) → payload_unless_fault payload cause ≡ Err Memory → ⊥
bad_remembers payload None e = cc (e)
bad_remembers payload (Some cause) e = cc (e)

pub large_remembers : (r : Result (List ℕ) ByteAndValueCounts) → payload_unless_too_large r ≡ Err Memory → ⊥
large_remembers (Ok payload) e = cc (e)
large_remembers (Err counts) e = cc (e)

pub written_remembers : (r : Result (List Record) ℕ) → untested_payload_of_records r ≡ Err Memory → ⊥
written_remembers (Ok records) e = large_remembers (payload_or_counts_at_overflow (database_value_of_records records)) e
written_remembers (Err line) e = cc (e)

pub tested_remembers : (r : Result (List ℕ) V2Fault) → (r ≡ Err Memory → ⊥) → payload_if_sound r ≡ Err Memory → ⊥
tested_remembers (Ok payload) h e = bad_remembers payload (payload_fault Idb payload) e
tested_remembers (Err fault) h e = h e

pub text_remembers : (text : List ℕ) → payload_of_text text ≡ Err Memory → ⊥
unfolding payload_of_text
text_remembers text e = tested_remembers (untested_payload_of_records (records_of text)) (written_remembers (records_of text)) e

-- ---- so none is missing where there is a file

cause_found : (cause : Option Cause) (database : Database) → unless_cause DatabaseBad cause database ≡ Err NoDatabase → ⊥
cause_found None database e = cc (e)
cause_found (Some cause) database e = cc (e)

payload_found : (r : Result (List ℕ) V2Fault) → (r ≡ Err Memory → ⊥) → payload_database r ≡ Err NoDatabase → ⊥
payload_found (Ok payload) h e = cc (e)
payload_found (Err (Bad cause)) h e = cc (e)
payload_found (Err (TooLarge bytes values)) h e = cc (e)
payload_found (Err Memory) h e = h refl

lacking_by : (may_begin : Bool) (file text : Option (List ℕ)) → root_database may_begin file text ≡ Err NoDatabase → (file ≡ None) × (text ≡ None) × (may_begin ≡ false)
lacking_by may_begin (Some file) text e = absurd (cause_found (container_fault_except_contents Idb file) _ e)
lacking_by may_begin None (Some text) e = absurd (payload_found (payload_of_text text) (text_remembers text) e)
lacking_by true None None e = absurd (cc (e))
lacking_by false None None e = (refl, refl, refl)

pub lacking : (command : CommandLine) (files : Files) → database_for command (reads_in files) ≡ Err NoDatabase → (files database_name ≡ None) × (files text_database_name ≡ None) × (command.flags.initdb ≡ false)
lacking command files e = lacking_by command.flags.initdb (files database_name) (files text_database_name) e
