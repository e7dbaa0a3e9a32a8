-- The database of a root: what is installed before a command. The rules are in
-- `docs/commands.md`, "`add` and `del`" (part "What is read") and "A root of version 2"; a database's
-- tests in `docs/formats.md`, "Tests of a container".
use Rattle.std.specs.Prelude.{ℕ, Bool, true, false, List, [], Option, Some, None, Result, Ok, Err}
use Rattle.db_core.specs.adb_fields.Repeated.{entries_of_field_at_index}
use Rattle.db_core.specs.adb_schema.Soundness.{container_fault_except_contents, payload_in, root_value_of_payload}
use Rattle.adb_view.specs.FieldIndexes.{IDB_PACKAGES_INDEX}
use Rattle.adb_view.specs.declared.tables.Which.TheVariants.{Idb}
use Rattle.adb_view.specs.Plain.{Plain}
use Rattle.report_core.specs.declared.refusal.Refusal.{Refusal}
use Rattle.report_core.specs.declared.refusal.Refusal.TheVariants.{DatabaseBad, NoDatabase, ResultTooLarge}
use Rattle.v2_core.specs.Payload.{payload_of_text}
use Rattle.v2_core.specs.declared.read.V2Fault.{V2Fault}
use Rattle.v2_core.specs.declared.read.V2Fault.TheVariants.{Bad, Memory, TooLarge}
use Rattle.change_inputs.specs.Chains.{unless_cause}

-- what is installed: the packages, the bytes of their container, if there is one, and whether they are
-- from a text database
pub record Database : Type 0 where
  -- the installed packages, each as a plain value
  pub packages : List Plain
  -- the bytes of the container with the packages, if there is one
  pub file : Option (List ℕ)
  -- whether the packages are from a text database
  pub from_text : Bool

-- the database with these packages, the bytes of its container, if there is one, and whether the packages are from a
-- text database
abbrev pub database_of_packages_file_and_is_text : List Plain → Option (List ℕ) → Bool → Database
database_of_packages_file_and_is_text packages file from_text =
    record { packages = packages; file = file; from_text = from_text }

-- the database in a container, or the first test that the container fails
abbrev pub container_database : List ℕ → Result Database Refusal
container_database file =
    unless_cause DatabaseBad (container_fault_except_contents Idb file)
    (database_of_packages_file_and_is_text
    (entries_of_field_at_index IDB_PACKAGES_INDEX (root_value_of_payload Idb (payload_in file)))
    (Some file) false)

-- the database in the payload to which a text database was converted, or the refusal if it could not be converted
abbrev pub payload_database : Result (List ℕ) V2Fault → Result Database Refusal
payload_database (Ok payload) =
    Ok (database_of_packages_file_and_is_text
    (entries_of_field_at_index IDB_PACKAGES_INDEX (root_value_of_payload Idb payload)) None true)
payload_database (Err (Bad cause)) = Err (DatabaseBad cause)
payload_database (Err (TooLarge bytes values)) = Err (ResultTooLarge bytes values)
-- never the case: *payload_of_text* never runs out of memory
payload_database (Err Memory) = Err NoDatabase

-- the database to which a text database is converted, or the refusal of its first fault
abbrev pub text_database : List ℕ → Result Database Refusal
text_database text = payload_database (payload_of_text text)

-- the database of a root that has none: one without packages, if it may be created (`--initdb`)
abbrev pub empty_database_if_allowed : Bool → Result Database Refusal
empty_database_if_allowed true = Ok (database_of_packages_file_and_is_text [] None false)
empty_database_if_allowed false = Err NoDatabase

-- the database of a root, given the database's file and the text database, each None if absent; the text database is
-- used only if there is no database file. `may_begin` says whether a database may be created if both are absent
abbrev pub root_database : Bool → Option (List ℕ) → Option (List ℕ) → Result Database Refusal
root_database may_begin (Some file) text = container_database file
root_database may_begin None (Some text) = text_database text
root_database may_begin None None = empty_database_if_allowed may_begin
