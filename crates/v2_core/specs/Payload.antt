-- The result of `read_v2` for a text: the payload of the installed database, or why there is none.
-- The rules are in `docs/formats.md`, "Text database of version 2", the last paragraphs: the order of
-- bad lines, limits and tests.
use Rattle.std.specs.Prelude.{◌≡◌, ℕ, ⊤, List, Option, Some, None, Result, Ok, Err}
use Rattle.base_core.specs.declared.cause.Cause.{Cause}
use Rattle.base_core.specs.declared.cause.Cause.TheVariants.{TextLine}
use Rattle.make_info.specs.adb_write.Canonical.{ByteAndValueCounts, payload_or_counts_at_overflow}
use Rattle.adb_schema.specs.Soundness.{payload_fault}
use Rattle.adb_view.specs.declared.tables.Which.TheVariants.{Idb}
use Rattle.v2_core.specs.declared.read.V2Fault.{V2Fault}
use Rattle.v2_core.specs.declared.read.V2Fault.TheVariants.{Bad, TooLarge, Memory}
use Rattle.v2_core.specs.Database.{database_value_of_records}
use Rattle.v2_core.specs.Reading.{records_of}
use Rattle.v2_core.specs.Records.{Record}

-- the payload, unless a test of it failed with this cause
abbrev pub payload_unless_fault : List ℕ → Option Cause → Result (List ℕ) V2Fault
payload_unless_fault payload None = Ok payload
payload_unless_fault payload (Some cause) = Err (Bad cause)

-- the payload, unless it exceeds a limit of the writer
abbrev pub payload_unless_too_large : Result (List ℕ) ByteAndValueCounts → Result (List ℕ) V2Fault
payload_unless_too_large (Ok payload) = Ok payload
payload_unless_too_large (Err counts) = Err (TooLarge counts.0 counts.1)

-- the payload of the database with these records, before it is tested; or the first bad line
abbrev pub untested_payload_of_records : Result (List Record) ℕ → Result (List ℕ) V2Fault
untested_payload_of_records (Ok records) =
    payload_unless_too_large (payload_or_counts_at_overflow (database_value_of_records records))
untested_payload_of_records (Err line) = Err (Bad (TextLine line))

-- the payload, if it passes the tests of an installed database; otherwise the first test that it fails. An
-- earlier fault stays as it is
abbrev pub payload_if_sound : Result (List ℕ) V2Fault → Result (List ℕ) V2Fault
payload_if_sound (Ok payload) = payload_unless_fault payload (payload_fault Idb payload)
payload_if_sound (Err fault) = Err fault

-- the payload of the installed database of a text; or what is reported: the first bad line, otherwise
-- the counts of a limit of the writer that is exceeded, otherwise the first test of an installed
-- database that fails
unfoldable pub payload_of_text : List ℕ → Result (List ℕ) V2Fault
payload_of_text text = payload_if_sound (untested_payload_of_records (records_of text))

-- a fault of reading a text database: it is that of `answer`, the result of the definition; out of memory may
-- occur for any text
abbrev pub IsV2Fault : V2Fault → Result (List ℕ) V2Fault → Type 0
IsV2Fault Memory answer = ⊤
IsV2Fault (Bad cause) answer = answer ≡ Err (Bad cause)
IsV2Fault (TooLarge bytes values) answer = answer ≡ Err (TooLarge bytes values)
