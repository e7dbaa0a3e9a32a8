-- The payload that a text database says passes the tests of a database.
use Rattle.std.proofs.Common.{◌≡◌, ℕ, List, Option, Some, None, Result, Ok, Err, refl, subst}
use Rattle.base_core.specs.declared.cause.Cause.{Cause}
use Rattle.db_core.specs.adb_schema.Soundness.{payload_fault}
use Rattle.adb_view.specs.declared.tables.Which.TheVariants.{Idb}
use Rattle.v2_core.specs.Payload.{payload_of_text, payload_if_sound, payload_unless_fault, untested_payload_of_records}
use Rattle.v2_core.specs.Reading.{records_of}
use Rattle.v2_core.specs.declared.read.V2Fault.{V2Fault}

by_fault : (made payload : List ℕ) (fault : Option Cause) → payload_fault Idb made ≡ fault → payload_unless_fault made fault ≡ Ok payload → payload_fault Idb payload ≡ None
by_fault made payload None tested is = let same : made ≡ payload = cc in subst (λ p. payload_fault Idb p ≡ None) same tested
by_fault made payload (Some c) tested is = absurd (cc)

by_payload : (r : Result (List ℕ) V2Fault) (payload : List ℕ) → payload_if_sound r ≡ Ok payload → payload_fault Idb payload ≡ None
by_payload (Ok made) payload is = by_fault made payload (payload_fault Idb made) refl is
by_payload (Err fault) payload is = absurd (cc)

pub text_passes : (text payload : List ℕ) → payload_of_text text ≡ Ok payload → payload_fault Idb payload ≡ None
unfolding payload_of_text
text_passes text payload is = by_payload (untested_payload_of_records (records_of text)) payload is
