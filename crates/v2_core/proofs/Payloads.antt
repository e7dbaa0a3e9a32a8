-- The payload of what was read.
use Rattle.std.proofs.Common.{◌≡◌, ℕ, List, [], ◌∷◌, map, Result, Ok, Err, sym, ◌∙◌, ap}
use Rattle.adb_view.specs.Plain.{Plain, none, more, array_or_null, trimmed_object_or_null}
use Rattle.make_info.specs.adb_values.Drafts.{DraftState, draft_with, draft_with_open_list, empty_draft}
use Rattle.make_info.proofs.adb_values.Lists.{Closes}
use Rattle.make_info.specs.adb_write.Canonical.{ByteAndValueCounts, payload_or_counts_at_overflow}
use Rattle.make_info.specs.Values.{plains_of_list}
use Rattle.v2_core.specs.Database.{array_or_null_of_list, record_value, database_value_of_records}
use Rattle.v2_core.specs.Payload.{IsV2Fault, payload_unless_too_large, payload_if_sound, untested_payload_of_records}
use Rattle.v2_core.specs.Records.{Record}
use Rattle.v2_core.specs.Writing.{IsLineFault, draft_with_database, draft_with_records}
use Rattle.v2_core.specs.declared.read.V2Fault.{V2Fault}
use Rattle.v2_core.specs.declared.read.V2Fault.TheVariants.{Bad, TooLarge, Memory}
use Rattle.make_info.proofs.Mapped.{with_list}

-- what a draft of the database ends with is the payload, or the counts at which it overflows
pub finished : (read : Result (List Record) ℕ) (start d : DraftState) (answer : Result (List ℕ) ByteAndValueCounts) → start ≡ empty_draft → draft_with_database read start ≡ Ok d
    → ((v : Plain) → d ≡ draft_with v empty_draft → payload_or_counts_at_overflow v ≡ answer) → untested_payload_of_records read ≡ payload_unless_too_large answer
finished (Ok records) start d answer fresh so end =
    let v : Plain = database_value_of_records records in
    let same : draft_with v start ≡ d = cc in
    ap payload_unless_too_large (end v (sym same ∙ ap (λ (s : DraftState). draft_with v s) fresh))
finished (Err line) start d answer fresh so end = absurd cc

-- a bad line is why there is no payload
pub line_fault : (fault : V2Fault) (read : Result (List Record) ℕ) → IsLineFault fault read → IsV2Fault fault (untested_payload_of_records read)
line_fault (Bad cause) read is = ap untested_payload_of_records is.2 ∙ ap (λ c. Err (Bad c)) (sym is.1)
line_fault (TooLarge bytes values) read is = absurd is
line_fault Memory read is = is

-- a fault before the tests is the one that is answered
pub untested_fault : (fault : V2Fault) (written : Result (List ℕ) V2Fault) → IsV2Fault fault written → IsV2Fault fault (payload_if_sound written)
untested_fault (Bad cause) written is = ap payload_if_sound is
untested_fault (TooLarge bytes values) written is = ap payload_if_sound is
untested_fault Memory written is = is

-- the packages make the database
pub database_closed : (read : Result (List Record) ℕ) (a b c d e f : DraftState) → b ≡ draft_with_open_list a → c ≡ draft_with_open_list b → draft_with_records read c ≡ Ok d → Closes array_or_null d e → Closes trimmed_object_or_null e f
    → draft_with_database read a ≡ Ok f
database_closed (Ok records) a b c d e f first second so array object =
    let packages : List Plain = map record_value records in
    let all : with_list packages c ≡ d = cc in
    let list : e ≡ draft_with (array_or_null_of_list packages) b = array (plains_of_list packages) b (sym all ∙ ap (λ (s : DraftState). with_list packages s) second) in
    ap (λ (s : DraftState). Ok s) (sym (object (more (array_or_null_of_list packages) none) a (list ∙ ap (λ (s : DraftState). draft_with (array_or_null_of_list packages) s) first)))
database_closed (Err line) a b c d e f first second so array object = absurd cc
