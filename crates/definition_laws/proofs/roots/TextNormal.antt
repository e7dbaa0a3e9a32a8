-- The packages that a text database says are of a sound database.
use Rattle.std.proofs.Common.{◌≡◌, ◌∙◌, ℕ, ◌≤◌, false, List, Option, Some, None, Result, Ok, Err, refl, sym, ap, subst}
use Rattle.std.specs.Prelude.{is_some, unwrap_or}
use Rattle.std.proofs.lemmas.Bool.{ltb-false}
use Rattle.make_core.specs.adb_schema.Soundness.{payload_fault, root_value_of_payload}
use Rattle.adb_view.specs.Schema.{shape_of}
use Rattle.adb_view.specs.Values.{value_at}
use Rattle.adb_view.specs.declared.tables.Kind.TheVariants.{Obj}
use Rattle.adb_view.specs.declared.tables.Which.TheVariants as Tables
use Rattle.adb_view.specs.Head.{root_word_of_payload}
use Rattle.adb_view.specs.Plain.{IsNormal, Plain, Shape, null, plain_of, root_value_with_shape}
use Rattle.adb_view.specs.Shaped.{HasShape}
use Rattle.make_core.specs.adb_write.Canonical.{MOST_BYTES, ByteAndValueCounts, canonical, exceeds_a_limit, payload_unless_overflow, counts_at_first_overflow, payload_or_counts_at_overflow}
use Rattle.make_core.specs.adb_write.Size.{payload_size_of, value_count}
use Rattle.base_core.specs.declared.cause.Cause.{Cause}
use Rattle.base_core.proofs.Booleans.{neither_first}
use Rattle.engine_core.specs.v2_core.Database.{database_value_of_records}
use Rattle.engine_core.specs.v2_core.Payload.{payload_unless_too_large, payload_of_text, payload_if_sound, payload_unless_fault, untested_payload_of_records}
use Rattle.engine_core.specs.v2_core.Reading.{records_of}
use Rattle.engine_core.specs.v2_core.Records.{Record}
use Rattle.engine_core.specs.v2_core.declared.read.V2Fault.{V2Fault}
use Rattle.definition_laws.proofs.roots.TextLines.{IsFit}
use Rattle.definition_laws.proofs.roots.TextRecords.{AreGoodIfRead, records_fit, records_good}

-- what the layer of the writer says
abbrev pub ReadBack : Type 0
ReadBack = (shape : Shape) (v : Plain) → IsNormal v → HasShape shape v → payload_size_of v ≤ MOST_BYTES → root_value_with_shape (canonical v) shape ≡ Some v

abbrev pub Exact : Type 0
Exact = (v : Plain) → IsNormal v → is_some (counts_at_first_overflow v) ≡ exceeds_a_limit (payload_size_of v, value_count v)

-- ---- a payload that is written

abbrev kept : List ℕ → Result (List ℕ) V2Fault
kept payload = Ok payload

tested_ok : (p payload : List ℕ) (fault : Option Cause) → payload_unless_fault p fault ≡ kept payload → p ≡ payload
tested_ok p payload None e = (cc (e))
tested_ok p payload (Some cause) e = absurd (cc (e))

written_ok : (v : Plain) (o : Option ByteAndValueCounts) (payload : List ℕ) → payload_if_sound (payload_unless_too_large (payload_unless_overflow (canonical v) o)) ≡ kept payload → (is_some o ≡ false) × (canonical v ≡ payload)
written_ok v None payload e = (refl, tested_ok (canonical v) payload (payload_fault Tables.Idb (canonical v)) e)
written_ok v (Some counts) payload e = absurd (cc (e))

value_is : (k : Shape) (payload : List ℕ) (v : Plain) → root_value_with_shape payload k ≡ Some v → unwrap_or (plain_of payload k (root_word_of_payload payload)) null ≡ v
value_is k payload v e = ap (λ (o : Option Plain). unwrap_or o null) e

root_is : (payload : List ℕ) (v : Plain) → root_value_with_shape payload (shape_of (Obj Tables.Idb)) ≡ Some v → root_value_of_payload Tables.Idb payload ≡ v
unfolding value_at
root_is payload v e = value_is (shape_of (Obj Tables.Idb)) payload v e

module _ (back : ReadBack) (exact : Exact) where
  written_normal : (v : Plain) (payload : List ℕ) → IsFit (shape_of (Obj Tables.Idb)) v → payload_if_sound (payload_unless_too_large (payload_or_counts_at_overflow v)) ≡ kept payload → IsNormal (root_value_of_payload Tables.Idb payload)
  unfolding payload_or_counts_at_overflow
  written_normal v payload fit e =
      let written = written_ok v (counts_at_first_overflow v) payload e in
      let few : payload_size_of v ≤ MOST_BYTES = ltb-false MOST_BYTES (payload_size_of v) (neither_first _ _ (sym (exact v fit.0) ∙ written.0)) in
      subst (λ (p : List ℕ). IsNormal (root_value_of_payload Tables.Idb p)) written.1
      (subst IsNormal (sym (root_is (canonical v) v (back (shape_of (Obj Tables.Idb)) v fit.0 fit.1 few))) fit.0)

  read_normal : (read : Result (List Record) ℕ) (payload : List ℕ) → AreGoodIfRead read → payload_if_sound (untested_payload_of_records read) ≡ kept payload → IsNormal (root_value_of_payload Tables.Idb payload)
  read_normal (Ok records) payload good e = written_normal (database_value_of_records records) payload (records_fit records good) e
  read_normal (Err line) payload good e = absurd (cc (e))

  pub text_normal : (text payload : List ℕ) → payload_of_text text ≡ Ok payload → IsNormal (root_value_of_payload Tables.Idb payload)
  unfolding payload_of_text
  text_normal text payload e = read_normal (records_of text) payload (records_good text) e
