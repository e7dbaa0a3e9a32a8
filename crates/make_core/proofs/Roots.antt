-- A good value of which a payload was written may stand at the root of a container.
use Rattle.std.proofs.Common.{◌≡◌, ℕ, false, List, Option, Some, None, Ok, refl, ap, sym, ◌∙◌}
use Rattle.std.specs.Prelude.{is_some}
use Rattle.std.proofs.lemmas.Bool.{ltb-false, or_parts}
use Rattle.adb_view.specs.Plain.{IsNormal, Plain}
use Rattle.adb_view.specs.Schema.{shape_of}
use Rattle.pkg_core.specs.adb_schema.Texts.{surroundings_of_root}
use Rattle.adb_copy.specs.adb_fields.Repeated.{repeated_fault}
use Rattle.adb_view.specs.declared.tables.Which.{Which}
use Rattle.adb_view.specs.declared.tables.Kind.TheVariants.{Obj}
use Rattle.adb_copy.specs.adb_write.Canonical.{ByteAndValueCounts, canonical, payload_unless_overflow, counts_at_first_overflow, exceeds_a_limit, payload_or_counts_at_overflow, MOST_BYTES, MOST_VALUES}
use Rattle.adb_copy.specs.adb_write.Size.{payload_size_of, value_count}
use Rattle.package_files.specs.adb_sound.Root.{IsValidRootValueOfTable}
use Rattle.make_core.proofs.GoodValues.{IsGood}

pub record IsWritten (v : Plain) (payload : List ℕ) : Type 0 where
  pub none : counts_at_first_overflow v ≡ None
  pub is : canonical v ≡ payload

written_by : (v : Plain) (payload : List ℕ) (o : Option ByteAndValueCounts) → counts_at_first_overflow v ≡ o → payload_unless_overflow (canonical v) o ≡ Ok payload → IsWritten v payload
written_by v payload None e h = record { none = e; is = cc (h) }
written_by v payload (Some c) e h = absurd (cc (h))

pub written : (v : Plain) (payload : List ℕ) → payload_or_counts_at_overflow v ≡ Ok payload → IsWritten v payload
unfolding payload_or_counts_at_overflow
written v payload h = written_by v payload (counts_at_first_overflow v) refl h

-- a normal value overflows exactly past a limit
abbrev pub Exact : Type 0
Exact = (v : Plain) → IsNormal v → is_some (counts_at_first_overflow v) ≡ exceeds_a_limit (payload_size_of v, value_count v)

pub root_good : Exact → (which : Which) (v : Plain) (payload : List ℕ) → IsGood (shape_of (Obj which)) 0 (surroundings_of_root which) v → repeated_fault which v ≡ None → IsWritten v payload → IsValidRootValueOfTable which v
root_good exact which v payload g once w =
    let within : exceeds_a_limit (payload_size_of v, value_count v) ≡ false = sym (exact v g.normal) ∙ ap is_some w.none in
    let limits = or_parts _ _ within in
    record {
      normal = g.normal;
      shaped = g.shaped;
      fits = ltb-false MOST_BYTES (payload_size_of v) limits.0;
      few = ltb-false MOST_VALUES (value_count v) limits.1;
      texts = g.kept;
      once = once;
    }
