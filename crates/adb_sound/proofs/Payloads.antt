-- No test of the payload of a good value fails.
use Rattle.std.proofs.Common.{◌≡◌, ℕ, ◌≤◌, false, ltb, length, Option, None, refl, ap, ◌∙◌, arith}
use Rattle.std.specs.Prelude.{is_some, unwrap_or}
use Rattle.std.specs.Int.{w32, to_le_bytes}
use Rattle.std.proofs.lemmas.Bool.{le-ltb}
use Rattle.std.proofs.lemmas.List.{length-append}
use Rattle.base_core.proofs.Causes.{none_both}
use Rattle.adb_view.specs.Head.{payload_head_fault, root_word_of_payload}
use Rattle.adb_view.specs.Plain.{Plain, null}
use Rattle.adb_view.specs.Schema.{shape_of}
use Rattle.adb_view.specs.Values.{value_at}
use Rattle.adb_view.specs.Walk.{shape_fault}
use Rattle.pkg_core.specs.adb_schema.Texts.{text_or_number_fault}
use Rattle.pkg_core.specs.adb_fields.Repeated.{repeated_fault}
use Rattle.pkg_core.specs.adb_schema.Soundness.{payload_fault, root_value_of_payload}
use Rattle.adb_view.specs.declared.tables.Which.{Which}
use Rattle.adb_view.specs.declared.tables.Kind.TheVariants.{Obj}
use Rattle.adb_write.specs.Canonical.{canonical, payload_with_root_word_in_head, Layout, empty_layout_counting_root, write}
use Rattle.adb_sound.specs.Root.{IsValidRootValueOfTable}
use Rattle.adb_sound.proofs.Lower.{Lower}

pub payload_long : (root : ℕ) (out : Layout) → 8 ≤ length (payload_with_root_word_in_head root out)
payload_long root out = omega (arith, length-append (to_le_bytes w32 root) out.body)

head_good : (root : ℕ) (out : Layout) → payload_head_fault (payload_with_root_word_in_head root out) ≡ None
head_good root out =
    let t : ltb (length (payload_with_root_word_in_head root out)) 8 ≡ false = le-ltb _ _ (payload_long root out) in
    rw t refl

shape_good : Lower → (which : Which) (v : Plain) → IsValidRootValueOfTable which v → shape_fault (canonical v) (shape_of (Obj which)) (root_word_of_payload (canonical v)) ≡ None
shape_good laws which v g =
    let visits_are = laws.visited (shape_of (Obj which)) v g.normal g.shaped g.fits in
    let few = g.few in
    (laws.faultless (canonical v) (shape_of (Obj which)) (root_word_of_payload (canonical v))).1
    (ap is_some (laws.back (shape_of (Obj which)) v g.normal g.shaped g.fits), omega arith)

pub value_is : Lower → (which : Which) (v : Plain) → IsValidRootValueOfTable which v → root_value_of_payload which (canonical v) ≡ v
unfolding value_at
value_is laws which v g = ap (λ (o : Option Plain). unwrap_or o null) (laws.back (shape_of (Obj which)) v g.normal g.shaped g.fits)

pub payload_good : Lower → (which : Which) (v : Plain) → IsValidRootValueOfTable which v → payload_fault which (canonical v) ≡ None
payload_good laws which v g =
    none_both _ _ (head_good (write v empty_layout_counting_root).0 (write v empty_layout_counting_root).1)
    (none_both _ _ (shape_good laws which v g)
    (none_both _ _ (ap (text_or_number_fault which) (value_is laws which v g) ∙ g.texts) (ap (repeated_fault which) (value_is laws which v g) ∙ g.once)))
