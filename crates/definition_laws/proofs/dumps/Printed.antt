-- The container of a value is printed as the value's text.
use Rattle.std.proofs.Common.{◌≡◌, ◌≢◌, ℕ, ◌+◌, ◌^◌, ◌<◌, ◌≤◌, ◌↔◌, Bool, true, false, ltb, List, [], ◌∷◌, length, Option, Some, None, Result, Ok, Err, refl, ap, sym, subst, ◌∙◌, arith, lit<}
use Rattle.std.specs.Prelude.{is_some, ◌||◌, IsSome, unwrap_or}
use Rattle.std.specs.Option.{option_or}
use Rattle.std.proofs.lemmas.Bool.{le-ltb, ltb-false}
use Rattle.base_core.specs.declared.cause.Cause.{Cause}
use Rattle.base_core.proofs.Causes.{none_both}
use Rattle.adb_block.specs.BlockWithoutOffset.{BlockWithoutOffset}
use Rattle.adb_block.specs.Header.{schema_of_header}
use Rattle.adb_block.specs.PositionBetweenBlocks.{first_block_position_of_schema_and_file}
use Rattle.adb_block.specs.Reading.{Reading, done, more, block_stream_from}
use Rattle.adb_view.specs.Plain.{Plain, null, IsNormal}
use Rattle.adb_view.specs.Head.{payload_head_fault, root_word_of_payload}
use Rattle.adb_view.specs.Shaped.{HasShape}
use Rattle.adb_view.specs.Schema.{shape_of}
use Rattle.adb_view.specs.Values.{value_at}
use Rattle.adb_view.specs.Walk.{shape_fault}
use Rattle.adb_view.specs.Visits.{MOST_VALUES}
use Rattle.adb_view.specs.declared.tables.Which.{Which}
use Rattle.adb_view.specs.declared.tables.Kind.TheVariants.{Obj}
use Rattle.outcome.specs.adb_schema.Soundness.{first_block_payload, root_value_of_payload, header_schema_if_root_table}
use Rattle.outcome.specs.adb_write.Canonical.{Layout, MOST_BYTES, canonical, empty_layout_counting_root, exceeds_a_limit, counts_at_first_overflow, payload_with_root_word_in_head, write, payload_or_counts_at_overflow}
use Rattle.outcome.specs.adb_write.Size.{payload_size_of, value_count}
use Rattle.outcome.specs.adb_write.File.{adb_block_of_payload, file_of}
use Rattle.outcome.specs.pkg_core.Whole.{table_of_schema}
use Rattle.outcome.proofs.adb_sound.ContentsBlocks.{contents_stand, first_of, none_of_blocks}
use Rattle.outcome.proofs.adb_sound.Lower.{Lower}
use Rattle.outcome.proofs.adb_sound.Payloads.{payload_long}
use Rattle.outcome.proofs.make_core.Roots.{written}
use Rattle.outcome.proofs.adb_sound.SoundFiles.{IsWord, reading_is, word_is}
use Rattle.outcome.specs.adb_dump.Dump.{dump_text}
use Rattle.outcome.specs.Dump.{dump_fault_of_blocks, dump_of, dump_of_first_block_unless_fault_of_blocks, dump_by_schema_number_and_table_if_any, dump_by_schema_unless_header_fault, payload_head_or_shape_fault, framing_fault_of_blocks, text_unless_fault}

-- a value within both limits, of a table
pub record HasNamesAmong (which : Which) (v : Plain) : Type 0 where
  pub normal : IsNormal v
  pub shaped : HasShape (shape_of (Obj which)) v
  pub fits : payload_size_of v ≤ MOST_BYTES
  pub few : value_count v ≤ MOST_VALUES

-- ---- what is written is within the limits

-- what the layer below says of a value that overflows
abbrev pub Overflows : Type 0
Overflows = (v : Plain) → IsNormal v → is_some (counts_at_first_overflow v) ≡ exceeds_a_limit (payload_size_of v, value_count v)

neither : (a b : Bool) → false ≡ (a || b) → (a ≡ false) × (b ≡ false)
neither true b e = absurd cc
neither false b e = (refl, sym e)

pub within : Overflows → (which : Which) (v : Plain) (payload : List ℕ) → IsNormal v → HasShape (shape_of (Obj which)) v → payload_or_counts_at_overflow v ≡ Ok payload → HasNamesAmong which v × (canonical v ≡ payload)
within law which v payload n h e =
    let w = written v payload e in
    let passed = sym (ap is_some w.none) ∙ law v n in
    let t = neither (ltb MOST_BYTES (payload_size_of v)) (ltb MOST_VALUES (value_count v)) passed in
    (record { normal = n; shaped = h; fits = ltb-false _ _ t.0; few = ltb-false _ _ t.1 }, w.is)

-- ---- the payload

head_good : (root : ℕ) (out : Layout) → payload_head_fault (payload_with_root_word_in_head root out) ≡ None
head_good root out = let t : ltb (length (payload_with_root_word_in_head root out)) 8 ≡ false = le-ltb _ _ (payload_long root out) in rw t refl

shape_good : Lower → (which : Which) (v : Plain) → HasNamesAmong which v → shape_fault (canonical v) (shape_of (Obj which)) (root_word_of_payload (canonical v)) ≡ None
shape_good laws which v g =
    let visits_are = laws.visited (shape_of (Obj which)) v g.normal g.shaped g.fits in
    let few = g.few in
    (laws.faultless (canonical v) (shape_of (Obj which)) (root_word_of_payload (canonical v))).1
    (ap is_some (laws.back (shape_of (Obj which)) v g.normal g.shaped g.fits), omega arith)

form_good : Lower → (which : Which) (v : Plain) → HasNamesAmong which v → payload_head_or_shape_fault which (canonical v) ≡ None
form_good laws which v g = none_both _ _ (head_good (write v empty_layout_counting_root).0 (write v empty_layout_counting_root).1) (shape_good laws which v g)

value_is : Lower → (which : Which) (v : Plain) → HasNamesAmong which v → root_value_of_payload which (canonical v) ≡ v
unfolding value_at
value_is laws which v g = ap (λ (o : Option Plain). unwrap_or o null) (laws.back (shape_of (Obj which)) v g.normal g.shaped g.fits)

-- ---- the file

blocks_printed : Lower → (which : Which) (v : Plain) → HasNamesAmong which v → (r : Reading) (at : ℕ) → r ≡ more (adb_block_of_payload (canonical v)) at done → dump_of_first_block_unless_fault_of_blocks which r ≡ Ok (dump_text which v)
blocks_printed laws which v g r at is =
    ap (dump_of_first_block_unless_fault_of_blocks which) is
    ∙ ap (λ (o : Option Cause). text_unless_fault o (dump_text which (root_value_of_payload which (canonical v)))) (none_both _ _ (form_good laws which v g) refl)
    ∙ ap (λ (u : Plain). let text : Result (List ℕ) Cause = Ok (dump_text which u) in text) (value_is laws which v g)

pub printed : Lower → (which : Which) (schema : ℕ) (v : Plain) → header_schema_if_root_table which ≡ Some schema → HasNamesAmong which v → dump_of (file_of schema (canonical v)) ≡ Ok (dump_text which v)
unfolding dump_of
printed laws which schema v word g =
    let w = word_is which schema word in
    let file : List ℕ = file_of schema (canonical v) in
    let pieces : List BlockWithoutOffset = adb_block_of_payload (canonical v) ∷ [] in
    let long = payload_long (write v empty_layout_counting_root).0 (write v empty_layout_counting_root).1 in
    let fits = g.fits in
    let spelled = laws.written schema pieces w.small (record { order = refl; long = long }, omega arith, contents_stand [] tt) in
    let read = laws.read file schema pieces spelled in
    let first = first_of (block_stream_from (first_block_position_of_schema_and_file schema file)) (adb_block_of_payload (canonical v)) [] (reading_is file schema pieces read.0 read.1) in
    let alone : block_stream_from (first_block_position_of_schema_and_file schema file) ≡ more (adb_block_of_payload (canonical v)) first.at done = first.is ∙ ap (λ (r : Reading). more (adb_block_of_payload (canonical v)) first.at r) (none_of_blocks first.later first.others) in
    ap (dump_by_schema_unless_header_fault file) read.0
    ∙ ap (dump_by_schema_number_and_table_if_any schema (block_stream_from (first_block_position_of_schema_and_file schema file))) w.root
    ∙ blocks_printed laws which v g (block_stream_from (first_block_position_of_schema_and_file schema file)) first.at alone
