-- A file without fault holds a sound value.
use Rattle.std.proofs.Common.{◌≡◌, ℕ, Bool, true, false, List, drop, length, Option, Some, None, Result, Ok, Err, refl, ◌↔◌, ◌≤◌}
use Rattle.std.specs.Prelude.{if◌then◌else◌, nat_lt, ◌||◌, ◌-◌, ◌==◌, is_some, is_none, unwrap_or, IfSome}
use Rattle.base_core.specs.declared.cause.Cause.{Cause}
use Rattle.base_core.proofs.Causes.{first_none, second_none}
use Rattle.adb_block.specs.declared.block.BlockKind.{BlockKind}
use Rattle.adb_block.specs.Framing.{HeadFields, NextBlockResult, ended, failed, block, next_block_result_by_raw_size, next_block_result_by_kind_order, next_block_result_by_header, next_block_result_at_offset, block_head_fields, kind_of_number}
use Rattle.adb_block.specs.BlockWithoutOffset.{BlockWithoutOffset, may_be_next_kind, least_payload_len}
use Rattle.adb_block.specs.Header.{schema_of_header}
use Rattle.adb_block.specs.PositionBetweenBlocks.{first_block_position_of_schema_and_file}
use Rattle.adb_block.specs.Reading.{Reading, done, fault, more as further, block_stream_with_rest_by_padded_size, bounded_block_stream_from_offset, block_stream_from}
use Rattle.adb_view.specs.Head.{payload_head_fault, root_word_of_payload}
use Rattle.adb_view.specs.Plain.{Plain, null, Shape, plain_of, IsNormal}
use Rattle.adb_view.specs.Shaped.{HasShape}
use Rattle.adb_view.specs.Visits.{visits, MOST_VALUES}
use Rattle.adb_view.specs.Schema.{shape_of}
use Rattle.adb_view.specs.Walk.{shape_fault}
use Rattle.adb_view.specs.Values.{value_at}
use Rattle.adb_view.specs.declared.tables.Which.{Which}
use Rattle.adb_view.specs.declared.tables.Kind.TheVariants as Kinds
use Rattle.adb_fields.specs.Once.{HasNoForbiddenRepeatedName}
use Rattle.adb_fields.specs.Repeated.{repeated_fault}
use Rattle.adb_schema.specs.Texts.{text_or_number_fault}
use Rattle.adb_schema.specs.SoundValues.{ObeysTextAndNumberRulesOfTable}
use Rattle.adb_schema.specs.Soundness.{blocks_fault, file_fault_by_header_schema_or_fault, container_fault_except_contents, first_block_payload, payload_by_header_schema_or_fault, payload_fault, payload_in, remaining_blocks_fault_unless_package, root_value_of_payload, schema_fault}
use Rattle.adb_schema.specs.SoundContainers.{IsSoundValue}

-- ---- the first of two tests

some_none : (c : Cause) → Some c ≡ None → ⊥
some_none c e = absurd (cc)

-- ---- the first block of a file without fault

abbrev pub IsReadAt : Which → Reading → Type 0
IsReadAt which done = ⊥
IsReadAt which (fault c) = ⊥
IsReadAt which (further b at r) = payload_fault which b.payload ≡ None

-- before the first block nothing ends
abbrev pub CountsOnlyRise : NextBlockResult → Type 0
CountsOnlyRise ended = ⊥
CountsOnlyRise (failed c) = Unit {0}
CountsOnlyRise (block b size) = Unit {0}

if_on : (b : Bool) (s t : NextBlockResult) → CountsOnlyRise s → CountsOnlyRise t → CountsOnlyRise (if b then s else t)
if_on true s t h g = h
if_on false s t h g = g

ordered_on : (last : Option BlockKind) (at : ℕ) (bytes : List ℕ) (head : HeadFields) (kind : Option BlockKind) → CountsOnlyRise (next_block_result_by_kind_order last at bytes head kind)
ordered_on last at bytes head None = tt
ordered_on last at bytes head (Some kind) =
    if_on (may_be_next_kind last kind) (next_block_result_by_raw_size at bytes head kind) (failed _)
    (if_on (nat_lt head.raw head.len || nat_lt (length bytes) head.raw) (failed _) (if nat_lt (head.raw - head.len) (least_payload_len kind) then failed _ else block _ _) tt (if_on (nat_lt (head.raw - head.len) (least_payload_len kind)) (failed _) (block _ _) tt tt)) tt

headed_on : (last : Option BlockKind) (at : ℕ) (bytes : List ℕ) (head : Option HeadFields) → CountsOnlyRise (next_block_result_by_header last at bytes head)
headed_on last at bytes None = tt
headed_on last at bytes (Some head) = ordered_on last at bytes head (kind_of_number head.kind)

step_on : (at : ℕ) (bytes : List ℕ) → CountsOnlyRise (next_block_result_at_offset None at bytes)
unfolding next_block_result_at_offset
step_on at bytes = if_on (length bytes == 0) _ _ tt (headed_on None at bytes (block_head_fields bytes))

stepped_read : (which : Which) (rest : Plain → Reading → Option Cause) (at : ℕ) (f : BlockWithoutOffset → ℕ → Reading) (s : NextBlockResult) → CountsOnlyRise s → blocks_fault rest which (block_stream_with_rest_by_padded_size at f s) ≡ None → IsReadAt which (block_stream_with_rest_by_padded_size at f s)
stepped_read which rest at f ended g h = absurd g
stepped_read which rest at f (failed c) g h = some_none c h
stepped_read which rest at f (block b size) g h = first_none (payload_fault which b.payload) _ h

read_payload : (which : Which) (r : Reading) → IsReadAt which r → payload_fault which (first_block_payload r) ≡ None
read_payload which done h = absurd h
read_payload which (fault c) h = absurd h
read_payload which (further b at r) h = h

file_payload : (rest : Plain → Reading → Option Cause) (which : Which) (file : List ℕ) (header : Result ℕ Cause) → file_fault_by_header_schema_or_fault rest which file header ≡ None → payload_fault which (payload_by_header_schema_or_fault file header) ≡ None
unfolding block_stream_from bounded_block_stream_from_offset
file_payload rest which file (Err c) h = absurd (some_none c h)
file_payload rest which file (Ok schema) h =
    read_payload which (block_stream_from (first_block_position_of_schema_and_file schema file)) (stepped_read which rest _ _ (next_block_result_at_offset None 8 (drop 8 file)) (step_on 8 (drop 8 file)) (second_none (schema_fault which schema) _ h))

pub sound_payload : (which : Which) (file : List ℕ) → container_fault_except_contents which file ≡ None → payload_fault which (payload_in file) ≡ None
unfolding container_fault_except_contents payload_in
sound_payload which file h = file_payload (λ v r. remaining_blocks_fault_unless_package which r) which file (schema_of_header file) h

-- ---- its value

-- what the laws of the crates below say
pub record Laws : Type 1 where
  pub visited : (p : List ℕ) (s : Shape) (w : ℕ) → (shape_fault p s w ≡ None) ↔ ((is_some (plain_of p s w) ≡ true) × (length (visits p s w) ≤ MOST_VALUES))
  pub shaped : (p : List ℕ) (s : Shape) (w : ℕ) → IfSome (plain_of p s w) (HasShape s)
  pub kept : (which : Which) (v : Plain) → (text_or_number_fault which v ≡ None) ↔ ObeysTextAndNumberRulesOfTable which v
  pub once : (which : Which) (v : Plain) → (repeated_fault which v ≡ None) ↔ HasNoForbiddenRepeatedName which v

found : (P : Plain → Type 0) (o : Option Plain) → is_some o ≡ true → IfSome o P → P (unwrap_or o null)
found P (Some v) e h = h
found P None e h = absurd (cc)

value_has : (P : Plain → Type 0) (p : List ℕ) (which : Which) → is_some (plain_of p (shape_of (Kinds.Obj which)) (root_word_of_payload p)) ≡ true → IfSome (plain_of p (shape_of (Kinds.Obj which)) (root_word_of_payload p)) P → P (root_value_of_payload which p)
unfolding value_at
value_has P p which e h = found P (plain_of p (shape_of (Kinds.Obj which)) (root_word_of_payload p)) e h

pub is_found : Laws → (which : Which) (p : List ℕ) → payload_fault which p ≡ None → is_some (plain_of p (shape_of (Kinds.Obj which)) (root_word_of_payload p)) ≡ true
is_found laws which p h =
    ((laws.visited p (shape_of (Kinds.Obj which)) (root_word_of_payload p)).0
    (first_none (shape_fault p (shape_of (Kinds.Obj which)) (root_word_of_payload p)) _ (second_none (payload_head_fault p) _ h))).0

pub sound_value : Laws → (which : Which) (p : List ℕ) → payload_fault which p ≡ None → IsSoundValue which (root_value_of_payload which p)
sound_value laws which p h =
    let texts = second_none (shape_fault p (shape_of (Kinds.Obj which)) (root_word_of_payload p)) _ (second_none (payload_head_fault p) _ h) in
    record {
      shape = value_has (HasShape (shape_of (Kinds.Obj which))) p which (is_found laws which p h) (laws.shaped p (shape_of (Kinds.Obj which)) (root_word_of_payload p));
      rules = (laws.kept which (root_value_of_payload which p)).0 (first_none (text_or_number_fault which (root_value_of_payload which p)) (repeated_fault which (root_value_of_payload which p)) texts);
      once = (laws.once which (root_value_of_payload which p)).0 (second_none (text_or_number_fault which (root_value_of_payload which p)) (repeated_fault which (root_value_of_payload which p)) texts);
    }

pub normal_value : Laws → (which : Which) (p : List ℕ) → payload_fault which p ≡ None → IfSome (plain_of p (shape_of (Kinds.Obj which)) (root_word_of_payload p)) IsNormal → IsNormal (root_value_of_payload which p)
normal_value laws which p h n = value_has IsNormal p which (is_found laws which p h) n

-- ---- of a payload that was checked

pub is_kept : ((which : Which) (v : Plain) → (text_or_number_fault which v ≡ None) ↔ ObeysTextAndNumberRulesOfTable which v) → (which : Which) (v : Plain) → is_none (text_or_number_fault which v) ≡ true → ObeysTextAndNumberRulesOfTable which v
is_kept law which v h = (law which v).0 (is_none_of (text_or_number_fault which v) h)
  where
    is_none_of : (o : Option Cause) → is_none o ≡ true → o ≡ None
    is_none_of None h = refl
    is_none_of (Some c) h = absurd (cc)
