-- The value of a package in which no test fails is normal, has its shape and keeps the rules.
use Rattle.std.proofs.Common.{◌≡◌, ◌↔◌, ℕ, ◌-◌, ◌<◌, Bool, true, false, if◌then◌else◌, List, drop, Option, Some, None, Result, Ok, Err, refl, subst, length, ◌≤◌}
use Rattle.std.specs.Prelude.{All, IfSome, is_some, unwrap_or}
use Rattle.std.proofs.lemmas.List.Elements.{All-drop, All-take}
use Rattle.base_core.specs.declared.cause.Cause.{Cause}
use Rattle.base_core.specs.declared.cause.Cause.TheVariants.{BlockOrder, Truncated}
use Rattle.base_core.proofs.Causes.{first_none, second_none}
use Rattle.adb_block.specs.BlockWithoutOffset.{BlockWithoutOffset, may_be_next_kind}
use Rattle.adb_block.specs.Framing.{HeadFields, NextBlockResult, ended, failed, block, block_head_fields, next_block_result_by_header, kind_of_number, next_block_result_by_kind_order, next_block_result_by_raw_size, next_block_result_at_offset}
use Rattle.adb_block.specs.Header.{schema_of_header}
use Rattle.adb_block.specs.Reading.{Reading, bounded_block_stream_from_offset, block_stream_from, block_stream_with_rest_by_padded_size}
use Rattle.adb_block.specs.declared.block.BlockKind.{BlockKind}
use Rattle.adb_view.specs.Head.{payload_head_fault, root_word_of_payload}
use Rattle.adb_view.specs.Plain.{Plain, null, IsNormal, Shape, plain_of}
use Rattle.adb_view.specs.Visits.{visits, MOST_VALUES}
use Rattle.adb_view.specs.Shaped.{HasShape}
use Rattle.adb_view.specs.Schema.{shape_of}
use Rattle.adb_view.specs.Values.{value_at}
use Rattle.adb_view.specs.Walk.{shape_fault}
use Rattle.pkg_core.specs.adb_schema.Texts.{text_or_number_fault}
use Rattle.pkg_core.specs.adb_schema.Soundness.{blocks_fault, file_fault_by_header_schema_or_fault, first_block_payload, payload_by_header_schema_or_fault, payload_fault, payload_in, root_value_of_payload, schema_fault}
use Rattle.adb_view.specs.declared.tables.Which.TheVariants.{Package}
use Rattle.adb_view.specs.declared.tables.Kind.TheVariants.{Obj}
use Rattle.pkg_core.specs.Whole.{fault_of_contents_blocks_by_root_table, package_fault, package_with_contents, container_fault_of_table}

-- what the layers below say of values that are found
pub record Values : Type 0 where
  pub normal : (payload : List ℕ) → All (λ b. b < 256) payload → (shape : Shape) (word : ℕ) → IfSome (plain_of payload shape word) IsNormal
  pub shapes : (payload : List ℕ) (shape : Shape) (word : ℕ) → IfSome (plain_of payload shape word) (HasShape shape)
  pub faultless : (payload : List ℕ) (shape : Shape) (word : ℕ) → (shape_fault payload shape word ≡ None) ↔ ((is_some (plain_of payload shape word) ≡ true) × (length (visits payload shape word) ≤ MOST_VALUES))

abbrev AreBytes : List ℕ → Type 0
AreBytes bytes = All (λ b. b < 256) bytes

-- ---- the first block holds bytes of the file

unfoldable IsFirst : NextBlockResult → Type 0
IsFirst ended = ⊥
IsFirst (failed c) = Unit {0}
IsFirst (block b size) = AreBytes b.payload

failed_first : (c : Cause) → IsFirst (failed c)
unfolding IsFirst
failed_first c = tt

block_first : (b : BlockWithoutOffset) (size : ℕ) → AreBytes b.payload → IsFirst (block b size)
unfolding IsFirst
block_first b size h = h

either : (b : Bool) (x y : NextBlockResult) → IsFirst x → IsFirst y → IsFirst (if b then x else y)
either true x y a c = a
either false x y a c = c

sized_first : (at : ℕ) (bytes : List ℕ) (head : HeadFields) (kind : BlockKind) → AreBytes bytes → IsFirst (next_block_result_by_raw_size at bytes head kind)
sized_first at bytes head kind h =
    either _ _ _ (failed_first (Truncated at)) (either _ _ _ (failed_first (Truncated at))
    (block_first _ _ (All-take (λ b. b < 256) (head.raw - head.len) (drop head.len bytes) (All-drop (λ b. b < 256) head.len bytes h))))

ordered_first : (at : ℕ) (bytes : List ℕ) (head : HeadFields) (kind : Option BlockKind) → AreBytes bytes → IsFirst (next_block_result_by_kind_order None at bytes head kind)
ordered_first at bytes head None h = failed_first (BlockOrder at)
ordered_first at bytes head (Some kind) h = either (may_be_next_kind None kind) _ _ (sized_first at bytes head kind h) (failed_first (BlockOrder at))

headed_first : (at : ℕ) (bytes : List ℕ) (head : Option HeadFields) → AreBytes bytes → IsFirst (next_block_result_by_header None at bytes head)
headed_first at bytes None h = failed_first (Truncated at)
headed_first at bytes (Some head) h = ordered_first at bytes head (kind_of_number head.kind) h

step_first : (at : ℕ) (bytes : List ℕ) → AreBytes bytes → IsFirst (next_block_result_at_offset None at bytes)
unfolding next_block_result_at_offset
step_first at bytes h = either _ _ _ (failed_first (Truncated at)) (headed_first at bytes (block_head_fields bytes) h)

-- ---- so its payload is good

abbrev IsPayload : List ℕ → Type 0
IsPayload payload = AreBytes payload × (payload_fault Package payload ≡ None)

first_passed : (at : ℕ) (further : BlockWithoutOffset → ℕ → Reading) (s : NextBlockResult) → IsFirst s → blocks_fault (fault_of_contents_blocks_by_root_table Package) Package (block_stream_with_rest_by_padded_size at further s) ≡ None → IsPayload (first_block_payload (block_stream_with_rest_by_padded_size at further s))
unfolding IsFirst
first_passed at further ended f h = absurd f
first_passed at further (failed c) f h = absurd cc
first_passed at further (block b size) f h = (f, first_none (payload_fault Package b.payload) _ h)

header_passed : (file : List ℕ) (h : Result ℕ Cause) → AreBytes file → file_fault_by_header_schema_or_fault (fault_of_contents_blocks_by_root_table Package) Package file h ≡ None → IsPayload (payload_by_header_schema_or_fault file h)
unfolding block_stream_from bounded_block_stream_from_offset
header_passed file (Ok schema) bytes e =
    first_passed 8 _ (next_block_result_at_offset None 8 (drop 8 file)) (step_first 8 (drop 8 file) (All-drop (λ b. b < 256) 8 file bytes)) (second_none (schema_fault Package schema) _ e)
header_passed file (Err c) bytes e = absurd cc

passed : (file : List ℕ) → AreBytes file → package_fault file ≡ None → IsPayload (payload_in file)
unfolding container_fault_of_table payload_in
passed file bytes e = header_passed file (schema_of_header file) bytes e

-- ---- and its value

pub record IsOpened (v : Plain) : Type 0 where
  pub normal : IsNormal v
  pub shaped : HasShape (shape_of (Obj Package)) v
  pub kept : text_or_number_fault Package v ≡ None

some_is : (o : Option Plain) → is_some o ≡ true → o ≡ Some (unwrap_or o null)
some_is (Some v) e = refl
some_is None e = absurd cc

value_opened : Values → (payload : List ℕ) → IsPayload payload → IsOpened (root_value_of_payload Package payload)
unfolding value_at
value_opened laws payload p =
    let shape = second_none (payload_head_fault payload) _ p.1 in
    let texts = second_none (shape_fault payload (shape_of (Obj Package)) (root_word_of_payload payload)) _ shape in
    let found = (laws.faultless payload (shape_of (Obj Package)) (root_word_of_payload payload)).0 (first_none _ _ shape) in
    let is = some_is (plain_of payload (shape_of (Obj Package)) (root_word_of_payload payload)) found.0 in
    record {
      normal = subst (λ (o : Option Plain). IfSome o IsNormal) is (laws.normal payload p.0 (shape_of (Obj Package)) (root_word_of_payload payload));
      shaped = subst (λ (o : Option Plain). IfSome o (HasShape (shape_of (Obj Package)))) is (laws.shapes payload (shape_of (Obj Package)) (root_word_of_payload payload));
      kept = first_none _ _ texts;
    }

pub opened : Values → (file : List ℕ) → AreBytes file → package_fault file ≡ None → IsOpened (package_with_contents file).value
opened laws file bytes e = value_opened laws (payload_in file) (passed file bytes e)
