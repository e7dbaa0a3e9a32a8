-- The values of sound packages, and of their entries.
use Rattle.std.proofs.Common.{ℕ, ◌+◌, ◌-◌, Bool, true, false, List, [], length, take, drop, Option, Some, None, Result, Ok, Err, arith}
use Rattle.std.specs.Prelude.{All, nat_lt, if◌then◌else◌, ◌||◌, ◌==◌}
use Rattle.std.proofs.lemmas.List.Elements.{All-take, All-drop}
use Rattle.base_core.specs.declared.cause.Cause.{Cause}
use Rattle.adb_block.specs.declared.block.BlockKind.{BlockKind}
use Rattle.adb_block.specs.Framing.{HeadFields, NextBlockResult, ended, failed, block, next_block_result_by_raw_size, next_block_result_by_kind_order, next_block_result_by_header, next_block_result_at_file_end, next_block_result_at_offset, block_head_fields, kind_of_number}
use Rattle.adb_block.specs.BlockWithoutOffset.{BlockWithoutOffset, may_be_next_kind, least_payload_len, padding_of}
use Rattle.adb_block.specs.Header.{schema_of_header}
use Rattle.adb_block.specs.Reading.{Reading, block_stream_with_rest_by_padded_size, bounded_block_stream_from_offset, block_stream_from}
use Rattle.pkg_core.specs.adb_schema.Soundness.{first_block_payload, payload_by_header_schema_or_fault, payload_in}

-- ---- the payload is a part of the file

abbrev pub PieceAll : (ℕ → Type 0) → NextBlockResult → Type 0
PieceAll P ended = Unit {0}
PieceAll P (failed c) = Unit {0}
PieceAll P (block b size) = All P b.payload

module _ (P : ℕ → Type 0) where
  if_step : (b : Bool) (s t : NextBlockResult) → PieceAll P s → PieceAll P t → PieceAll P (if b then s else t)
  if_step true s t h g = h
  if_step false s t h g = g

  sized_all : (at : ℕ) (bytes : List ℕ) (head : HeadFields) (kind : BlockKind) → All P bytes → PieceAll P (next_block_result_by_raw_size at bytes head kind)
  sized_all at bytes head kind h =
      if_step (nat_lt head.raw head.len || nat_lt (length bytes) head.raw) _ _ tt
      (if_step (nat_lt (head.raw - head.len) (least_payload_len kind)) _ (block (record { kind = kind; payload = take (head.raw - head.len) (drop head.len bytes) }) (head.raw + padding_of head.raw)) tt
      (All-take P (head.raw - head.len) (drop head.len bytes) (All-drop P head.len bytes h)))

  ordered_all : (last : Option BlockKind) (at : ℕ) (bytes : List ℕ) (head : HeadFields) (kind : Option BlockKind) → All P bytes → PieceAll P (next_block_result_by_kind_order last at bytes head kind)
  ordered_all last at bytes head None h = tt
  ordered_all last at bytes head (Some kind) h = if_step (may_be_next_kind last kind) _ _ (sized_all at bytes head kind h) tt

  headed_all : (last : Option BlockKind) (at : ℕ) (bytes : List ℕ) (head : Option HeadFields) → All P bytes → PieceAll P (next_block_result_by_header last at bytes head)
  headed_all last at bytes None h = tt
  headed_all last at bytes (Some head) h = ordered_all last at bytes head (kind_of_number head.kind) h

  at_end_all : (last : Option BlockKind) (at : ℕ) → PieceAll P (next_block_result_at_file_end last at)
  at_end_all None at = tt
  at_end_all (Some kind) at = tt

  step_all : (last : Option BlockKind) (at : ℕ) (bytes : List ℕ) → All P bytes → PieceAll P (next_block_result_at_offset last at bytes)
  unfolding next_block_result_at_offset
  step_all last at bytes h = if_step (length bytes == 0) _ _ (at_end_all last at) (headed_all last at bytes (block_head_fields bytes) h)

  nothing : All P []
  nothing = λ k d h. absurd (omega arith)

  stepped_all : (at : ℕ) (f : BlockWithoutOffset → ℕ → Reading) (s : NextBlockResult) → PieceAll P s → All P (first_block_payload (block_stream_with_rest_by_padded_size at f s))
  stepped_all at f ended h = nothing
  stepped_all at f (failed c) h = nothing
  stepped_all at f (block b size) h = h

  after_all : (file : List ℕ) (header : Result ℕ Cause) → All P file → All P (payload_by_header_schema_or_fault file header)
  unfolding block_stream_from bounded_block_stream_from_offset
  after_all file (Ok schema) h = stepped_all _ _ _ (step_all None 8 (drop 8 file) (All-drop P 8 file h))
  after_all file (Err c) h = nothing

  pub payload_all : (file : List ℕ) → All P file → All P (payload_in file)
  unfolding payload_in
  payload_all file h = after_all file (schema_of_header file) h
