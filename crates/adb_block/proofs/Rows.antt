-- The definitions at small files, by computation.
use Rattle.std.proofs.Common.{◌≡◌, ℕ, List, [], ◌∷◌, ◌++◌, take, Some, None, Ok, Err, refl}
use Rattle.std.specs.Prelude.{codes, slice_set}
use Rattle.base_core.specs.declared.Cause.TheVariants.{NotAdb, Compressed, Truncated, BlockOrder}
use Rattle.adb_block.specs.Container.{IsContainerWithBlocks}
use Rattle.adb_block.specs.BlockWithoutOffset.{BlockWithoutOffset}
use Rattle.adb_block.specs.Header.{schema_of_header}
use Rattle.adb_block.specs.Framing.{block_head_fields, next_block_result_at_offset}
use Rattle.adb_block.specs.PositionBetweenBlocks.{first_block_position_of_schema_and_file}
use Rattle.adb_block.specs.Reader.{reader_after_block, next_offset}
use Rattle.adb_block.specs.Reading.{fault, more, bounded_block_stream_from_offset, block_stream_from}
use Rattle.adb_block.specs.AllBlocks.{blocks_from_position, blocks_of}
use Rattle.adb_block.specs.declared.block.BlockKind.TheVariants.{Adb, Signature, Contents}
use Rattle.adb_block.proofs.WholeFiles.{read_is_spelled}

-- a package of one object with a name and a version
abbrev payload : List ℕ
payload = 0 ∷ 0 ∷ 0 ∷ 0 ∷ 24 ∷ 0 ∷ 0 ∷ 224 ∷ 1 ∷ 97 ∷ 1 ∷ 49 ∷ 3 ∷ 0 ∷ 0 ∷ 0 ∷ 8 ∷ 0 ∷ 0 ∷ 128 ∷ 10 ∷ 0 ∷ 0 ∷ 128 ∷ 2 ∷ 0 ∷ 0 ∷ 0 ∷ 12 ∷ 0 ∷ 0 ∷ 224 ∷ []

abbrev body : List ℕ
body = (36 ∷ 0 ∷ 0 ∷ 0 ∷ []) ++ (payload ++ (0 ∷ 0 ∷ 0 ∷ 0 ∷ []))

abbrev file : List ℕ
file = codes "ADB.pckg" ++ body

abbrev signature : List ℕ
signature = 8 ∷ 0 ∷ 0 ∷ 64 ∷ 1 ∷ 2 ∷ 3 ∷ 4 ∷ []

abbrev contents : List ℕ
contents = 5 ∷ 0 ∷ 0 ∷ 128 ∷ 9 ∷ []

abbrev adb : BlockWithoutOffset
adb = record { kind = Adb; payload = payload }

abbrev signed : BlockWithoutOffset
signed = record { kind = Signature; payload = 1 ∷ 2 ∷ 3 ∷ 4 ∷ [] }

abbrev content : BlockWithoutOffset
content = record { kind = Contents; payload = 9 ∷ [] }

-- ---- the header of the file

schema : schema_of_header file ≡ Ok 0x676b6370
unfolding schema_of_header
schema = refl

empty : schema_of_header [] ≡ Err (Truncated 0)
unfolding schema_of_header
empty = refl

three : schema_of_header (codes "ADX") ≡ Err (Truncated 0)
unfolding schema_of_header
three = refl

compressed : schema_of_header (codes "ADBd") ≡ Err Compressed
unfolding schema_of_header
compressed = refl

compressed_otherwise : schema_of_header (codes "ADBc") ≡ Err Compressed
unfolding schema_of_header
compressed_otherwise = refl

other : schema_of_header (codes "ADBe") ≡ Err NotAdb
unfolding schema_of_header
other = refl

seven : schema_of_header (codes "ADB.pck") ≡ Err (Truncated 0)
unfolding schema_of_header
seven = refl

-- ---- all blocks

whole : blocks_of file ≡ Ok (adb ∷ [])
unfolding schema_of_header next_block_result_at_offset block_head_fields bounded_block_stream_from_offset block_stream_from blocks_from_position blocks_of
whole = refl

whole_is_spelled : IsContainerWithBlocks file 0x676b6370 (adb ∷ [])
whole_is_spelled = read_is_spelled file 0x676b6370 (adb ∷ []) schema whole

no_padding : blocks_of (take 44 file) ≡ Ok (adb ∷ [])
unfolding schema_of_header next_block_result_at_offset block_head_fields bounded_block_stream_from_offset block_stream_from blocks_from_position blocks_of
no_padding = refl

payload_cut : blocks_of (take 43 file) ≡ Err (Truncated 8)
unfolding schema_of_header next_block_result_at_offset block_head_fields bounded_block_stream_from_offset block_stream_from blocks_from_position blocks_of
payload_cut = refl

head_cut : blocks_of (take 11 file) ≡ Err (Truncated 8)
unfolding schema_of_header next_block_result_at_offset block_head_fields bounded_block_stream_from_offset block_stream_from blocks_from_position blocks_of
head_cut = refl

header_alone : blocks_of (take 8 file) ≡ Err (Truncated 8)
unfolding schema_of_header next_block_result_at_offset block_head_fields bounded_block_stream_from_offset block_stream_from blocks_from_position blocks_of
header_alone = refl

header_cut : blocks_of (take 7 file) ≡ Err (Truncated 0)
unfolding schema_of_header next_block_result_at_offset block_head_fields bounded_block_stream_from_offset block_stream_from blocks_from_position blocks_of
header_cut = refl

raw_below_head : blocks_of (slice_set file 8 3) ≡ Err (Truncated 8)
unfolding schema_of_header next_block_result_at_offset block_head_fields bounded_block_stream_from_offset block_stream_from blocks_from_position blocks_of
raw_below_head = refl

payload_of_seven : blocks_of (slice_set file 8 11) ≡ Err (Truncated 8)
unfolding schema_of_header next_block_result_at_offset block_head_fields bounded_block_stream_from_offset block_stream_from blocks_from_position blocks_of
payload_of_seven = refl

signature_first : blocks_of (slice_set file 11 64) ≡ Err (BlockOrder 8)
unfolding schema_of_header next_block_result_at_offset block_head_fields bounded_block_stream_from_offset block_stream_from blocks_from_position blocks_of
signature_first = refl

with_signature : blocks_of (file ++ signature) ≡ Ok (adb ∷ signed ∷ [])
unfolding schema_of_header next_block_result_at_offset block_head_fields bounded_block_stream_from_offset block_stream_from blocks_from_position blocks_of
with_signature = refl

with_contents : blocks_of (file ++ (signature ++ contents)) ≡ Ok (adb ∷ signed ∷ content ∷ [])
unfolding schema_of_header next_block_result_at_offset block_head_fields bounded_block_stream_from_offset block_stream_from blocks_from_position blocks_of
with_contents = refl

-- the contents' padding precedes the signature
signature_late : blocks_of (file ++ (contents ++ ((0 ∷ 0 ∷ 0 ∷ []) ++ signature))) ≡ Err (BlockOrder 56)
unfolding schema_of_header next_block_result_at_offset block_head_fields bounded_block_stream_from_offset block_stream_from blocks_from_position blocks_of
signature_late = refl

second_adb : blocks_of (file ++ (signature ++ body)) ≡ Err (BlockOrder 56)
unfolding schema_of_header next_block_result_at_offset block_head_fields bounded_block_stream_from_offset block_stream_from blocks_from_position blocks_of
second_adb = refl

-- what was read before the failed test
second_adb_reading : block_stream_from (first_block_position_of_schema_and_file 0x676b6370 (file ++ (signature ++ body))) ≡ more adb 8 (more signed 48 (fault (BlockOrder 56)))
unfolding next_block_result_at_offset block_head_fields bounded_block_stream_from_offset block_stream_from
second_adb_reading = refl

-- ---- headers of sixteen bytes

abbrev long : ℕ → List ℕ → List ℕ
long kind size = codes "ADB.pckg" ++ ((kind ∷ 0 ∷ 0 ∷ 192 ∷ 7 ∷ 7 ∷ 7 ∷ 7 ∷ []) ++ (size ++ payload))

fields_of_long_head : blocks_of (long 0 (48 ∷ 0 ∷ 0 ∷ 0 ∷ 0 ∷ 0 ∷ 0 ∷ 0 ∷ [])) ≡ Ok (adb ∷ [])
unfolding schema_of_header next_block_result_at_offset block_head_fields bounded_block_stream_from_offset block_stream_from blocks_from_position blocks_of
fields_of_long_head = refl

long_raw_below_head : blocks_of (long 0 (15 ∷ 0 ∷ 0 ∷ 0 ∷ 0 ∷ 0 ∷ 0 ∷ 0 ∷ [])) ≡ Err (Truncated 8)
unfolding schema_of_header next_block_result_at_offset block_head_fields bounded_block_stream_from_offset block_stream_from blocks_from_position blocks_of
long_raw_below_head = refl

long_raw_most : blocks_of (long 0 (255 ∷ 255 ∷ 255 ∷ 255 ∷ 255 ∷ 255 ∷ 255 ∷ 255 ∷ [])) ≡ Err (Truncated 8)
unfolding schema_of_header next_block_result_at_offset block_head_fields bounded_block_stream_from_offset block_stream_from blocks_from_position blocks_of
long_raw_most = refl

long_type_three : blocks_of (long 3 (48 ∷ 0 ∷ 0 ∷ 0 ∷ 0 ∷ 0 ∷ 0 ∷ 0 ∷ [])) ≡ Err (BlockOrder 8)
unfolding schema_of_header next_block_result_at_offset block_head_fields bounded_block_stream_from_offset block_stream_from blocks_from_position blocks_of
long_type_three = refl

-- ---- the offset of the next block

at_first : next_offset (first_block_position_of_schema_and_file 0x676b6370 file) ≡ Some 8
at_first = refl

at_none : next_offset (first_block_position_of_schema_and_file 0x676b6370 (take 8 file)) ≡ None
at_none = refl

at_second : next_offset (reader_after_block (first_block_position_of_schema_and_file 0x676b6370 (file ++ signature)) Adb 40) ≡ Some 48
at_second = refl

-- after cut padding the offset is past the file's end
at_padding : next_offset (reader_after_block (first_block_position_of_schema_and_file 0x676b6370 (take 45 file)) Adb 40) ≡ None
at_padding = refl
