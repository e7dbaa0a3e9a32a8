-- How long a container is, against the contents in it.
use Rattle.std.proofs.Common.{◌≡◌, ℕ, ◌+◌, ◌^◌, ◌<◌, ◌≤◌, Bool, true, false, ltb, if◌then◌else◌, List, [], ◌∷◌, ◌++◌, length, map, codes, replicate, ap, ◌∙◌, arith}
use Rattle.std.specs.Int.{w32, to_le_bytes}
use Rattle.std.specs.List.{flat_map}
use Rattle.std.proofs.lemmas.List.{length-append}
use Rattle.std.proofs.lemmas.List.Concat.{flat_map-cons}
use Rattle.adb_block.specs.BlockWithoutOffset.{BlockWithoutOffset, padding_of}
use Rattle.adb_block.specs.Written.{block_bytes, head_bytes, long_head_bytes, short_head_bytes}
use Rattle.adb_block.specs.declared.block.BlockKind.{BlockKind}
use Rattle.adb_view.specs.Plain.{Plain}
use Rattle.adb_write.specs.Canonical.{canonical}
use Rattle.adb_write.specs.File.{adb_block_of_payload}
use Rattle.pkg_core.specs.Contents.{Contents}
use Rattle.adb_sound.specs.Contents.{total_size_of_file_contents}
use Rattle.adb_sound.specs.Container.{contents_payload, block_of_contents, container_of_value_and_contents}

-- each block's size fits in its header
abbrev pub AreShort : List Contents → Type 0
AreShort [] = Unit {0}
AreShort (c ∷ cs) = (length c.bytes + 24 < 2 ^ 64) × AreShort cs

head_long : (kind : BlockKind) (len : ℕ) → 4 ≤ length (head_bytes kind len)
unfolding head_bytes
head_long kind len = by_size (ltb (4 + len) (2 ^ 30))
  where
    by_size : (b : Bool) → 4 ≤ length (if b then short_head_bytes kind len else long_head_bytes kind len)
    by_size true = omega arith
    by_size false = omega arith

block_long : (b : BlockWithoutOffset) → 4 + length b.payload ≤ length (block_bytes b)
block_long b =
    let head : List ℕ = head_bytes b.kind (length b.payload) in
    let pad : List ℕ = replicate (padding_of (length head + length b.payload)) 0 in
    omega (arith, head_long b.kind (length b.payload), length-append head (b.payload ++ pad), length-append b.payload pad)

contents_long : (c : Contents) → length (contents_payload c) ≡ 8 + length c.bytes
contents_long c = omega (arith, length-append (to_le_bytes w32 c.folder) (to_le_bytes w32 c.file ++ c.bytes), length-append (to_le_bytes w32 c.file) c.bytes)

abbrev laid_blocks : List Contents → List ℕ
laid_blocks cs = flat_map block_bytes (map block_of_contents cs)

blocks_cons : (c : Contents) (cs : List Contents) → length (laid_blocks (c ∷ cs)) ≡ length (block_bytes (block_of_contents c)) + length (laid_blocks cs)
blocks_cons c cs = ap length (flat_map-cons block_bytes (block_of_contents c) (map block_of_contents cs)) ∙ length-append (block_bytes (block_of_contents c)) (laid_blocks cs)

pub total_held : (cs : List Contents) → total_size_of_file_contents cs ≤ length (laid_blocks cs)
total_held [] = omega arith
total_held (c ∷ cs) = omega (arith, blocks_cons c cs, block_long (block_of_contents c), contents_long c, total_held cs)

short_held : (cs : List Contents) → length (laid_blocks cs) + 12 < 2 ^ 64 → AreShort cs
short_held [] h = tt
short_held (c ∷ cs) h =
    let more = blocks_cons c cs in
    let this = block_long (block_of_contents c) in
    let long = contents_long c in
    (omega arith, short_held cs (omega arith))

laid_long : (schema : ℕ) (v : Plain) (cs : List Contents) → 12 + length (laid_blocks cs) ≤ length (container_of_value_and_contents schema v cs)
laid_long schema v cs =
    let blocks : List ℕ = flat_map block_bytes (adb_block_of_payload (canonical v) ∷ map block_of_contents cs) in
    let split = ap length (flat_map-cons block_bytes (adb_block_of_payload (canonical v)) (map block_of_contents cs)) in
    let parts = length-append (block_bytes (adb_block_of_payload (canonical v))) (laid_blocks cs) in
    omega (arith, length-append (codes "ADB.") (to_le_bytes w32 schema ++ blocks), length-append (to_le_bytes w32 schema) blocks, split, parts, block_long (adb_block_of_payload (canonical v)))

pub laid_short : (schema : ℕ) (v : Plain) (cs : List Contents) → length (container_of_value_and_contents schema v cs) < 2 ^ 64 → AreShort cs
laid_short schema v cs h = short_held cs (omega (arith, laid_long schema v cs))

pub laid_total : (schema : ℕ) (v : Plain) (cs : List Contents) → length (container_of_value_and_contents schema v cs) < 2 ^ 64 → total_size_of_file_contents cs < 2 ^ 64
laid_total schema v cs h = omega (arith, laid_long schema v cs, total_held cs)
