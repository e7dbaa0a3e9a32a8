-- The header of a file, and all of its blocks.
use Rattle.std.proofs.Common.{◌≡◌, ℕ, suc, ◌≤◌, false, not, ltb, List, ◌++◌, length, take, drop, None, Result, Ok, Err, refl, sym, ap, ◌∙◌, arith, codes}
use Rattle.std.specs.Int.{w32, from_le_bytes}
use Rattle.std.specs.Str.{bytes_eq}
use Rattle.std.proofs.lemmas.Bool.{ltb-false, le-ltb, not-false}
use Rattle.std.proofs.lemmas.List.{take_at, drop_at, take-append-drop, drop-drop, length-append, length-take, length-drop}
use Rattle.std.proofs.lemmas.Slice.Eq.{bytes_eq-Decides}
use Rattle.base_core.specs.declared.Cause.{Cause}
use Rattle.base_core.specs.declared.Cause.TheVariants.{NotAdb, Compressed, Truncated}
use Rattle.adb_block.specs.Container.{IsContainerWithBlocks, SpellsBlocks}
use Rattle.adb_block.specs.BlockWithoutOffset.{BlockWithoutOffset}
use Rattle.adb_block.specs.Header.{word_at, is_four_byte_mark_of_compressed_file, schema_of_header}
use Rattle.adb_block.specs.PositionBetweenBlocks.{first_block_position_of_schema_and_file}
use Rattle.adb_block.specs.Reading.{block_stream_from}
use Rattle.adb_block.specs.AllBlocks.{blocks_from_position, blocks_after_header, blocks_of}
use Rattle.adb_block.proofs.Choices.{passed}
use Rattle.adb_block.proofs.Runs.{pieces_sound, pieces_again}

-- ---- the header

-- what a header that passes its tests says
pub record HasHeader (file : List ℕ) (schema : ℕ) : Type 0 where
  pub front : take 4 file ≡ codes "ADB."
  pub whole : 8 ≤ length file
  pub is_schema : word_at 4 file ≡ schema

pub header_sound : (file : List ℕ) (schema : ℕ) → schema_of_header file ≡ Ok schema → HasHeader file schema
unfolding schema_of_header
header_sound file schema e =
    let a = passed (ltb (length file) 4) (Truncated 0) _ schema e in
    let b = passed (is_four_byte_mark_of_compressed_file (take 4 file)) Compressed _ schema a.1 in
    let c = passed (not (bytes_eq (take 4 file) (codes "ADB."))) NotAdb _ schema b.1 in
    let d = passed (ltb (length file) 8) (Truncated 0) _ schema c.1 in
    let is = d.1 in
    record {
      front = (bytes_eq-Decides (take 4 file) (codes "ADB.")).0 (not-false _ c.0);
      whole = ltb-false _ _ d.0;
      is_schema = cc;
    }

header_by : (file : List ℕ) (schema : ℕ) → HasHeader file schema → schema_of_header file ≡ Ok schema
unfolding schema_of_header
header_by file schema h =
    let whole = h.whole in
    let four : ltb (length file) 4 ≡ false = le-ltb _ _ (omega arith) in
    let eight : ltb (length file) 8 ≡ false = le-ltb _ _ whole in
    rw (four, eight, h.front, h.is_schema) refl

-- the front, four bytes and the rest
parts : (file : List ℕ) → file ≡ take 4 file ++ (take 4 (drop 4 file) ++ drop 8 file)
parts file = sym (ap (λ r. take 4 file ++ r) (ap (λ r. take 4 (drop 4 file) ++ r) (sym (drop-drop 4 4 file)) ∙ take-append-drop 4 (drop 4 file)) ∙ take-append-drop 4 file)

-- ---- all blocks

blocks_by : (file : List ℕ) (r : Result ℕ Cause) (schema : ℕ) (bs : List BlockWithoutOffset) → r ≡ Ok schema → blocks_after_header file r ≡ Ok bs → blocks_from_position (first_block_position_of_schema_and_file schema file) ≡ Ok bs
blocks_by file (Ok found) schema bs e is = let same : found ≡ schema = cc in rw (← same) is
blocks_by file (Err c) schema bs e is = absurd cc

pub read_is_spelled : (file : List ℕ) (schema : ℕ) (bs : List BlockWithoutOffset) → schema_of_header file ≡ Ok schema → blocks_of file ≡ Ok bs → IsContainerWithBlocks file schema bs
unfolding blocks_of blocks_from_position block_stream_from
read_is_spelled file schema bs e is =
    let h = header_sound file schema e in
    let whole = h.whole in
    record {
      word = take 4 (drop 4 file);
      body = drop 8 file;
      parts = parts file ∙ ap (λ x. x ++ (take 4 (drop 4 file) ++ drop 8 file)) h.front;
      four = omega (arith, length-take 4 (drop 4 file), length-drop 4 file);
      is_schema = h.is_schema;
      blocks = pieces_sound (suc (length (drop 8 file))) None 8 (drop 8 file) bs (blocks_by file (schema_of_header file) schema bs e is);
    }

text_header : (word body : List ℕ) (schema : ℕ) → length word ≡ 4 → from_le_bytes w32 word ≡ schema → HasHeader (codes "ADB." ++ (word ++ body)) schema
text_header word body schema four is = record {
  front = refl;
  whole = omega (arith, length-append word body);
  is_schema = ap (from_le_bytes w32) (take_at word body 4 four) ∙ is;
}

text_body : (word body : List ℕ) → length word ≡ 4 → drop 8 (codes "ADB." ++ (word ++ body)) ≡ body
text_body word body four = drop_at word body 4 four

pub spelled_is_read : (file : List ℕ) (schema : ℕ) (bs : List BlockWithoutOffset) → IsContainerWithBlocks file schema bs → (schema_of_header file ≡ Ok schema) × (blocks_of file ≡ Ok bs)
unfolding blocks_of blocks_from_position block_stream_from
spelled_is_read file schema bs s =
    let text : List ℕ = codes "ADB." ++ (s.word ++ s.body) in
    let header : schema_of_header file ≡ Ok schema = ap schema_of_header s.parts ∙ header_by text schema (text_header s.word s.body schema s.four s.is_schema) in
    let body : drop 8 file ≡ s.body = ap (drop 8) s.parts ∙ text_body s.word s.body s.four in
    let spelled : SpellsBlocks None (drop 8 file) bs = rw body s.blocks in
    let read = pieces_again bs (suc (length (drop 8 file))) None 8 (drop 8 file) spelled (omega arith) in
    (header, ap (blocks_after_header file) header ∙ read)

pub one_reading : (file : List ℕ) (schema other : ℕ) (bs others : List BlockWithoutOffset) → IsContainerWithBlocks file schema bs → IsContainerWithBlocks file other others → (schema ≡ other) × (bs ≡ others)
one_reading file schema other bs others s t =
    let a = spelled_is_read file schema bs s in
    let b = spelled_is_read file other others t in
    let (header, blocks) = a in
    let (header', blocks') = b in
    (cc, cc)

-- ---- the reader of the header

pub whole_from : (file : List ℕ) (schema : ℕ) → schema_of_header file ≡ Ok schema → blocks_of file ≡ blocks_from_position (first_block_position_of_schema_and_file schema file)
unfolding blocks_of
whole_from file schema e = ap (blocks_after_header file) e

pub whole_failed : (file : List ℕ) (c : Cause) → schema_of_header file ≡ Err c → blocks_of file ≡ Err c
unfolding blocks_of
whole_failed file c e = ap (blocks_after_header file) e
