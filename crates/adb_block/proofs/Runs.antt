-- All that is read from an offset on, one block after the other.
use Rattle.std.proofs.Common.{◌≡◌, ℕ, zero, suc, ◌+◌, ◌<◌, List, [], ◌∷◌, ◌++◌, length, drop, Option, Some, Result, Ok, Err, refl, ap, ◌∙◌, arith, inl, inr, ◌⊎◌}
use Rattle.std.proofs.lemmas.List.{length-append}
use Rattle.base_core.specs.declared.Cause.{Cause}
use Rattle.adb_block.specs.Container.{IsBlock, SpellsBlocks}
use Rattle.adb_block.specs.BlockWithoutOffset.{BlockWithoutOffset}
use Rattle.adb_block.specs.Framing.{NextBlockResult, ended, failed, block, next_block_result_at_offset}
use Rattle.adb_block.specs.PositionBetweenBlocks.{PositionBetweenBlocks}
use Rattle.adb_block.specs.Reader.{reader_after_block}
use Rattle.adb_block.specs.Reading.{Reading, done, fault, more, block_stream_with_rest_by_padded_size, bounded_block_stream_from_offset, block_stream_from}
use Rattle.adb_block.specs.AllBlocks.{with_block, blocks_of_stream, blocks_from_position}
use Rattle.adb_block.specs.declared.block.BlockKind.{BlockKind}
use Rattle.adb_block.proofs.Sound.{step_sound, step_ended}
use Rattle.adb_block.proofs.Again.{step_again, next_block_result_at_file_end}

-- ---- each block takes bytes

IsBlock-shorter : (b : BlockWithoutOffset) (bytes rest : List ℕ) → IsBlock b bytes rest → length rest < length bytes
IsBlock-shorter b bytes rest is =
    let total = ap length is.parts ∙ length-append is.head (b.payload ++ (is.pad ++ rest)) in
    let further = length-append b.payload (is.pad ++ rest) in
    let last = length-append is.pad rest in
    elim is.is_head [ inl h ↦ (let s = h.size in omega arith) | inr h ↦ (let s = h.size in omega arith) ]

pub step_shorter : (last : Option BlockKind) (at : ℕ) (bytes : List ℕ) (b : BlockWithoutOffset) (size : ℕ) → next_block_result_at_offset last at bytes ≡ block b size → length (drop size bytes) < length bytes
step_shorter last at bytes b size e = IsBlock-shorter b bytes (drop size bytes) (step_sound last at bytes b size e).1

-- ---- one block, and then what is read after it

stepped_same : (at : ℕ) (f g : BlockWithoutOffset → ℕ → Reading) (s : NextBlockResult) → ((b : BlockWithoutOffset) (size : ℕ) → s ≡ block b size → f b size ≡ g b size) → block_stream_with_rest_by_padded_size at f s ≡ block_stream_with_rest_by_padded_size at g s
stepped_same at f g ended same = refl
stepped_same at f g (failed c) same = refl
stepped_same at f g (block b size) same = ap (more b at) (same b size refl)

-- enough turns are enough
reading_enough : (n m : ℕ) (last : Option BlockKind) (at : ℕ) (bytes : List ℕ) → length bytes < n → length bytes < m → bounded_block_stream_from_offset n last at bytes ≡ bounded_block_stream_from_offset m last at bytes
unfolding bounded_block_stream_from_offset
reading_enough zero m last at bytes l k = absurd (omega arith)
reading_enough (suc n) zero last at bytes l k = absurd (omega arith)
reading_enough (suc n) (suc m) last at bytes l k =
    stepped_same at _ _ (next_block_result_at_offset last at bytes)
    (λ b size e.
    let shorter = step_shorter last at bytes b size e in
    reading_enough n m (Some b.kind) (at + size) (drop size bytes) (omega arith) (omega arith))

pub reading_ended : (s : PositionBetweenBlocks) → next_block_result_at_offset s.last s.at s.left ≡ ended → block_stream_from s ≡ done
unfolding block_stream_from bounded_block_stream_from_offset
reading_ended s e = rw e refl

pub reading_failed : (s : PositionBetweenBlocks) (c : Cause) → next_block_result_at_offset s.last s.at s.left ≡ failed c → block_stream_from s ≡ fault c
unfolding block_stream_from bounded_block_stream_from_offset
reading_failed s c e = rw e refl

pub reading_more : (s : PositionBetweenBlocks) (b : BlockWithoutOffset) (size : ℕ) → next_block_result_at_offset s.last s.at s.left ≡ block b size → block_stream_from s ≡ more b s.at (block_stream_from (reader_after_block s b.kind size))
unfolding block_stream_from bounded_block_stream_from_offset
reading_more s b size e =
    let shorter = step_shorter s.last s.at s.left b size e in
    let enough = reading_enough (length s.left) (suc (length (drop size s.left))) (Some b.kind) (s.at + size) (drop size s.left) shorter (omega arith) in
    ap (block_stream_with_rest_by_padded_size s.at (λ b size. bounded_block_stream_from_offset (length s.left) (Some b.kind) (s.at + size) (drop size s.left))) e ∙ ap (more b s.at) enough

pub rest_ended : (s : PositionBetweenBlocks) → next_block_result_at_offset s.last s.at s.left ≡ ended → blocks_from_position s ≡ Ok []
unfolding blocks_from_position
rest_ended s e = ap blocks_of_stream (reading_ended s e)

pub rest_failed : (s : PositionBetweenBlocks) (c : Cause) → next_block_result_at_offset s.last s.at s.left ≡ failed c → blocks_from_position s ≡ Err c
unfolding blocks_from_position
rest_failed s c e = ap blocks_of_stream (reading_failed s c e)

pub rest_more : (s : PositionBetweenBlocks) (b : BlockWithoutOffset) (size : ℕ) → next_block_result_at_offset s.last s.at s.left ≡ block b size → blocks_from_position s ≡ with_block b (blocks_from_position (reader_after_block s b.kind size))
unfolding blocks_from_position
rest_more s b size e = ap blocks_of_stream (reading_more s b size e)

-- ---- what is read is what the bytes spell

-- what a step that went on gave
stepped_ok : (at : ℕ) (f : BlockWithoutOffset → ℕ → Reading) (s : NextBlockResult) (bs : List BlockWithoutOffset) → blocks_of_stream (block_stream_with_rest_by_padded_size at f s) ≡ Ok bs
    → ((s ≡ ended) × (bs ≡ [])) ⊎ ((b : BlockWithoutOffset) × (size : ℕ) × (further : List BlockWithoutOffset) × (s ≡ block b size) × (blocks_of_stream (f b size) ≡ Ok further) × (bs ≡ b ∷ further))
stepped_ok at f ended bs e = inl (refl, cc)
stepped_ok at f (failed c) bs e = absurd cc
stepped_ok at f (block b size) bs e = in_front_ok (blocks_of_stream (f b size)) refl e
  where
    in_front_ok : (r : Result (List BlockWithoutOffset) Cause) → blocks_of_stream (f b size) ≡ r → with_block b r ≡ Ok bs
        → ((block b size ≡ ended) × (bs ≡ [])) ⊎ ((c : BlockWithoutOffset) × (s : ℕ) × (further : List BlockWithoutOffset) × (block b size ≡ block c s) × (blocks_of_stream (f c s) ≡ Ok further) × (bs ≡ c ∷ further))
    in_front_ok (Ok further) i e = inr (b, size, further, refl, i, cc)
    in_front_ok (Err c) i e = absurd cc

pub pieces_sound : (n : ℕ) (last : Option BlockKind) (at : ℕ) (bytes : List ℕ) (bs : List BlockWithoutOffset) → blocks_of_stream (bounded_block_stream_from_offset n last at bytes) ≡ Ok bs → SpellsBlocks last bytes bs
unfolding bounded_block_stream_from_offset
pieces_sound zero last at bytes bs e = absurd cc
pieces_sound (suc n) last at bytes bs e =
    elim (stepped_ok at (λ b size. bounded_block_stream_from_offset n (Some b.kind) (at + size) (drop size bytes)) (next_block_result_at_offset last at bytes) bs e) [
      | inl x ↦ rw x.1 (step_ended last at bytes x.0)
      | inr (b, size, further, is, rest, all) ↦
          let s = step_sound last at bytes b size is in
          rw all (drop size bytes, s.0, s.1, pieces_sound n (Some b.kind) (at + size) (drop size bytes) further rest)
    ]

pub pieces_again : (bs : List BlockWithoutOffset) (n : ℕ) (last : Option BlockKind) (at : ℕ) (bytes : List ℕ) → SpellsBlocks last bytes bs → length bytes < n → blocks_of_stream (bounded_block_stream_from_offset n last at bytes) ≡ Ok bs
unfolding bounded_block_stream_from_offset
pieces_again bs zero last at bytes s lt = absurd (omega arith)
pieces_again [] (suc n) last at bytes s lt = rw (s.0, next_block_result_at_file_end last at s.1) refl
pieces_again (b ∷ bs) (suc n) last at bytes (rest, may, is, further) lt =
    let (size, block_stream_with_rest_by_padded_size, skipped) = step_again last at bytes b rest may is in
    let shorter = IsBlock-shorter b bytes rest is in
    let others : blocks_of_stream (bounded_block_stream_from_offset n (Some b.kind) (at + size) rest) ≡ Ok bs = pieces_again bs n (Some b.kind) (at + size) rest further (omega arith) in
    rw (block_stream_with_rest_by_padded_size, skipped, others) refl
