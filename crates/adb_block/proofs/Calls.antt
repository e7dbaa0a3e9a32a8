-- One call of the reader: what the step says of the grammar and of all that is left.
use Rattle.std.proofs.Common.{◌≡◌, ◌↔◌, ℕ, ◌+◌, ◌-◌, List, [], ◌∷◌, length, drop, Option, Some, None, Ok, Err, refl, sym, ap, subst, ◌∙◌, arith}
use Rattle.std.specs.Prelude.{IsSome}
use Rattle.base_core.specs.declared.Cause.{Cause}
use Rattle.adb_block.specs.Container.{HasBlockBefore, SpellsBlocks}
use Rattle.adb_block.specs.BlockWithoutOffset.{BlockWithoutOffset}
use Rattle.adb_block.specs.Framing.{ended, failed, block, next_block_result_at_offset}
use Rattle.adb_block.specs.PositionBetweenBlocks.{PositionBetweenBlocks}
use Rattle.adb_block.specs.Reading.{block_stream_from}
use Rattle.adb_block.specs.AllBlocks.{blocks_from_position}
use Rattle.adb_block.specs.Reader.{piece_of, BeginsWith, ReturnsNextSpelledBlock, IsNextBlockResultAtPosition, Advances, FindsEndOfBlocks, ContinuesReading, AreBlocksFromCall, reader_after_block}
use Rattle.adb_block.specs.declared.block.Block.{Block}
use Rattle.adb_block.specs.declared.block.BlockKind.{BlockKind}
use Rattle.adb_block.proofs.Sound.{step_sound, step_ended}
use Rattle.adb_block.proofs.Again.{step_again, next_block_result_at_file_end}
use Rattle.adb_block.proofs.Runs.{step_shorter, reading_ended, reading_failed, reading_more, rest_ended, rest_failed, rest_more}

pub spells_not : (last : Option BlockKind) (at : ℕ) (bytes : List ℕ) (c : Cause) → next_block_result_at_offset last at bytes ≡ failed c → (bs : List BlockWithoutOffset) → SpellsBlocks last bytes bs → ⊥
spells_not last at bytes c e [] s = let f : next_block_result_at_offset last at bytes ≡ ended = rw s.0 (next_block_result_at_file_end last at s.1) in cc
spells_not last at bytes c e (b ∷ bs) (rest, may, is, further) = let (size, f, g) = step_again last at bytes b rest may is in cc

spells_nil : (last : Option BlockKind) (at : ℕ) (bytes : List ℕ) → next_block_result_at_offset last at bytes ≡ ended → (bs : List BlockWithoutOffset) → SpellsBlocks last bytes bs → bs ≡ []
spells_nil last at bytes e [] s = refl
spells_nil last at bytes e (b ∷ bs) (rest, may, is, further) = absurd (let (size, f, g) = step_again last at bytes b rest may is in cc)

pub spells_end : (last : Option BlockKind) (at : ℕ) (bytes : List ℕ) → next_block_result_at_offset last at bytes ≡ ended → (bs : List BlockWithoutOffset) → SpellsBlocks last bytes bs ↔ (bs ≡ [])
spells_end last at bytes e bs = (spells_nil last at bytes e bs, λ is. subst (SpellsBlocks last bytes) (sym is) (step_ended last at bytes e))

spells_then : (last : Option BlockKind) (at : ℕ) (bytes : List ℕ) (b : BlockWithoutOffset) (size : ℕ) → next_block_result_at_offset last at bytes ≡ block b size → (bs : List BlockWithoutOffset) → SpellsBlocks last bytes bs → BeginsWith b (SpellsBlocks (Some b.kind) (drop size bytes)) bs
spells_then last at bytes b size e [] s = let f : next_block_result_at_offset last at bytes ≡ ended = rw s.0 (next_block_result_at_file_end last at s.1) in cc
spells_then last at bytes b size e (c ∷ bs) (rest, may, is, further) =
    let (size', f, g) = step_again last at bytes c rest may is in
    let same : c ≡ b = cc in
    let length_same : size' ≡ size = cc in
    let rest_is : rest ≡ drop size bytes = sym g ∙ ap (λ (n : ℕ). drop n bytes) length_same in
    (same, subst (λ (x : List ℕ). SpellsBlocks (Some b.kind) x bs) rest_is (subst (λ (p : BlockWithoutOffset). SpellsBlocks (Some p.kind) rest bs) same further))

spells_back : (last : Option BlockKind) (at : ℕ) (bytes : List ℕ) (b : BlockWithoutOffset) (size : ℕ) → next_block_result_at_offset last at bytes ≡ block b size → (bs : List BlockWithoutOffset) → BeginsWith b (SpellsBlocks (Some b.kind) (drop size bytes)) bs → SpellsBlocks last bytes bs
spells_back last at bytes b size e [] s = absurd s
spells_back last at bytes b size e (c ∷ bs) (same, further) =
    let s = step_sound last at bytes b size e in
    let all : SpellsBlocks last bytes (b ∷ bs) = (drop size bytes, s.0, s.1, further) in
    subst (λ (p : BlockWithoutOffset). SpellsBlocks last bytes (p ∷ bs)) (sym same) all

-- ---- the clauses of a call, by its step

some_later : (last : Option BlockKind) → HasBlockBefore last → IsSome last
some_later None later = absurd later
some_later (Some kind) later = refl

-- at the end
pub record IsEnd (s : PositionBetweenBlocks) : Type 0 where
  pub blocks : ReturnsNextSpelledBlock s (Ok None) s
  pub none : FindsEndOfBlocks s s
  pub reading : ContinuesReading (block_stream_from s) (Ok None) (block_stream_from s)
  pub rest : AreBlocksFromCall (blocks_from_position s) (Ok None) (blocks_from_position s)

pub at_end : (s : PositionBetweenBlocks) → next_block_result_at_offset s.last s.at s.left ≡ ended → IsEnd s
at_end s e = record {
  blocks = spells_end s.last s.at s.left e;
  none = (let end = step_ended s.last s.at s.left e in record { empty = end.0; later = some_later s.last end.1; stays = refl });
  reading = reading_ended s e;
  rest = rest_ended s e;
}

-- at a failed test
pub record PrintsOnlyErrorLine (s : PositionBetweenBlocks) (c : Cause) : Type 0 where
  pub blocks : ReturnsNextSpelledBlock s (Err c) s
  pub reading : ContinuesReading (block_stream_from s) (Err c) (block_stream_from s)
  pub rest : AreBlocksFromCall (blocks_from_position s) (Err c) (blocks_from_position s)

pub at_fault : (s : PositionBetweenBlocks) (c : Cause) → next_block_result_at_offset s.last s.at s.left ≡ failed c → PrintsOnlyErrorLine s c
at_fault s c e = record {
  blocks = spells_not s.last s.at s.left c e;
  reading = reading_failed s c e;
  rest = rest_failed s c e;
}

-- at a block
pub record IsFound (s : PositionBetweenBlocks) (b : Block) (t : PositionBetweenBlocks) : Type 0 where
  pub blocks : ReturnsNextSpelledBlock s (Ok (Some b)) t
  pub exact : IsNextBlockResultAtPosition s (Ok (Some b)) t
  pub found : Advances s b t
  pub filled : s.left ≡ [] → ⊥
  pub reading : ContinuesReading (block_stream_from s) (Ok (Some b)) (block_stream_from t)
  pub rest : AreBlocksFromCall (blocks_from_position s) (Ok (Some b)) (blocks_from_position t)

found_after : (s : PositionBetweenBlocks) (b : Block) (size : ℕ) → b.at ≡ s.at → next_block_result_at_offset s.last s.at s.left ≡ block (piece_of b) size → IsFound s b (reader_after_block s b.kind size)
found_after s b size at e =
    let sound = step_sound s.last s.at s.left (piece_of b) size e in
    let size_is : size ≡ s.at + size - s.at = omega arith in
    let shorter = step_shorter s.last s.at s.left (piece_of b) size e in
    record {
      blocks = λ bs. (spells_then s.last s.at s.left (piece_of b) size e bs, spells_back s.last s.at s.left (piece_of b) size e bs);
      exact = e ∙ ap (block (piece_of b)) size_is;
      found = record {
        at = at;
        follows = sound.0;
        is_block = sound.1;
        located = ap (reader_after_block s b.kind) size_is;
        shorter = shorter;
      };
      filled = λ is. omega (arith, ap length is);
      reading = rw at (reading_more s (piece_of b) size e);
      rest = rest_more s (piece_of b) size e;
    }

pub at_block : (s : PositionBetweenBlocks) (b : Block) (size : ℕ) (t : PositionBetweenBlocks) → b.at ≡ s.at → next_block_result_at_offset s.last s.at s.left ≡ block (piece_of b) size → t ≡ reader_after_block s b.kind size → IsFound s b t
at_block s b size t at e is = subst (IsFound s b) (sym is) (found_after s b size at e)
