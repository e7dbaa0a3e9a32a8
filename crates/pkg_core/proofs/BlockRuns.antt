-- After the last block, where the file may end in its padding.
use Rattle.std.proofs.Common.{◌≡◌, ℕ, suc, ◌+◌, ◌-◌, ◌<◌, ◌≤◌, Bool, true, false, nat_le, min, List, [], length, drop, Some, refl, ap, sym, subst, ◌∙◌, arith}
use Rattle.std.proofs.lemmas.List.{drop_all}
use Rattle.adb_block.specs.Framing.{next_block_result_at_offset}
use Rattle.adb_block.specs.PositionBetweenBlocks.{PositionBetweenBlocks}
use Rattle.adb_block.specs.Reader.{reader_after_block}
use Rattle.adb_block.specs.Reading.{done, bounded_block_stream_from_offset, block_stream_from}
use Rattle.adb_block.specs.declared.block.BlockKind.{BlockKind}

-- if nothing is left, nothing is read
nothing_left : (k : BlockKind) (at : ℕ) (bytes : List ℕ) → bytes ≡ [] → bounded_block_stream_from_offset (suc (length bytes)) (Some k) at bytes ≡ done
unfolding bounded_block_stream_from_offset next_block_result_at_offset
nothing_left k at bytes e = subst (λ (xs : List ℕ). bounded_block_stream_from_offset (suc (length xs)) (Some k) at xs ≡ done) (sym e) refl

reading_nothing : (s : PositionBetweenBlocks) (k : BlockKind) (size : ℕ) → length s.left ≤ size → block_stream_from (reader_after_block s k size) ≡ done
unfolding block_stream_from
reading_nothing s k size le = nothing_left k (s.at + size) (drop size s.left) (drop_all size s.left le)

pub reading_cut : (s : PositionBetweenBlocks) (k : BlockKind) (raw pad : ℕ) → raw ≤ length s.left → block_stream_from (reader_after_block s k (raw + pad)) ≡ block_stream_from (reader_after_block s k (raw + min pad (length s.left - raw)))
reading_cut s k raw pad le = by_room (nat_le pad (length s.left - raw)) refl
  where
    by_room : (b : Bool) → nat_le pad (length s.left - raw) ≡ b → block_stream_from (reader_after_block s k (raw + pad)) ≡ block_stream_from (reader_after_block s k (raw + min pad (length s.left - raw)))
    by_room true e =
        let fits : pad ≤ length s.left - raw = grind arith in
        let same : raw + pad ≡ raw + min pad (length s.left - raw) = omega arith in
        ap (λ (n : ℕ). block_stream_from (reader_after_block s k n)) same
    by_room false e =
        let over : length s.left - raw < pad = grind arith in
        reading_nothing s k (raw + pad) (omega arith) ∙ sym (reading_nothing s k (raw + min pad (length s.left - raw)) (omega arith))
