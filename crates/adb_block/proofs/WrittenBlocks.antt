-- What is written is spelled.
use Rattle.std.proofs.Common.{◌≡◌, ℕ, ◌+◌, ◌*◌, ◌^◌, ◌<◌, true, false, ltb, List, [], ◌∷◌, ◌++◌, length, replicate, Option, None, Some, refl, ap, ◌∙◌, append_assoc, arith, inl, inr, lit<}
use Rattle.std.specs.List.{flat_map}
use Rattle.std.specs.Int.{w32, to_le_bytes}
use Rattle.std.proofs.lemmas.Bool.{cases_lt, lt-ltb, le-ltb}
use Rattle.std.proofs.lemmas.List.{length-replicate}
use Rattle.std.proofs.lemmas.List.Concat.{flat_map-cons}
use Rattle.std.proofs.lemmas.Nat.{from_le_bytes-to_le_bytes_4, from_le_bytes-to_le_bytes_8}
use Rattle.adb_block.specs.Container.{IsHead, SpellsBlocks, IsContainerWithBlocks, CanBlocksBeWrittenAfter}
use Rattle.adb_block.specs.BlockWithoutOffset.{BlockWithoutOffset, kind_number, padding_of}
use Rattle.adb_block.specs.Written.{head_bytes, block_bytes, container}
use Rattle.adb_block.specs.declared.block.BlockKind.{BlockKind}
use Rattle.adb_block.specs.declared.block.BlockKind.TheVariants.{Adb, Signature, Contents}

few_kinds : (kind : BlockKind) → kind_number kind < 3
few_kinds Adb = lit< tt
few_kinds Signature = lit< tt
few_kinds Contents = lit< tt

pub head_bytes_is_head : (kind : BlockKind) (len : ℕ) → len + 16 < 2 ^ 64 → IsHead kind len (head_bytes kind len)
unfolding head_bytes
head_bytes_is_head kind len lt =
    let few = few_kinds kind in
    elim (cases_lt (4 + len) (2 ^ 30)) [
      | inl a ↦
          let t : ltb (4 + len) (2 ^ 30) ≡ true = lt-ltb _ _ a in
          rw t (inl (record { size = refl; word = from_le_bytes-to_le_bytes_4 (kind_number kind * 2 ^ 30 + (4 + len)) (omega arith); small = a }))
      | inr a ↦
          let t : ltb (4 + len) (2 ^ 30) ≡ false = le-ltb _ _ a in
          rw t (inr (record { size = refl; word = from_le_bytes-to_le_bytes_4 (3 * 2 ^ 30 + kind_number kind) (omega arith); raw = from_le_bytes-to_le_bytes_8 (16 + len) (omega arith) }))
    ]

pub written_blocks : (last : Option BlockKind) (bs : List BlockWithoutOffset) → CanBlocksBeWrittenAfter last bs → SpellsBlocks last (flat_map block_bytes bs) bs
written_blocks last [] m = (refl, m)
written_blocks last (b ∷ bs) m =
    let head : List ℕ = head_bytes b.kind (length b.payload) in
    let pad : List ℕ = replicate (padding_of (length head + length b.payload)) 0 in
    let rest : List ℕ = flat_map block_bytes bs in (
      rest,
      m.0,
      record {
        head = head;
        pad = pad;
        is_head = head_bytes_is_head b.kind (length b.payload) m.1;
        parts = flat_map-cons block_bytes b bs ∙ append_assoc head (b.payload ++ pad) rest ∙ ap (λ (x : List ℕ). head ++ x) (append_assoc b.payload pad rest);
        is_pad = inl (length-replicate {A = ℕ} (padding_of (length head + length b.payload)) 0);
      },
      written_blocks (Some b.kind) bs m.2,
    )

pub container_spells : (schema : ℕ) (pieces : List BlockWithoutOffset) → schema < 2 ^ 32 → CanBlocksBeWrittenAfter None pieces → IsContainerWithBlocks (container schema pieces) schema pieces
container_spells schema pieces lt m =
    record { word = to_le_bytes w32 schema; body = flat_map block_bytes pieces; parts = refl; four = refl; is_schema = from_le_bytes-to_le_bytes_4 schema lt; blocks = written_blocks None pieces m }
