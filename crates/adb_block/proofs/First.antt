-- The fault of the framing that is told is the first.
use Rattle.std.proofs.Common.{◌≡◌, ℕ, zero, suc, ◌+◌, ◌-◌, ◌<◌, ◌≤◌, ◌||◌, eqb, ltb, List, [], ◌∷◌, length, drop, Option, Some, None, Result, Ok, Err, refl, sym, ap, ◌∙◌, arith, inl, inr}
use Rattle.std.proofs.lemmas.Bool.{cases_lt, ltb-true, eqb-true, or_cases}
use Rattle.std.proofs.lemmas.List.{length-drop, drop_all, nil_from_length}
use Rattle.base_core.specs.declared.Cause.{Cause}
use Rattle.base_core.specs.declared.Cause.TheVariants.{Truncated, BlockOrder}
use Rattle.adb_block.specs.BlockWithoutOffset.{BlockWithoutOffset, may_be_next_kind, least_payload_len}
use Rattle.adb_block.specs.Container.{IsBlock, MayFollow}
use Rattle.adb_block.specs.Header.{schema_of_header}
use Rattle.adb_block.specs.Framing.{HeadFields, block_head_fields, kind_of_number, NextBlockResult, ended, failed, block, next_block_result_by_raw_size, next_block_result_by_kind_order, next_block_result_by_header, next_block_result_at_file_end, next_block_result_at_offset}
use Rattle.adb_block.specs.FirstFraming.{BeginWithBlocks, last_kind, IsWrongSize, HaveBlockFault, IsFirstBlockFramingFault}
use Rattle.adb_block.specs.PositionBetweenBlocks.{first_block_position_of_schema_and_file}
use Rattle.adb_block.specs.Reading.{block_stream_with_rest_by_padded_size, bounded_block_stream_from_offset, block_stream_from}
use Rattle.adb_block.specs.AllBlocks.{with_block, blocks_of_stream, blocks_from_position, blocks_of}
use Rattle.adb_block.specs.declared.block.BlockKind.{BlockKind}
use Rattle.adb_block.proofs.Choices.{chosen}
use Rattle.adb_block.proofs.Sound.{step_sound}
use Rattle.adb_block.proofs.Runs.{step_shorter}
use Rattle.adb_block.proofs.WholeFiles.{header_sound, whole_from}

-- ---- one block

sized_failed : (at : ℕ) (bytes : List ℕ) (h : HeadFields) (k : BlockKind) (c : Cause) → next_block_result_by_raw_size at bytes h k ≡ failed c → IsWrongSize h k bytes × (c ≡ Truncated at)
sized_failed at bytes h k c e =
    elim (chosen (ltb h.raw h.len || ltb (length bytes) h.raw) _ _ _ e) [
      | inl x ↦
          let is : failed (Truncated at) ≡ failed c = x.1 in
          elim (or_cases (ltb h.raw h.len) (ltb (length bytes) h.raw) x.0) [
            | inl y ↦ (let less = ltb-true _ _ y in (inl (omega arith), cc))
            | inr y ↦ (inr (ltb-true _ _ y), cc)
          ]
      | inr x ↦ elim (chosen (ltb (h.raw - h.len) (least_payload_len k)) _ _ _ x.1) [
        | inl y ↦
            let is : failed (Truncated at) ≡ failed c = y.1 in
            let less = ltb-true _ _ y.0 in
            (inl (omega arith), cc)
        | inr y ↦ absurd (let z = y.1 in cc)
      ]
    ]

ordered_failed : (last : Option BlockKind) (at : ℕ) (bytes : List ℕ) (h : HeadFields) (o : Option BlockKind) (c : Cause) → block_head_fields bytes ≡ Some h → kind_of_number h.kind ≡ o → next_block_result_by_kind_order last at bytes h o ≡ failed c → HaveBlockFault last at bytes c
ordered_failed last at bytes h None c is kind e = inr (inl (record { head = h; is = is; wrong = rw kind tt; cause = cc }))
ordered_failed last at bytes h (Some k) c is kind e =
    elim (chosen (may_be_next_kind last k) _ _ _ e) [
      | inl x ↦
          let s = sized_failed at bytes h k c x.1 in
          inr (inr (record { head = h; is = is; kind = k; is_kind = kind; order = x.0; wrong = s.0; cause = s.1 }))
      | inr x ↦
          let told : failed (BlockOrder at) ≡ failed c = x.1 in
          inr (inl (record { head = h; is = is; wrong = rw kind x.0; cause = cc }))
    ]

headed_failed : (last : Option BlockKind) (at : ℕ) (bytes : List ℕ) (o : Option HeadFields) (c : Cause) → block_head_fields bytes ≡ o → next_block_result_by_header last at bytes o ≡ failed c → HaveBlockFault last at bytes c
headed_failed last at bytes None c is e = inl (record { head = is; cause = cc })
headed_failed last at bytes (Some h) c is e = ordered_failed last at bytes h (kind_of_number h.kind) c is refl e

nothing_headed : (bytes : List ℕ) → bytes ≡ [] → block_head_fields bytes ≡ None
unfolding block_head_fields
nothing_headed bytes e = rw e refl

at_end_failed : (last : Option BlockKind) (at : ℕ) (c : Cause) → next_block_result_at_file_end last at ≡ failed c → c ≡ Truncated at
at_end_failed None at c e = cc
at_end_failed (Some k) at c e = absurd cc

step_failed : (last : Option BlockKind) (at : ℕ) (bytes : List ℕ) (c : Cause) → next_block_result_at_offset last at bytes ≡ failed c → HaveBlockFault last at bytes c
unfolding next_block_result_at_offset
step_failed last at bytes c e =
    elim (chosen (eqb (length bytes) 0) _ _ _ e) [
      | inl x ↦ inl (record { head = nothing_headed bytes (nil_from_length bytes (eqb-true _ _ x.0)); cause = at_end_failed last at c x.1 })
      | inr x ↦ headed_failed last at bytes (block_head_fields bytes) c refl x.1
    ]

-- ---- block by block

-- blocks, and after them the fault
record Fails (total : ℕ) (last : Option BlockKind) (bytes : List ℕ) (c : Cause) : Type 0 where
  pub blocks : List BlockWithoutOffset
  pub rest : List ℕ
  pub before : BeginWithBlocks last bytes blocks rest
  pub at : ℕ
  pub located : at + length rest ≡ total
  pub fault : HaveBlockFault (last_kind last blocks) at rest c

with_err : (b : BlockWithoutOffset) (r : Result (List BlockWithoutOffset) Cause) (c : Cause) → with_block b r ≡ Err c → r ≡ Err c
with_err b (Ok bs) c e = absurd cc
with_err b (Err d) c e = e

fails_behind : (total : ℕ) (last : Option BlockKind) (bytes : List ℕ) (c : Cause) (b : BlockWithoutOffset) (behind : List ℕ) → MayFollow last b → IsBlock b bytes behind → Fails total (Some b.kind) behind c → Fails total last bytes c
fails_behind total last bytes c b behind may is f =
    record { blocks = b ∷ f.blocks; rest = f.rest; before = (behind, may, is, f.before); at = f.at; located = f.located; fault = f.fault }

-- nothing fails at the end after a block
nothing_fails : (n at : ℕ) (kind : BlockKind) (bytes : List ℕ) (c : Cause) → bytes ≡ [] → length bytes < n → blocks_of_stream (bounded_block_stream_from_offset n (Some kind) at bytes) ≡ Err c → ⊥
unfolding bounded_block_stream_from_offset next_block_result_at_offset
nothing_fails zero at kind bytes c none enough e = omega arith
nothing_fails (suc n) at kind bytes c none enough e =
    let same : blocks_of_stream (bounded_block_stream_from_offset (suc n) (Some kind) at []) ≡ Err c = ap (λ (x : List ℕ). blocks_of_stream (bounded_block_stream_from_offset (suc n) (Some kind) at x)) (sym none) ∙ e in
    cc

-- that later readings fail so
abbrev FailsLater : ℕ → ℕ → Cause → Type 0
FailsLater n total c = (kind : BlockKind) (at : ℕ) (bytes : List ℕ) → length bytes < n → at + length bytes ≡ total → blocks_of_stream (bounded_block_stream_from_offset n (Some kind) at bytes) ≡ Err c → Fails total (Some kind) bytes c

after_fails : (n total : ℕ) (kind : BlockKind) (at size : ℕ) (bytes : List ℕ) (c : Cause) → FailsLater n total c → length (drop size bytes) < n → at + length bytes ≡ total → blocks_of_stream (bounded_block_stream_from_offset n (Some kind) (at + size) (drop size bytes)) ≡ Err c
    → Fails total (Some kind) (drop size bytes) c
after_fails n total kind at size bytes c ih enough sum e =
    elim (cases_lt (length bytes) size) [
      | inl short ↦ absurd (nothing_fails n (at + size) kind (drop size bytes) c (drop_all size bytes (omega arith)) enough e)
      | inr fits ↦ ih kind (at + size) (drop size bytes) enough (omega (arith, length-drop size bytes)) e
    ]

stepped_fails : (n total : ℕ) (last : Option BlockKind) (at : ℕ) (bytes : List ℕ) (c : Cause) → FailsLater n total c → length bytes < suc n → at + length bytes ≡ total → (s : NextBlockResult) → next_block_result_at_offset last at bytes ≡ s
    → blocks_of_stream (block_stream_with_rest_by_padded_size at (λ b size. bounded_block_stream_from_offset n (Some b.kind) (at + size) (drop size bytes)) s) ≡ Err c → Fails total last bytes c
stepped_fails n total last at bytes c ih enough sum ended is e = absurd cc
stepped_fails n total last at bytes c ih enough sum (failed d) is e =
    let same : d ≡ c = cc in
    record { blocks = []; rest = bytes; before = refl; at = at; located = sum; fault = step_failed last at bytes c (is ∙ ap failed same) }
stepped_fails n total last at bytes c ih enough sum (block b size) is e =
    let sound = step_sound last at bytes b size is in
    let shorter = step_shorter last at bytes b size is in
    let later = with_err b (blocks_of_stream (bounded_block_stream_from_offset n (Some b.kind) (at + size) (drop size bytes))) c e in
    fails_behind total last bytes c b (drop size bytes) sound.0 sound.1 (after_fails n total b.kind at size bytes c ih (omega arith) sum later)

reading_fails : (n total : ℕ) (last : Option BlockKind) (at : ℕ) (bytes : List ℕ) (c : Cause) → length bytes < n → at + length bytes ≡ total → blocks_of_stream (bounded_block_stream_from_offset n last at bytes) ≡ Err c → Fails total last bytes c
unfolding bounded_block_stream_from_offset
reading_fails zero total last at bytes c enough sum e = absurd (omega arith)
reading_fails (suc n) total last at bytes c enough sum e =
    stepped_fails n total last at bytes c (λ kind at bytes. reading_fails n total (Some kind) at bytes c) enough sum (next_block_result_at_offset last at bytes) refl e

-- ---- the whole file

rest_fails : (schema : ℕ) (file : List ℕ) (c : Cause) → 8 ≤ length file → blocks_from_position (first_block_position_of_schema_and_file schema file) ≡ Err c → Fails (length file) None (drop 8 file) c
unfolding blocks_from_position block_stream_from
rest_fails schema file c long e = reading_fails (suc (length (drop 8 file))) (length file) None 8 (drop 8 file) c (omega arith) (omega (arith, length-drop 8 file)) e

pub first_told : (file : List ℕ) (schema : ℕ) (c : Cause) → schema_of_header file ≡ Ok schema → blocks_of file ≡ Err c → IsFirstBlockFramingFault file c
first_told file schema c h e =
    let header = header_sound file schema h in
    let f = rest_fails schema file c header.whole (sym (whole_from file schema h) ∙ e) in
    record { blocks = f.blocks; rest = f.rest; before = f.before; at = f.at; located = f.located; fault = f.fault }
