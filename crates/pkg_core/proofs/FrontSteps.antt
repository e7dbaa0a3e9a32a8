-- The front of a file, part by part.
use Rattle.std.proofs.Common.{◌≡◌, ℕ, ◌+◌, ◌-◌, ◌≤◌, min, Bool, true, false, not, nat_lt, ◌==◌, if◌then◌else◌, List, length, take, drop, Some, None, Result, Ok, Err, refl, ap, sym, ◌∙◌, arith}
use Rattle.std.specs.Prelude.{codes}
use Rattle.std.specs.Str.{bytes_eq}
use Rattle.std.proofs.lemmas.Bool.{ltb-false}
use Rattle.base_core.specs.declared.cause.Cause.{Cause}
use Rattle.base_core.specs.declared.cause.Cause.TheVariants.{Compressed, NotAdb, Truncated, WrongSchema}
use Rattle.adb_block.specs.Framing.{block, failed, next_block_result_at_offset}
use Rattle.adb_block.specs.Frames.{framed_piece, raw_size}
use Rattle.adb_block.specs.Header.{schema_of_header, is_four_byte_mark_of_compressed_file, word_at}
use Rattle.adb_block.specs.BlockWithoutOffset.{may_be_next_kind, padding_of}
use Rattle.adb_block.specs.Reading.{more, block_stream_from}
use Rattle.adb_block.specs.PositionBetweenBlocks.{first_block_position_of_schema_and_file}
use Rattle.adb_block.specs.declared.block.BlockKind.{BlockKind}
use Rattle.adb_block.specs.declared.block.BlockKind.TheVariants.{Adb, Signature, Contents}
use Rattle.adb_view.specs.Head.{payload_head_fault}
use Rattle.pkg_core.specs.Front.{position_after_first_block, front_block_fault, front_fault, front_fault_after_header}
use Rattle.pkg_core.specs.Seen.{HasBytesAtOffset}
use Rattle.adb_block.specs.declared.block.Frame.{Frame}
use Rattle.adb_block.proofs.Runs.{reading_failed, reading_more}
use Rattle.pkg_core.proofs.BlockRuns.{reading_cut}
use Rattle.pkg_core.proofs.Heads.{eq_false}
use Rattle.pkg_core.proofs.SeenBytes.{drop_further}

adb_first : (k : BlockKind) → may_be_next_kind None k ≡ true → k ≡ Adb
adb_first Adb h = refl
adb_first Signature h = (cc)
adb_first Contents h = (cc)

-- ---- the first block

pub first_failed : (file : List ℕ) (c : Cause) → next_block_result_at_offset None 8 (drop 8 file) ≡ failed c → (schema : ℕ) → front_block_fault (block_stream_from (first_block_position_of_schema_and_file schema file)) ≡ Some c
first_failed file c step schema = ap front_block_fault (reading_failed (first_block_position_of_schema_and_file schema file) c step)

pub first_blocks : (file payload : List ℕ) (framed : Frame) (padding at : ℕ) → next_block_result_at_offset None 8 (drop 8 file) ≡ block (framed_piece framed (drop 8 file)) (raw_size framed + padding_of (raw_size framed)) → may_be_next_kind None framed.kind ≡ true → raw_size framed ≤ length (drop 8 file) → padding ≡ min (padding_of (raw_size framed)) (length (drop 8 file) - raw_size framed) → length payload ≡ framed.payload_len → HasBytesAtOffset file (8 + framed.head_len) payload → at ≡ 8 + (raw_size framed + padding)
    → (schema : ℕ) → block_stream_from (first_block_position_of_schema_and_file schema file) ≡ more (record { kind = Adb; payload = payload }) 8 (block_stream_from (position_after_first_block schema at file))
first_blocks file payload framed padding at step order room pad len has at_is schema =
    let size : ℕ = raw_size framed + min (padding_of (raw_size framed)) (length (drop 8 file) - raw_size framed) in
    let kind : framed.kind ≡ Adb = adb_first framed.kind order in
    let here : take framed.payload_len (drop framed.head_len (drop 8 file)) ≡ payload = ap (take framed.payload_len) (drop_further 8 framed.head_len file) ∙ (ap (λ (n : ℕ). take n (drop (8 + framed.head_len) file)) (sym len) ∙ has) in
    let end_is : 8 + size ≡ at = ap (λ (n : ℕ). 8 + (raw_size framed + n)) (sym pad) ∙ sym at_is in
    let left_is : drop size (drop 8 file) ≡ drop at file = drop_further 8 size file ∙ ap (λ (n : ℕ). drop n file) end_is in
    reading_more (first_block_position_of_schema_and_file schema file) (framed_piece framed (drop 8 file)) (raw_size framed + padding_of (raw_size framed)) step
    ∙ (ap (more (framed_piece framed (drop 8 file)) 8) (reading_cut (first_block_position_of_schema_and_file schema file) framed.kind (raw_size framed) (padding_of (raw_size framed)) room)
    ∙ (λ k. more (record { kind = kind k; payload = here k }) 8 (block_stream_from (record { schema = schema; last = Some (kind k); at = end_is k; left = left_is k }))))

pub first_head_bad : (file payload : List ℕ) (at : ℕ) (c : Cause) → ((schema : ℕ) → block_stream_from (first_block_position_of_schema_and_file schema file) ≡ more (record { kind = Adb; payload = payload }) 8 (block_stream_from (position_after_first_block schema at file))) → payload_head_fault payload ≡ Some c → (schema : ℕ) → front_block_fault (block_stream_from (first_block_position_of_schema_and_file schema file)) ≡ Some c
first_head_bad file payload at c blocks bad schema = ap front_block_fault (blocks schema) ∙ bad

-- ---- the whole front

by_schema : (file : List ℕ) (schema : ℕ) (h : Result ℕ Cause) (found : ℕ) → h ≡ Ok found → front_fault_after_header schema file h ≡ (if schema == found then front_block_fault (block_stream_from (first_block_position_of_schema_and_file found file)) else Some (WrongSchema found))
by_schema file schema h found e = ap (front_fault_after_header schema file) e

pub header_bad : (file : List ℕ) (schema : ℕ) (c : Cause) → schema_of_header file ≡ Err c → front_fault schema file ≡ Some c
unfolding front_fault
header_bad file schema c e = ap (front_fault_after_header schema file) e

pub schema_bad : (file : List ℕ) (schema found : ℕ) → schema_of_header file ≡ Ok found → (found ≡ schema → ⊥) → front_fault schema file ≡ Some (WrongSchema found)
unfolding front_fault
schema_bad file schema found e other = by_schema file schema (schema_of_header file) found e ∙ ap (λ (b : Bool). if b then front_block_fault (block_stream_from (first_block_position_of_schema_and_file found file)) else Some (WrongSchema found)) (eq_false schema found (λ e. other (sym e)))

pub first_bad : (file : List ℕ) (schema : ℕ) (c : Cause) → schema_of_header file ≡ Ok schema → front_block_fault (block_stream_from (first_block_position_of_schema_and_file schema file)) ≡ Some c → front_fault schema file ≡ Some c
unfolding front_fault
first_bad file schema c e bad =
    let same : (schema == schema) ≡ true = grind arith in
    by_schema file schema (schema_of_header file) schema e ∙ (ap (λ (b : Bool). if b then front_block_fault (block_stream_from (first_block_position_of_schema_and_file schema file)) else Some (WrongSchema schema)) same ∙ bad)

header_long_by : (a b d e : Bool) (x y z w : Cause) (n s : ℕ) → (if a then Err x else if b then Err y else if d then Err z else if e then Err w else Ok n) ≡ Ok s → e ≡ false
header_long_by true b d e x y z w n s h = (cc)
header_long_by false true d e x y z w n s h = (cc)
header_long_by false false true e x y z w n s h = (cc)
header_long_by false false false true x y z w n s h = (cc)
header_long_by false false false false x y z w n s h = refl

-- a header that is whole takes eight bytes
pub header_eight : (bytes : List ℕ) (schema : ℕ) → schema_of_header bytes ≡ Ok schema → 8 ≤ length bytes
unfolding schema_of_header
header_eight bytes schema h = ltb-false (length bytes) 8 (header_long_by (nat_lt (length bytes) 4) (is_four_byte_mark_of_compressed_file (take 4 bytes)) (not (bytes_eq (take 4 bytes) (codes "ADB."))) (nat_lt (length bytes) 8) (Truncated 0) Compressed NotAdb (Truncated 0) (word_at 4 bytes) schema h)
