-- A piece that is not the last one of its file is not empty.
use Rattle.std.proofs.Common.{◌≡◌, ℕ, zero, suc, ◌<◌, ◌≤◌, Bool, true, false, not, ◌==◌, nat_lt, if◌then◌else◌, List, [], ◌∷◌, length, drop, take, Option, Some, None, refl, true≢false, length-drop, length-take, arith}
use Rattle.base_core.specs.declared.cause.Cause.{Cause}
use Rattle.base_core.specs.declared.cause.Cause.TheVariants.{DataOrder, DataSize}
use Rattle.adb_block.specs.Reading.{Reading, done, fault, more}
use Rattle.adb_block.specs.declared.block.BlockKind.{BlockKind}
use Rattle.adb_block.specs.declared.block.BlockKind.TheVariants as Kinds
use Rattle.package_reader.specs.adb_schema.Soundness.{folder_and_file_positions_from_payload}
use Rattle.package_reader.specs.pkg_core.Contents.{ExpectedFile, contents_from_block_payload, has_positions_of, fault_if_digest_is_not_of_bytes}
use Rattle.package_reader.specs.pkg_core.Pieces.{PiecesRead, no_piece, piece, pieces_at_block, pieces_read_from_blocks, pieces_of_one_file, refusal, pieces_or_fault_alone, piece_count_before_last}

abbrev pub AreFull : PiecesRead → Type 0
AreFull no_piece = Unit {0}
AreFull (refusal c) = Unit {0}
AreFull (piece part bytes further) = (part.last ≡ false → 0 < length bytes) × AreFull further

full_from : (n : ℕ) (e : ExpectedFile) (digest : Option Cause) (bytes : List ℕ) (further : PiecesRead) → n ≤ piece_count_before_last (length bytes) → AreFull further → AreFull (pieces_of_one_file n e digest bytes further)
full_from zero e None bytes further few full = (λ others. absurd (true≢false others), full)
full_from zero e (Some c) bytes further few full = tt
full_from (suc n) e digest bytes further few full =
    let first = length-take 65536 bytes in
    let left = length-drop 65536 bytes in
    (λ others. omega (arith, few, first), full_from n e digest (drop 65536 bytes) further (omega (arith, few, left)) full)

full_file : (a b : Bool) (c d : Cause) (n : ℕ) (e : ExpectedFile) (digest : Option Cause) (bytes : List ℕ) (further : PiecesRead) → n ≤ piece_count_before_last (length bytes) → AreFull further → AreFull (pieces_or_fault_alone (if a then Some c else if b then Some d else None) (pieces_of_one_file n e digest bytes further))
full_file true b c d n e digest bytes further few full = tt
full_file false true c d n e digest bytes further few full = tt
full_file false false c d n e digest bytes further few full = full_from n e digest bytes further few full

full_contents : (few : Bool) (payload : List ℕ) (at : ℕ) (further : List ExpectedFile → PiecesRead) → ((left : List ExpectedFile) → AreFull (further left)) → (es : List ExpectedFile) → nat_lt (length payload) 8 ≡ few → AreFull (pieces_at_block Kinds.Contents payload at further es)
full_contents true payload at further full es e = rw e tt
full_contents false payload at further full [] e = rw e tt
full_contents false payload at further full (f ∷ es) e =
    rw e (full_file (not (has_positions_of payload f)) (not (length (contents_from_block_payload payload) == f.size)) (DataOrder (f.folder, f.file) (folder_and_file_positions_from_payload payload)) (DataSize f.size (length (contents_from_block_payload payload))) (piece_count_before_last (length (contents_from_block_payload payload))) f (fault_if_digest_is_not_of_bytes f.hash (contents_from_block_payload payload)) (contents_from_block_payload payload) (further es) (omega arith) (full es))

full_block : (kind : BlockKind) (payload : List ℕ) (at : ℕ) (further : List ExpectedFile → PiecesRead) → ((left : List ExpectedFile) → AreFull (further left)) → (es : List ExpectedFile) → AreFull (pieces_at_block kind payload at further es)
full_block Kinds.Adb payload at further full es = full es
full_block Kinds.Signature payload at further full es = full es
full_block Kinds.Contents payload at further full es = full_contents (nat_lt (length payload) 8) payload at further full es refl

none_left : (es : List ExpectedFile) → AreFull (pieces_read_from_blocks es done)
unfolding pieces_read_from_blocks
none_left [] = tt
none_left (e ∷ es) = tt

pub full_pieces : (es : List ExpectedFile) (r : Reading) → AreFull (pieces_read_from_blocks es r)
unfolding pieces_read_from_blocks
full_pieces es done = none_left es
full_pieces es (fault c) = tt
full_pieces es (more b at r) = full_block b.kind b.payload at (λ left. pieces_read_from_blocks left r) (λ left. full_pieces left r) es
