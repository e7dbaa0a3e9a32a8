-- The pieces of each file, joined, are its contents.
use Rattle.std.proofs.Common.{◌≡◌, ℕ, zero, suc, Bool, true, false, not, ◌==◌, nat_lt, if◌then◌else◌, List, [], ◌∷◌, ◌++◌, length, take, drop, Option, Some, None, refl, ap, ◌∙◌, append_assoc}
use Rattle.std.proofs.lemmas.List.{take-append-drop}
use Rattle.base_core.specs.declared.cause.Cause.{Cause}
use Rattle.base_core.specs.declared.cause.Cause.TheVariants.{DataOrder, DataSize}
use Rattle.adb_block.specs.Reading.{Reading, done, fault, more}
use Rattle.adb_block.specs.declared.block.BlockKind.{BlockKind}
use Rattle.adb_block.specs.declared.block.BlockKind.TheVariants as Kinds
use Rattle.adb_schema.specs.Soundness.{folder_and_file_positions_from_payload}
use Rattle.pkg_core.specs.Contents.{ExpectedFile, FilesRead, contents_from_block_payload, files_from_block_at_offset_if_contents, files_read_from_blocks, given, has_positions_of, fault_if_digest_is_not_of_bytes, files_or_fault_alone}
use Rattle.pkg_core.specs.Pieces.{PiecesRead, files_joined_from_pieces, pieces_at_block, pieces_read_from_blocks, pieces_of_one_file, pieces_or_fault_alone, piece_count_before_last}

-- ---- one file

joined_bytes : (n : ℕ) (e : ExpectedFile) (digest : Option Cause) (bytes so_far : List ℕ) (further : PiecesRead) → files_joined_from_pieces (pieces_of_one_file n e digest bytes further) so_far ≡ files_or_fault_alone digest (given (record { folder = e.folder; file = e.file; bytes = so_far ++ bytes }) (files_joined_from_pieces further []))
joined_bytes zero e None bytes so_far further = refl
joined_bytes zero e (Some c) bytes so_far further = refl
joined_bytes (suc n) e digest bytes so_far further =
    let whole : (so_far ++ take 65536 bytes) ++ drop 65536 bytes ≡ so_far ++ bytes = append_assoc so_far (take 65536 bytes) (drop 65536 bytes) ∙ ap (λ (xs : List ℕ). so_far ++ xs) (take-append-drop 65536 bytes) in
    joined_bytes n e digest (drop 65536 bytes) (so_far ++ take 65536 bytes) further
    ∙ ap (λ (xs : List ℕ). files_or_fault_alone digest (given (record { folder = e.folder; file = e.file; bytes = xs }) (files_joined_from_pieces further []))) whole

joined_file : (a b : Bool) (c d : Cause) (n : ℕ) (e : ExpectedFile) (digest : Option Cause) (bytes : List ℕ) (further : PiecesRead) (files : FilesRead) → files_joined_from_pieces further [] ≡ files
    → files_joined_from_pieces (pieces_or_fault_alone (if a then Some c else if b then Some d else None) (pieces_of_one_file n e digest bytes further)) []
    ≡ files_or_fault_alone (if a then Some c else if b then Some d else digest) (given (record { folder = e.folder; file = e.file; bytes = bytes }) files)
joined_file true b c d n e digest bytes further files same = refl
joined_file false true c d n e digest bytes further files same = refl
joined_file false false c d n e digest bytes further files same =
    joined_bytes n e digest bytes [] further
    ∙ ap (λ (f : FilesRead). files_or_fault_alone digest (given (record { folder = e.folder; file = e.file; bytes = bytes }) f)) same

-- ---- one block

joined_contents : (few : Bool) (payload : List ℕ) (at : ℕ) (further : List ExpectedFile → PiecesRead) (files : List ExpectedFile → FilesRead) → ((left : List ExpectedFile) → files_joined_from_pieces (further left) [] ≡ files left) → (es : List ExpectedFile) → nat_lt (length payload) 8 ≡ few
    → files_joined_from_pieces (pieces_at_block Kinds.Contents payload at further es) [] ≡ files_from_block_at_offset_if_contents Kinds.Contents payload at files es
joined_contents true payload at further files same es e = rw e refl
joined_contents false payload at further files same [] e = rw e refl
joined_contents false payload at further files same (f ∷ es) e =
    rw e (joined_file (not (has_positions_of payload f)) (not (length (contents_from_block_payload payload) == f.size)) (DataOrder (f.folder, f.file) (folder_and_file_positions_from_payload payload)) (DataSize f.size (length (contents_from_block_payload payload))) (piece_count_before_last (length (contents_from_block_payload payload))) f (fault_if_digest_is_not_of_bytes f.hash (contents_from_block_payload payload)) (contents_from_block_payload payload) (further es) (files es) (same es))

joined_block : (kind : BlockKind) (payload : List ℕ) (at : ℕ) (further : List ExpectedFile → PiecesRead) (files : List ExpectedFile → FilesRead) → ((left : List ExpectedFile) → files_joined_from_pieces (further left) [] ≡ files left) → (es : List ExpectedFile)
    → files_joined_from_pieces (pieces_at_block kind payload at further es) [] ≡ files_from_block_at_offset_if_contents kind payload at files es
joined_block Kinds.Adb payload at further files same es = same es
joined_block Kinds.Signature payload at further files same es = same es
joined_block Kinds.Contents payload at further files same es = joined_contents (nat_lt (length payload) 8) payload at further files same es refl

-- ---- all of them

nothing_left : (es : List ExpectedFile) → files_joined_from_pieces (pieces_read_from_blocks es done) [] ≡ files_read_from_blocks es done
unfolding pieces_read_from_blocks files_read_from_blocks
nothing_left [] = refl
nothing_left (e ∷ es) = refl

pub joined : (es : List ExpectedFile) (r : Reading) → files_joined_from_pieces (pieces_read_from_blocks es r) [] ≡ files_read_from_blocks es r
unfolding pieces_read_from_blocks files_read_from_blocks
joined es done = nothing_left es
joined es (fault c) = refl
joined es (more b at r) = joined_block b.kind b.payload at (λ left. pieces_read_from_blocks left r) (λ left. files_read_from_blocks left r) (λ left. joined left r) es
