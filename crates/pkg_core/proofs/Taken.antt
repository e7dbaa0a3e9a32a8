-- One piece more of a file.
use Rattle.std.proofs.Common.{◌≡◌, ℕ, suc, ◌-◌, ◌<◌, ◌≤◌, min, true, false, List, [], ◌++◌, length, take, drop, Option, Some, None, ap, sym, ◌∙◌, append_assoc, append-nil, arith}
use Rattle.std.proofs.lemmas.List.{length-append, take_at, drop_at, nil_from_length}
use Rattle.base_core.specs.declared.cause.Cause.{Cause}
use Rattle.pkg_core.specs.Contents.{ExpectedFile, fault_if_digest_is_not_of_bytes}
use Rattle.pkg_core.specs.Pieces.{PiecesRead, refusal, piece, last_piece, part_of, pieces_of_one_file, piece_count_before_last}

-- ---- how many pieces

one_more : (left : ℕ) → 65536 < left → piece_count_before_last left ≡ suc (piece_count_before_last (left - 65536))
one_more left h = omega arith

no_whole : (left : ℕ) → left ≤ 65536 → piece_count_before_last left ≡ 0
no_whole left h = omega arith

-- ---- a whole piece

whole_piece : (e : ExpectedFile) (digest : Option Cause) (bytes left : List ℕ) (further : PiecesRead) → length bytes ≡ 65536 → 0 < length left
    → pieces_of_one_file (piece_count_before_last (length (bytes ++ left))) e digest (bytes ++ left) further ≡ piece (part_of e false) bytes (pieces_of_one_file (piece_count_before_last (length left)) e digest left further)
whole_piece e digest bytes left further whole some =
    let all = length-append bytes left in
    let count : piece_count_before_last (length (bytes ++ left)) ≡ suc (piece_count_before_last (length left)) = one_more (length (bytes ++ left)) (omega arith) ∙ ap (λ (k : ℕ). suc (piece_count_before_last k)) (omega arith) in
    let here : take 65536 (bytes ++ left) ≡ bytes = take_at bytes left 65536 whole in
    let there : drop 65536 (bytes ++ left) ≡ left = drop_at bytes left 65536 whole in
    ap (λ (k : ℕ). pieces_of_one_file k e digest (bytes ++ left) further) count
    ∙ (λ k. piece (part_of e false) (here k) (pieces_of_one_file (piece_count_before_last (length left)) e digest (there k) further))

pub more_left : (e : ExpectedFile) (hash so_far bytes left : List ℕ) (further : PiecesRead) (size : ℕ) → length (so_far ++ (bytes ++ left)) ≡ size → length bytes ≡ min (size - length so_far) 65536 → length bytes < size - length so_far
    → pieces_of_one_file (piece_count_before_last (length (bytes ++ left))) e (fault_if_digest_is_not_of_bytes hash (so_far ++ (bytes ++ left))) (bytes ++ left) further
    ≡ piece (part_of e false) bytes (pieces_of_one_file (piece_count_before_last (length left)) e (fault_if_digest_is_not_of_bytes hash ((so_far ++ bytes) ++ left)) left further)
more_left e hash so_far bytes left further size long len less =
    let a = length-append so_far (bytes ++ left) in
    let b = length-append bytes left in
    whole_piece e (fault_if_digest_is_not_of_bytes hash (so_far ++ (bytes ++ left))) bytes left further (omega arith) (omega arith)
    ∙ ap (λ (xs : List ℕ). piece (part_of e false) bytes (pieces_of_one_file (piece_count_before_last (length left)) e (fault_if_digest_is_not_of_bytes hash xs) left further)) (sym (append_assoc so_far bytes left))

-- ---- the last piece

last_one : (e : ExpectedFile) (hash so_far bytes left : List ℕ) (further : PiecesRead) (size : ℕ) → length (so_far ++ (bytes ++ left)) ≡ size → length bytes ≡ min (size - length so_far) 65536 → size - length so_far ≤ length bytes
    → pieces_of_one_file (piece_count_before_last (length (bytes ++ left))) e (fault_if_digest_is_not_of_bytes hash (so_far ++ (bytes ++ left))) (bytes ++ left) further ≡ last_piece e (fault_if_digest_is_not_of_bytes hash (so_far ++ bytes)) bytes further
last_one e hash so_far bytes left further size long len least =
    let a = length-append so_far (bytes ++ left) in
    let b = length-append bytes left in
    let none : left ≡ [] = nil_from_length left (omega arith) in
    let all : bytes ++ left ≡ bytes = ap (λ (xs : List ℕ). bytes ++ xs) none ∙ append-nil bytes in
    ap (λ (xs : List ℕ). pieces_of_one_file (piece_count_before_last (length xs)) e (fault_if_digest_is_not_of_bytes hash (so_far ++ xs)) xs further) all
    ∙ ap (λ (k : ℕ). pieces_of_one_file k e (fault_if_digest_is_not_of_bytes hash (so_far ++ bytes)) bytes further) (no_whole (length bytes) (omega arith))

pub last_good : (e : ExpectedFile) (hash so_far bytes left : List ℕ) (further : PiecesRead) (size : ℕ) → length (so_far ++ (bytes ++ left)) ≡ size → length bytes ≡ min (size - length so_far) 65536 → size - length so_far ≤ length bytes → None ≡ fault_if_digest_is_not_of_bytes hash (so_far ++ bytes)
    → pieces_of_one_file (piece_count_before_last (length (bytes ++ left))) e (fault_if_digest_is_not_of_bytes hash (so_far ++ (bytes ++ left))) (bytes ++ left) further ≡ piece (part_of e true) bytes further
last_good e hash so_far bytes left further size long len least good =
    last_one e hash so_far bytes left further size long len least ∙ ap (λ (d : Option Cause). last_piece e d bytes further) (sym good)

pub last_bad : (e : ExpectedFile) (hash so_far bytes left : List ℕ) (further : PiecesRead) (size : ℕ) (c : Cause) → length (so_far ++ (bytes ++ left)) ≡ size → length bytes ≡ min (size - length so_far) 65536 → size - length so_far ≤ length bytes → Some c ≡ fault_if_digest_is_not_of_bytes hash (so_far ++ bytes)
    → pieces_of_one_file (piece_count_before_last (length (bytes ++ left))) e (fault_if_digest_is_not_of_bytes hash (so_far ++ (bytes ++ left))) (bytes ++ left) further ≡ refusal c
last_bad e hash so_far bytes left further size c long len least bad =
    last_one e hash so_far bytes left further size long len least ∙ ap (λ (d : Option Cause). last_piece e d bytes further) (sym bad)
