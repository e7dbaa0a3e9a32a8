-- The bytes of a piece, and those after them.
use Rattle.std.proofs.Common.{◌≡◌, ℕ, ◌+◌, ◌-◌, ◌≤◌, List, ◌++◌, length, take, drop, Option, Some, Result, Ok, Err, ap, sym, ◌∙◌, arith, subst}
use Rattle.std.specs.Prelude.{IsErrAnd, IfSome}
use Rattle.std.proofs.lemmas.List.{length-append}
use Rattle.pkg_core.specs.Seen.{HasBytesAtOffset, AreBytesRead}
use Rattle.pkg_core.proofs.SeenBytes.{drop_further, take_more, seen_by_read}
use Rattle.pkg_core.specs.Pieces.{PiecesRead}
use Rattle.pkg_core.specs.Taking.{IsTakeResult, file_bytes_left, pieces_in}
use Rattle.pkg_core.specs.declared.file.FileCheck.{FileCheck}
use Rattle.pkg_core.specs.declared.file.Part.{Part}
use Rattle.package_reader.specs.Opened.{IsResultOfNextPiece, IsOpenFile, IsNotDiskResult, unread_bytes, AreTestedSoFar}
use Rattle.package_reader.specs.declared.piece.PieceFault.{PieceFault}
use Rattle.package_reader.specs.declared.piece.PieceFault.TheVariants.{Bad, Disk}
use Rattle.std.proofs.Math.Seq.{take-append_seam}
use Rattle.base_core.specs.Calls.{IfObservable}
use Rattle.base_core.specs.Tree.{TreeState, files_of}
use Rattle.package_reader.specs.declared.open.OpenFile.{OpenFile}

-- ---- the tree failed

pub not_disk : {A : Type 0} (r : Result A PieceFault) (fault : PieceFault) → IsErrAnd r (λ other. other ≡ fault) → fault ≡ Disk → IsNotDiskResult r → ⊥
not_disk (Ok value) fault is disk h = is
not_disk (Err (Bad c)) fault is disk h = let e : Bad c ≡ Disk = is ∙ disk in (cc)
not_disk (Err Disk) fault is disk h = h

pub disk_piece : (so_far file bytes : List ℕ) (further before : PiecesRead) (r : Result (Part × Option OpenFile) PieceFault) (fault : PieceFault) → IsErrAnd r (λ other. other ≡ fault) → fault ≡ Disk → IsResultOfNextPiece so_far file bytes further before r
disk_piece so_far file bytes further before (Ok value) fault is disk = absurd is
disk_piece so_far file bytes further before (Err (Bad c)) fault is disk = absurd (let e : Bad c ≡ Disk = is ∙ disk in (cc))
disk_piece so_far file bytes further before (Err Disk) fault is disk = tt

-- ---- a piece

-- of the bytes to come, those after the piece
abbrev pub behind_piece : OpenFile → List ℕ → List ℕ → List ℕ
behind_piece o bytes file = take (file_bytes_left o.file - length bytes) (drop (o.at + length bytes) file)

pub piece_first : (o : OpenFile) (file bytes : List ℕ) → length bytes ≤ file_bytes_left o.file → HasBytesAtOffset file o.at bytes → unread_bytes o file ≡ bytes ++ behind_piece o bytes file
piece_first o file bytes few has =
    let n = file_bytes_left o.file in
    let both : n ≡ length bytes + (n - length bytes) = omega (arith, few) in
    ap (λ (k : ℕ). take k (drop o.at file)) both
    ∙ (take_more (length bytes) (n - length bytes) (drop o.at file)
    ∙ (ap (λ (xs : List ℕ). xs ++ take (n - length bytes) (drop (length bytes) (drop o.at file))) has
    ∙ ap (λ (xs : List ℕ). bytes ++ take (n - length bytes) xs) (drop_further o.at (length bytes) file)))

pub all_long : (o : OpenFile) (so_far file bytes : List ℕ) (further before : PiecesRead) → length bytes ≤ file_bytes_left o.file → HasBytesAtOffset file o.at bytes → IsOpenFile o so_far file further before → length (so_far ++ (bytes ++ behind_piece o bytes file)) ≡ o.file.wanted.size
all_long o so_far file bytes further before few has is =
    ap (λ (xs : List ℕ). length (so_far ++ xs)) (sym (piece_first o file bytes few has)) ∙ is.long

pub before_is : (o : OpenFile) (so_far file bytes : List ℕ) (further before : PiecesRead) → length bytes ≤ file_bytes_left o.file → HasBytesAtOffset file o.at bytes → IsOpenFile o so_far file further before → before ≡ pieces_in o.file so_far (bytes ++ behind_piece o bytes file) further
before_is o so_far file bytes further before few has is =
    is.come ∙ ap (λ (xs : List ℕ). pieces_in o.file so_far xs further) (piece_first o file bytes few has)

append_assoc : (xs ys zs : List ℕ) → length ((xs ++ ys) ++ zs) ≡ length (xs ++ (ys ++ zs))
append_assoc xs ys zs =
    let a = length-append (xs ++ ys) zs in
    let b = length-append xs ys in
    let c = length-append xs (ys ++ zs) in
    let d = length-append ys zs in
    omega (arith, a, b, c, d)

-- a piece after which more is left
pub next_further : (o : OpenFile) (g : FileCheck) (at : ℕ) (so_far file bytes : List ℕ) (part : Part) (further before : PiecesRead) → length bytes ≤ file_bytes_left o.file → HasBytesAtOffset file o.at bytes → IsOpenFile o so_far file further before → IsTakeResult o.file so_far bytes (behind_piece o bytes file) further (Ok (part, Some g)) → at ≡ o.at + length bytes → file_bytes_left g ≡ file_bytes_left o.file - length bytes
    → IsResultOfNextPiece so_far file bytes further before (Ok (part, Some (record { file = g; at = at })))
next_further o g at so_far file bytes part further before few has is taken located left =
    let come : behind_piece o bytes file ≡ take (file_bytes_left g) (drop at file) = ap (λ (n : ℕ). take n (drop (o.at + length bytes) file)) (sym left) ∙ ap (λ (n : ℕ). take (file_bytes_left g) (drop n file)) (sym located) in
    let size : g.wanted.size ≡ o.file.wanted.size = ap (λ w. w.size) taken.2 in (
      pieces_in g (so_far ++ bytes) (behind_piece o bytes file) further,
      before_is o so_far file bytes further before few has is ∙ taken.0,
      record {
        taken = taken.1;
        long = ap (λ (xs : List ℕ). length ((so_far ++ bytes) ++ xs)) (sym come) ∙ (append_assoc so_far bytes (behind_piece o bytes file) ∙ (all_long o so_far file bytes further before few has is ∙ sym size));
        come = ap (λ (xs : List ℕ). pieces_in g (so_far ++ bytes) xs further) come;
      },
    )

-- ---- the buffer

-- the first bytes of a buffer are those that were read into it
read_front : (n : ℕ) (bytes rest : List ℕ) → length bytes ≡ n → take n (bytes ++ rest) ≡ bytes
read_front n bytes rest long = ap (λ (k : ℕ). take k (bytes ++ rest)) (sym long) ∙ take-append_seam bytes rest

-- a piece has as many bytes as were read
pub read_len : (n : ℕ) (bytes rest : List ℕ) → length bytes ≡ n → length (take n (bytes ++ rest)) ≡ n
read_len n bytes rest long = ap length (read_front n bytes rest long) ∙ long

-- a piece has the bytes that were read
pub read_seen : (h : List TreeState) (name : List ℕ) (len at n m : ℕ) (bytes rest : List ℕ) → IfObservable h (λ v. IfSome (files_of v name) (λ file. bytes ≡ take m (drop at file))) → length bytes ≡ m → length bytes ≡ n → AreBytesRead h name len at (take n (bytes ++ rest))
read_seen h name len at n m bytes rest value many long =
    subst (λ (xs : List ℕ). AreBytesRead h name len at xs) (sym (read_front n bytes rest long)) (seen_by_read h name len at m bytes value many)

-- if the tree failed, nothing is stated of the bytes
pub disk_tested : (o : OpenFile) (bytes : List ℕ) (r : Result (Part × Option OpenFile) PieceFault) (fault : PieceFault) → IsErrAnd r (λ other. other ≡ fault) → fault ≡ Disk → AreTestedSoFar o bytes r
disk_tested o bytes (Ok value) fault is disk = absurd is
disk_tested o bytes (Err (Bad c)) fault is disk = absurd (let e : Bad c ≡ Disk = is ∙ disk in (cc))
disk_tested o bytes (Err Disk) fault is disk = tt
