-- The bytes that were read are the next piece.
use Rattle.std.proofs.Common.{◌≡◌, ◌≤◌, ◌+◌, ◌-◌, ℕ, List, ◌++◌, length, Ok, Err, ap, sym, subst, ◌∙◌, arith, refl, Option}
use Rattle.std.specs.Prelude.{IfSome, IfNone}
use Rattle.pkg_core.specs.Pieces.{PiecesRead}
use Rattle.pkg_core.specs.Taking.{HasTaken, IsTakeResult, file_bytes_left, IsPartOfCheckedFile}
use Rattle.package_reader.proofs.FileDue.{refused_whole, taken_whole, taken_further}
use Rattle.package_reader.proofs.PieceRead.{all_long, before_is, behind_piece, disk_piece, next_further, not_disk, disk_tested}
use Rattle.package_reader.proofs.BlockSeen.{not_ok}
use Rattle.pkg_core.proofs.SeenBytes.{reads_err, reads_bad, reads_ok}
use Rattle.package_reader.specs.declared.piece.PieceFault.TheVariants.{Disk as DiskFault, Bad}
use Rattle.pkg_core.specs.declared.file.FileCheck.{FileCheck}
use Rattle.package_reader.proofs.open.OpenFile.next_piece.Goals as goal

pub returns-in_err-read-clause-seen : goal.returns-in_err-read-clause-seen
returns-in_err-read-clause-seen g c = λ other. absurd (not_disk _ c.in_err-read.field-0.0 c.from_residual.ensures.1 c.in_err-read.ensures.disk other)

pub returns-in_err-read-clause-piece : goal.returns-in_err-read-clause-piece
returns-in_err-read-clause-piece g c = λ file so_far further before has room is. disk_piece so_far file c.read.new.self further before _ c.in_err-read.field-0.0 c.from_residual.ensures.1 c.in_err-read.ensures.disk

pub returns-in-Ok-default-Some-clause-piece : goal.returns-in-Ok-default-Some-clause-piece
returns-in-Ok-default-Some-clause-piece g c = λ file so_far further before has room is.
    let o = c.args.self in
    let bytes = c.read.new.self in
    let few : length bytes ≤ file_bytes_left o.file = omega (arith, c.in_ok-read.ensures.len, c.next_piece_len-len.ensures) in
    let came = subst (λ (xs : List ℕ). (so_far left : List ℕ) (further : PiecesRead) → HasTaken o.file so_far → length (so_far ++ (xs ++ left)) ≡ o.file.wanted.size → IsTakeResult o.file so_far xs left further (Ok (c.in-Ok-default-Some.part, c.in-Ok-default-Some.field-0-1))) c.bytes.ensures.bytes c.in-Ok-default-Some.ensures.taken so_far (behind_piece o bytes file) further is.taken (all_long o so_far file bytes further before few has is) in
    let taken = subst (λ f. IsTakeResult o.file so_far bytes (behind_piece o bytes file) further (Ok (c.in-Ok-default-Some.part, f))) c.in-Ok-default-Some.field-0-1-is came in
    let few_left = subst (λ (xs : List ℕ). IfSome c.in-Ok-default-Some.field-0-1 (λ further. file_bytes_left further ≡ file_bytes_left o.file - length xs)) c.bytes.ensures.bytes c.in-Ok-default-Some.ensures.left in
    let left = subst (λ f. IfSome f (λ further. file_bytes_left further ≡ file_bytes_left o.file - length bytes)) c.in-Ok-default-Some.field-0-1-is few_left in
    next_further o c.in-Ok-default-Some.file (o.at + c.next_piece_len-len.result) so_far file bytes c.in-Ok-default-Some.part further before few has is taken (ap (λ (n : ℕ). o.at + n) (sym c.in_ok-read.ensures.len)) left

pub returns-in-Ok-default-None-clause-piece : goal.returns-in-Ok-default-None-clause-piece
returns-in-Ok-default-None-clause-piece g c = λ file so_far further before has room is.
    let o = c.args.self in
    let bytes = c.read.new.self in
    let few : length bytes ≤ file_bytes_left o.file = omega (arith, c.in_ok-read.ensures.len, c.next_piece_len-len.ensures) in
    let came = subst (λ (xs : List ℕ). (so_far left : List ℕ) (further : PiecesRead) → HasTaken o.file so_far → length (so_far ++ (xs ++ left)) ≡ o.file.wanted.size → IsTakeResult o.file so_far xs left further (Ok (c.in-Ok-default-None.part, c.in-Ok-default-None.field-0-1))) c.bytes.ensures.bytes c.in-Ok-default-None.ensures.taken so_far (behind_piece o bytes file) further is.taken (all_long o so_far file bytes further before few has is) in
    let taken = subst (λ f. IsTakeResult o.file so_far bytes (behind_piece o bytes file) further (Ok (c.in-Ok-default-None.part, f))) c.in-Ok-default-None.field-0-1-is came in
    before_is o so_far file bytes further before few has is ∙ taken

pub returns-in-Err-clause-piece : goal.returns-in-Err-clause-piece
returns-in-Err-clause-piece g c = λ file so_far further before has room is.
    let o = c.args.self in
    let bytes = c.read.new.self in
    let few : length bytes ≤ file_bytes_left o.file = omega (arith, c.in_ok-read.ensures.len, c.next_piece_len-len.ensures) in
    let taken = subst (λ (xs : List ℕ). (so_far left : List ℕ) (further : PiecesRead) → HasTaken o.file so_far → length (so_far ++ (xs ++ left)) ≡ o.file.wanted.size → IsTakeResult o.file so_far xs left further (Err c.in-Err.cause)) c.bytes.ensures.bytes c.in-Err.ensures.taken so_far (behind_piece o bytes file) further is.taken (all_long o so_far file bytes further before few has is) in
    before_is o so_far file bytes further before few has is ∙ taken

pub returns-in-Err-clause-digest : goal.returns-in-Err-clause-digest
returns-in-Err-clause-digest g c = λ so_far has some.
    let o = c.args.self in
    let taken = subst (λ (xs : List ℕ). (so_far left : List ℕ) (further : PiecesRead) → HasTaken o.file so_far → length (so_far ++ (xs ++ left)) ≡ o.file.wanted.size → IsTakeResult o.file so_far xs left further (Err c.in-Err.cause)) c.bytes.ensures.bytes c.in-Err.ensures.taken in
    refused_whole o.file so_far c.read.new.self c.in-Err.cause has some (c.in_ok-read.ensures.len ∙ c.next_piece_len-len.ensures) taken

pub returns-in-Ok-default-None-clause-digest : goal.returns-in-Ok-default-None-clause-digest
returns-in-Ok-default-None-clause-digest g c = λ so_far has some. taken_whole c.args.self.file so_far c.bytes.result.now c.read.new.self c.in-Ok-default-None.field-0-1 c.bytes.ensures.bytes c.in-Ok-default-None.field-0-1-is has some c.in-Ok-default-None.ensures.all (c.in-Ok-default-None.ensures.digest so_far has)

pub returns-in_err-read-clause-len : goal.returns-in_err-read-clause-len
returns-in_err-read-clause-len g c = λ other. absurd (not_disk _ c.in_err-read.field-0.0 c.from_residual.ensures.1 c.in_err-read.ensures.disk other)

pub returns-in_err-read-clause-part : goal.returns-in_err-read-clause-part
returns-in_err-read-clause-part g c = not_ok _ _ c.in_err-read.field-0.0 c.from_residual.ensures.1

pub returns-in_err-read-clause-more : goal.returns-in_err-read-clause-more
returns-in_err-read-clause-more g c = not_ok _ _ c.in_err-read.field-0.0 c.from_residual.ensures.1

pub returns-in_err-read-clause-all : goal.returns-in_err-read-clause-all
returns-in_err-read-clause-all g c = not_ok _ _ c.in_err-read.field-0.0 c.from_residual.ensures.1

pub returns-in_err-read-clause-room : goal.returns-in_err-read-clause-room
returns-in_err-read-clause-room g c = not_ok _ _ c.in_err-read.field-0.0 c.from_residual.ensures.1

pub returns-in_err-read-clause-digest : goal.returns-in_err-read-clause-digest
returns-in_err-read-clause-digest g c = λ so_far has some. disk_tested c.args.self _ _ c.in_err-read.field-0.0 c.from_residual.ensures.1 c.in_err-read.ensures.disk

pub returns-in_err-read-clause-tree : goal.returns-in_err-read-clause-tree
returns-in_err-read-clause-tree g c = λ file_len room. reads_err _ _ DiskFault _ _ _ _ c.in_err-read.field-0.0 _ c.from_residual.ensures.1 (c.in_err-read.ensures.tree file_len (omega (arith, room, c.next_piece_len-len.ensures)))

pub returns-in-Ok-default-Some-clause-digest : goal.returns-in-Ok-default-Some-clause-digest
returns-in-Ok-default-Some-clause-digest g c = λ so_far has some. taken_further c.args.self.file so_far c.bytes.result.now c.read.new.self c.in-Ok-default-Some.file c.in-Ok-default-Some.field-0-1 c.in-Ok-default-Some.part c.bytes.ensures.bytes c.in-Ok-default-Some.field-0-1-is c.in-Ok-default-Some.ensures.part (c.in-Ok-default-Some.ensures.digest so_far has)

pub returns-in-Ok-default-Some-clause-tree : goal.returns-in-Ok-default-Some-clause-tree
returns-in-Ok-default-Some-clause-tree g c = λ file_len room. reads_ok _ _ DiskFault _ _ _ _ _ _ (c.in_ok-read.ensures.tree file_len (omega (arith, room, c.next_piece_len-len.ensures)))

pub returns-in-Ok-default-None-clause-tree : goal.returns-in-Ok-default-None-clause-tree
returns-in-Ok-default-None-clause-tree g c = λ file_len room. reads_ok _ _ DiskFault _ _ _ _ _ _ (c.in_ok-read.ensures.tree file_len (omega (arith, room, c.next_piece_len-len.ensures)))

pub returns-in-Err-clause-tree : goal.returns-in-Err-clause-tree
returns-in-Err-clause-tree g c = λ file_len room. reads_bad _ _ DiskFault DiskFault _ _ _ _ _ (Bad c.in-Err.cause) _ refl (λ e. (cc)) (c.in_ok-read.ensures.tree file_len (omega (arith, room, c.next_piece_len-len.ensures)))

pub returns-in-Ok-default-Some-clause-part : goal.returns-in-Ok-default-Some-clause-part
returns-in-Ok-default-Some-clause-part g c =
    let part = subst (λ (f : Option FileCheck). IsPartOfCheckedFile c.args.self.file (c.in-Ok-default-Some.part, f)) c.in-Ok-default-Some.field-0-1-is c.in-Ok-default-Some.ensures.part in
    (part.0, part.1, ap (λ (n : ℕ). c.args.self.at + n) (sym c.in_ok-read.ensures.len))

pub returns-in-Ok-default-None-clause-part : goal.returns-in-Ok-default-None-clause-part
returns-in-Ok-default-None-clause-part g c = subst (λ (f : Option FileCheck). IsPartOfCheckedFile c.args.self.file (c.in-Ok-default-None.part, f)) c.in-Ok-default-None.field-0-1-is c.in-Ok-default-None.ensures.part

pub returns-in-Ok-default-None-clause-all : goal.returns-in-Ok-default-None-clause-all
returns-in-Ok-default-None-clause-all g c = ap length (sym c.bytes.ensures.bytes) ∙ subst (λ (f : Option FileCheck). IfNone f (length c.bytes.result.now ≡ file_bytes_left c.args.self.file)) c.in-Ok-default-None.field-0-1-is c.in-Ok-default-None.ensures.all

pub returns-in-Ok-default-Some-clause-room : goal.returns-in-Ok-default-Some-clause-room
returns-in-Ok-default-Some-clause-room g c =
    let o = c.args.self in
    let few = c.in_ok-read.ensures.len in
    let len = c.next_piece_len-len.ensures in
    let long : length c.bytes.result.now ≡ length c.read.new.self = ap length c.bytes.ensures.bytes in
    let left = subst (λ (f : Option FileCheck). IfSome f (λ further. file_bytes_left further ≡ file_bytes_left o.file - length c.bytes.result.now)) c.in-Ok-default-Some.field-0-1-is c.in-Ok-default-Some.ensures.left in
    omega (arith, few, len, long, left)
