-- What was seen of the file's block, and then of the piece.
use Rattle.std.proofs.Common.{◌≡◌, ◌≤◌, ◌+◌, ℕ, subst, length, arith}
use Rattle.pkg_core.specs.Taking.{file_bytes_left}
use Rattle.pkg_core.specs.Seen.{HasBytesAtOffset}
use Rattle.package_reader.specs.Readers.{offset_of, package_len}
use Rattle.package_reader.specs.declared.piece.PieceFault.TheVariants.{Disk as DiskFault}
use Rattle.pkg_core.proofs.SeenBytes.{reads_err, reads_in_a_row, reads_ok}
use Rattle.package_reader.proofs.BlockSeen.{not_ok}
use Rattle.package_reader.proofs.FilesFound.{seen_up_to}
use Rattle.package_reader.proofs.Readings.{behind, behind_part, after_within, read_err, read_some, renamed, seen_unless_disk}
use Rattle.package_reader.proofs.reader.PieceReader.read_next.Goals as goal

pub next_piece-requires : goal.next_piece-requires
next_piece-requires g c =
    let room = rw c.in-Some.is at c.in_ok-file.ensures.room in
    omega (arith, room)

pub returns-in_err-part-clause-piece : goal.returns-in_err-part-clause-piece
returns-in_err-part-clause-piece g c =
    let o = c.in-Some.file in
    let old = c.args.self.now in
    let mid = c.open_next.new.self in
    let bytes = c.next_piece.new.piece in
    let fault = c.in_err-part.field-0.0 in
    let is = c.from_residual-in_err-part.ensures.1 in
    let room : o.at + file_bytes_left o.file ≤ mid.place.at = rw c.in-Some.is at c.in_ok-file.ensures.room in
    let len : mid.place.len ≡ old.place.len = c.open_next.ensures.len in
    let b = rw c.in-Some.is at c.in_ok-file.ensures.file in
    let seen = seen_unless_disk _ _ _ (package_len old) (offset_of old) o.at (file_bytes_left o.file) b.0 bytes fault c.open_next.ensures.tree.same b.2 (omega (arith, room, len, mid.within)) b.1 (λ good. omega (arith, c.in_err-part.ensures.len good)) (λ good. rw c.open_next.ensures.name at (c.in_err-part.ensures.seen good (package_len old))) in (
      seen.all,
      seen.is_seen,
      not_ok _ _ _ is,
      λ pkg long has before are.
          let opened = b.3 pkg long (seen.has_first pkg has) before are in (
            read_err old mid mid o pkg bytes before fault _ is opened (λ cause bad so_far further pieces file. c.in_err-part.ensures.piece pkg so_far further pieces (seen.has_bytes cause bad pkg has) (omega (arith, room, len, mid.within, long)) file),
            not_ok _ _ _ is,
          ),
    )

pub returns-in_err-part-clause-tree : goal.returns-in_err-part-clause-tree
returns-in_err-part-clause-tree g c =
    let o = c.in-Some.file in
    let old = c.args.self.now in
    let mid = c.open_next.new.self in
    let room : o.at + file_bytes_left o.file ≤ mid.place.at = rw c.in-Some.is at c.in_ok-file.ensures.room in
    let len : mid.place.len ≡ old.place.len = c.open_next.ensures.len in
    let fits : o.at + file_bytes_left o.file ≤ package_len old = omega (arith, room, len, mid.within) in
    reads_in_a_row _ _ DiskFault DiskFault _ _ _ _ _ _ _ _ c.in_ok-file.ensures.tree (reads_err _ _ DiskFault _ _ _ _ c.in_err-part.field-0.0 _ c.from_residual-in_err-part.ensures.1 (renamed _ _ _ _ _ _ _ _ _ c.open_next.ensures.name (c.in_err-part.ensures.tree (package_len old) fits)))

pub returns-clause-piece : goal.returns-clause-piece
returns-clause-piece g c =
    let o = c.in-Some.file in
    let old = c.args.self.now in
    let mid = c.open_next.new.self in
    let bytes = c.next_piece.new.piece in
    let part = c.in_ok-part.part in
    let rest = c.in_ok-part.rest in
    let room : o.at + file_bytes_left o.file ≤ mid.place.at = rw c.in-Some.is at c.in_ok-file.ensures.room in
    let len : mid.place.len ≡ old.place.len = c.open_next.ensures.len in
    let few : length bytes ≤ file_bytes_left o.file = omega (arith, c.in_ok-part.ensures.len tt) in
    let b = rw c.in-Some.is at c.in_ok-file.ensures.file in
    let is_part = c.in_ok-part.ensures.part in
    let start = rw c.in-Some.is at c.in_ok-file.ensures.start in
    let within = after_within mid.place o rest part (length bytes) room mid.within few is_part in
    let seen = seen_up_to _ _ _ (package_len old) (offset_of old) _ o.at b.0 bytes c.open_next.ensures.tree.same b.2 (behind mid.place o rest part (length bytes) room few is_part) (omega (arith, within, len)) b.1 (record { seen = rw c.open_next.ensures.name at (c.in_ok-part.ensures.seen tt (package_len old)); within = omega (arith, room, len, mid.within, few) }) in (
      seen.all,
      seen.is_seen,
      seen.ends,
      λ pkg long has before are.
          let opened = b.3 pkg long (seen.has_first pkg has) before are in (
            read_some old mid o rest pkg bytes before part opened (λ so_far further pieces file. c.in_ok-part.ensures.piece pkg so_far further pieces (seen.has_second pkg has) (omega (arith, room, len, mid.within, long)) file),
            subst (λ (n : ℕ). HasBytesAtOffset pkg n bytes) start.located (seen.has_second pkg has),
          ),
    )

pub returns-clause-tree : goal.returns-clause-tree
returns-clause-tree g c =
    let o = c.in-Some.file in
    let old = c.args.self.now in
    let mid = c.open_next.new.self in
    let room : o.at + file_bytes_left o.file ≤ mid.place.at = rw c.in-Some.is at c.in_ok-file.ensures.room in
    let len : mid.place.len ≡ old.place.len = c.open_next.ensures.len in
    let fits : o.at + file_bytes_left o.file ≤ package_len old = omega (arith, room, len, mid.within) in
    reads_in_a_row _ _ DiskFault DiskFault _ _ _ _ _ _ _ _ c.in_ok-file.ensures.tree (reads_ok _ _ DiskFault _ _ _ _ _ _ (renamed _ _ _ _ _ _ _ _ _ c.open_next.ensures.name (c.in_ok-part.ensures.tree (package_len old) fits)))

pub returns-clause-bytes : goal.returns-clause-bytes
returns-clause-bytes g c =
    let b = rw c.in-Some.is at c.in_ok-file.ensures.file in
    let ends = b.2 in
    λ more. behind_part c.open_next.new.self.place c.in-Some.file c.in_ok-part.rest c.in_ok-part.part (length c.next_piece.new.piece) (offset_of c.args.self.now) (omega (arith, ends)) c.in_ok-part.ensures.part more
