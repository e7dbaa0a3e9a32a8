-- Where a reader of pieces stands.
use Rattle.std.proofs.Common.{◌≡◌, ℕ, ◌+◌, ◌≤◌, min, false, List, [], ◌++◌, length, Option, Some, None, Result, Ok, Err, drop, refl, ap, sym, subst, ◌∙◌, arith, ◌-◌}
use Rattle.std.specs.Prelude.{IsErrAnd, IfSome}
use Rattle.std.proofs.lemmas.Bool.{false≢true}
use Rattle.base_core.specs.declared.cause.Cause.{Cause}
use Rattle.base_core.specs.Faults.{Counts}
use Rattle.base_core.specs.Tree.{TreeState}
use Rattle.pkg_core.specs.Seen.{AreBytesRead, HasBytesAtOffset, IsSeenIn, ReadsFile}
use Rattle.adb_block.specs.Reading.{block_stream_from}
use Rattle.adb_block.specs.declared.block.BlockKind.{BlockKind}
use Rattle.pkg_core.specs.Contents.{ExpectedFile}
use Rattle.pkg_core.specs.Pieces.{PiecesRead, piece, pieces_read_from_blocks, refusal}
use Rattle.pkg_core.specs.Taking.{file_bytes_left, next_piece_len}
use Rattle.pkg_core.specs.declared.file.Part.{Part}
use Rattle.pkg_core.specs.Places.{pieces_at}
use Rattle.pkg_core.specs.declared.place.BlockPlace.{BlockPlace}
use Rattle.package_reader.specs.Opened.{IsResultOfNextPiece, IsOpenFile, IsPieceOf, IsNotDiskResult}
use Rattle.package_reader.specs.Readers.{AreUnreadPieces, ArePiecesFrom, IsFileOpened, IsPieceRead, IsReading, next_read_offset, IsStartOf, name_in_tree, offset_of, package_len, returned_len, returned_len_from, start_of_file}
use Rattle.package_reader.specs.declared.piece.PieceFault.{PieceFault}
use Rattle.package_reader.specs.declared.piece.PieceFault.TheVariants.{Bad, Disk}
use Rattle.package_reader.specs.declared.open.OpenFile.{OpenFile}
use Rattle.package_reader.specs.declared.reader.Due.{Due}
use Rattle.package_reader.specs.declared.reader.Due.TheVariants.{Files}
use Rattle.package_reader.specs.declared.reader.PieceReader.{PieceReader}
use Rattle.package_reader.proofs.BlockSeen.{nothing_seen}
use Rattle.package_reader.proofs.FileRead.{ends_within}
use Rattle.package_reader.proofs.FilesFound.{seen_up_to}

-- the schema of a file plays no part after its first block
pub any_schema : (es : List ExpectedFile) (schema at : ℕ) (last : Option BlockKind) (pkg : List ℕ) → pieces_read_from_blocks es (block_stream_from (record { schema = schema; last = last; at = at; left = drop at pkg })) ≡ pieces_read_from_blocks es (block_stream_from (record { schema = 0; last = last; at = at; left = drop at pkg }))
unfolding block_stream_from
any_schema es schema at last pkg = refl

pub in_front : (reader : PieceReader) (place : BlockPlace) (pkg : List ℕ) (pieces : PiecesRead) → reader.place ≡ place → reader.opened ≡ None → reader.due ≡ Files → pieces ≡ pieces_at place pkg → IsReading reader pkg pieces
in_front reader place pkg pieces same opened due is =
    subst (λ (d : Due). AreUnreadPieces d reader.place reader.opened pkg pieces) (sym due)
    (subst (λ (o : Option OpenFile). ArePiecesFrom reader.place o pkg pieces) (sym opened)
    (is ∙ ap (λ (p : BlockPlace). pieces_at p pkg) (sym same)))

pub renamed : {A E : Type 0} (n m : List ℕ) (len : ℕ) (e : E) (h0 h1 : List TreeState) (a b : Counts) (r : Result A E) → n ≡ m → ReadsFile n len e h0 h1 a b r → ReadsFile m len e h0 h1 a b r
renamed n m len e h0 h1 a b r same reads = subst (λ (k : List ℕ). ReadsFile k len e h0 h1 a b r) same reads

-- ---- the bytes

-- those of a piece too, unless the tree failed
pub record IsSeenUnlessDisk (h : List TreeState) (name : List ℕ) (len at file_at : ℕ) (first bytes : List ℕ) (fault : PieceFault) : Type 0 where
  pub all : List ℕ
  pub is_seen : IsSeenIn h name len at all
  pub has_first : (pkg : List ℕ) → HasBytesAtOffset pkg at all → HasBytesAtOffset pkg at first
  pub has_bytes : (c : Cause) → fault ≡ Bad c → (pkg : List ℕ) → HasBytesAtOffset pkg at all → HasBytesAtOffset pkg file_at bytes

pub seen_unless_disk : (h later : List TreeState) (name : List ℕ) (len at file_at left : ℕ) (first bytes : List ℕ) (fault : PieceFault) → later ≡ h → at + length first ≡ file_at → file_at + left ≤ len → IsSeenIn h name len at first → (IsNotDiskResult {A = Part × Option OpenFile} (Err fault) → length bytes ≤ left) → (IsNotDiskResult {A = Part × Option OpenFile} (Err fault) → AreBytesRead later name len file_at bytes)
    → IsSeenUnlessDisk h name len at file_at first bytes fault
seen_unless_disk h later name len at file_at left first bytes (Bad d) same located room seen few then =
    let few_bytes = few tt in
    let to = seen_up_to h later name len at (file_at + length bytes) file_at first bytes same located (omega arith) (omega (arith, few_bytes, room)) seen (record { seen = then tt; within = omega (arith, few_bytes, room) }) in
    record { all = to.all; is_seen = to.is_seen; has_first = to.has_first; has_bytes = λ c is pkg has. to.has_second pkg has }
seen_unless_disk h later name len at file_at left first bytes Disk same located room seen few then =
    record { all = first; is_seen = seen; has_first = λ pkg has. has; has_bytes = λ c is pkg has. absurd (let e : Disk ≡ Bad c = is in (cc)) }

-- where a reader follows a piece
pub behind : (place : BlockPlace) (o : OpenFile) (rest : Option OpenFile) (part : Part) (n : ℕ) → o.at + file_bytes_left o.file ≤ place.at → n ≤ file_bytes_left o.file → IsPieceOf o n (part, rest) → o.at + n ≤ next_read_offset place rest
behind place o None part n room few is = omega (arith, room, few)
behind place o (Some further) part n room few is = omega (arith, is.2)

pub after_within : (place : BlockPlace) (o : OpenFile) (rest : Option OpenFile) (part : Part) (n : ℕ) → o.at + file_bytes_left o.file ≤ place.at → place.at ≤ place.len → n ≤ file_bytes_left o.file → IsPieceOf o n (part, rest) → next_read_offset place rest ≤ place.len
after_within place o None part n room within few is = within
after_within place o (Some further) part n room within few is = omega (arith, is.2, room, within, few)

-- after a piece that is not the last one of its file
pub behind_part : (place : BlockPlace) (o : OpenFile) (rest : Option OpenFile) (part : Part) (n at : ℕ) → at ≤ o.at → IsPieceOf o n (part, rest) → part.last ≡ false → at + n ≤ next_read_offset place rest
behind_part place o None part n at before is more = absurd (false≢true (sym more ∙ ap (λ (p : Part). p.last) is))
behind_part place o (Some further) part n at before is more = omega (arith, before, is.2)

-- ---- a piece

pub read_err : (old mid new : PieceReader) (o : OpenFile) (pkg bytes : List ℕ) (before : PiecesRead) (fault : PieceFault) (r : Result (Option Part) PieceFault) → IsErrAnd r (λ other. other ≡ fault) → IsFileOpened old pkg before (Ok (Some o)) mid → ((c : Cause) → fault ≡ Bad c → (so_far : List ℕ) (further before : PiecesRead) → IsOpenFile o so_far pkg further before → IsResultOfNextPiece so_far pkg bytes further before (Err fault))
    → IsPieceRead new pkg before bytes r
read_err old mid new o pkg bytes before fault (Ok found) is opened next = absurd is
read_err old mid new o pkg bytes before (Bad d) (Err (Bad c)) is opened next =
    let e : Bad c ≡ Bad d = is in
    let cause : c ≡ d = (cc) in
    next d refl opened.0 _ before opened.1 ∙ ap refusal (sym cause)
read_err old mid new o pkg bytes before Disk (Err (Bad c)) is opened next = absurd (let e : Bad c ≡ Disk = is in (cc))
read_err old mid new o pkg bytes before fault (Err Disk) is opened next = tt

pub read_some : (old mid : PieceReader) (o : OpenFile) (rest : Option OpenFile) (pkg bytes : List ℕ) (before : PiecesRead) (part : Part) → IsFileOpened old pkg before (Ok (Some o)) mid → ((so_far : List ℕ) (further before : PiecesRead) → IsOpenFile o so_far pkg further before → IsResultOfNextPiece so_far pkg bytes further before (Ok (part, rest)))
    → (after : PiecesRead) × (before ≡ piece part bytes after) × ArePiecesFrom mid.place rest pkg after
read_some old mid o None pkg bytes before part opened next =
    (pieces_at mid.place pkg, next opened.0 (pieces_at mid.place pkg) before opened.1, refl)
read_some old mid o (Some further) pkg bytes before part opened next =
    let p = next opened.0 (pieces_at mid.place pkg) before opened.1 in
    (p.0, p.1, (opened.0 ++ bytes, p.2))

-- ---- a file that is open

-- the file that is open is the next one, and nothing is read to find it
pub open_already : (h : List TreeState) (old : PieceReader) (o : OpenFile) → old.opened ≡ Some o
    → (seen : List ℕ) × IsSeenIn h (name_in_tree old) (package_len old) (offset_of old) seen × (offset_of old + length seen ≡ o.at) × ((pkg : List ℕ) → length pkg ≡ package_len old → HasBytesAtOffset pkg (offset_of old) seen → (before : PiecesRead) → ArePiecesFrom old.place old.opened pkg before → (so_far : List ℕ) × IsOpenFile o so_far pkg (pieces_at old.place pkg) before)
open_already h old o is =
    let located : offset_of old ≡ o.at = ap (next_read_offset old.place) is in
    let room = ends_within old.opened o old.place.at is old.behind in
    let within : offset_of old ≤ package_len old = omega (arith, room, located, old.within) in
    ([], nothing_seen h (name_in_tree old) (package_len old) (offset_of old) within, omega (arith, located), λ pkg long has before are. subst (λ (x : Option OpenFile). ArePiecesFrom old.place x pkg before) is are)

-- the file that is open keeps its start
pub start_kept : (old : PieceReader) (o : OpenFile) → old.opened ≡ Some o → IsStartOf old o old.start
start_kept old o is =
    let returned : returned_len old ≡ o.at - old.start = ap (returned_len_from old.start) is in
    let begun : old.start ≤ o.at = old.begun o is in
    record {
      located = omega (arith, returned, begun);
      same = subst (λ (x : Option OpenFile). IfSome x (λ file. old.start ≡ start_of_file old)) (sym is) refl;
    }

-- the file that was found begins at its next byte, as no file was open before
pub start_found : (old : PieceReader) (o : OpenFile) → old.opened ≡ None → IsStartOf old o o.at
start_found old o is =
    let returned : returned_len old ≡ 0 = ap (returned_len_from old.start) is in
    record {
      located = omega (arith, returned);
      same = subst (λ (x : Option OpenFile). IfSome x (λ file. o.at ≡ start_of_file old)) (sym is) tt;
    }
