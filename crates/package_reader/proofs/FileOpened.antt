-- The file that was found is the one that is opened, if none was open.
use Rattle.std.proofs.Common.{◌≡◌, ◌∙◌, ℕ, ◌+◌, List, [], length, Option, Some, None, Result, Ok, Err, ap, sym, subst}
use Rattle.std.specs.Prelude.{IfOk, IfSome, IsErrAnd}
use Rattle.base_core.specs.Tree.{TreeState}
use Rattle.pkg_core.specs.Pieces.{PiecesRead, no_piece}
use Rattle.pkg_core.specs.declared.place.BlockPlace.{BlockPlace}
use Rattle.pkg_core.specs.Places.{pieces_at}
use Rattle.pkg_core.specs.Seen.{HasBytesAtOffset, IsSeenIn}
use Rattle.package_reader.specs.Opened.{IsOpenFile}
use Rattle.package_reader.specs.Readers.{ArePiecesFrom, IsFileFound, IsFileOpened, name_in_tree, next_read_offset, offset_of, package_len}
use Rattle.package_reader.specs.declared.piece.PieceFault.{PieceFault}
use Rattle.package_reader.specs.declared.piece.PieceFault.TheVariants.{Bad, Disk}
use Rattle.package_reader.specs.declared.open.OpenFile.{OpenFile}
use Rattle.package_reader.specs.declared.reader.PieceReader.{PieceReader}

-- what was seen of a file from the offset `at` on, and what it opens in each package that has it
abbrev SeesFile : List TreeState → PieceReader → Result (Option OpenFile) PieceFault → (List ℕ → PiecesRead → Type 0) → ℕ → Type 0
SeesFile h old result Opens at =
    (seen : List ℕ) × IsSeenIn h (name_in_tree old) (package_len old) at seen × IfOk result (λ found. IfSome found (λ file. at + length seen ≡ file.at))
    × ((pkg : List ℕ) → length pkg ≡ package_len old → HasBytesAtOffset pkg at seen → (before : PiecesRead) → ArePiecesFrom old.place old.opened pkg before → Opens pkg before)

-- what was found from the place of the reader on
abbrev FindsFile : List TreeState → PieceReader → Result (Option OpenFile) PieceFault → BlockPlace → Type 0
FindsFile h old result after =
    (seen : List ℕ) × IsSeenIn h (name_in_tree old) (package_len old) old.place.at seen × IfOk result (λ found. IfSome found (λ file. old.place.at + length seen ≡ file.at))
    × ((pkg : List ℕ) → length pkg ≡ package_len old → HasBytesAtOffset pkg old.place.at seen → IsFileFound old.place pkg result after)

sees : (h : List TreeState) (old : PieceReader) (result : Result (Option OpenFile) PieceFault) (after : BlockPlace) (Opens : List ℕ → PiecesRead → Type 0) → old.opened ≡ None → ((pkg : List ℕ) (before : PiecesRead) → before ≡ pieces_at old.place pkg → IsFileFound old.place pkg result after → Opens pkg before) → FindsFile h old result after → SeesFile h old result Opens (offset_of old)
sees h old result after Opens none opens (seen, is_seen, ends, each) =
    let located : old.place.at ≡ offset_of old = ap (next_read_offset old.place) (sym none) in
    subst (SeesFile h old result Opens) located (
      seen,
      is_seen,
      ends,
      λ pkg long has before are. opens pkg before (subst (λ (o : Option OpenFile). ArePiecesFrom old.place o pkg before) none are) (each pkg long has),
    )

-- if no file was open, the file that was found is opened
pub opens_file : (h : List TreeState) (old : PieceReader) (after : BlockPlace) (o : OpenFile) → old.opened ≡ None → FindsFile h old (Ok (Some o)) after → SeesFile h old (Ok (Some o)) (λ pkg before. (so_far : List ℕ) × IsOpenFile o so_far pkg (pieces_at after pkg) before) (offset_of old)
opens_file h old after o none file =
    sees h old (Ok (Some o)) after (λ pkg before. (so_far : List ℕ) × IsOpenFile o so_far pkg (pieces_at after pkg) before) none
    (λ pkg before is found. ([], subst (λ (p : PiecesRead). IsOpenFile o [] pkg (pieces_at after pkg) p) (sym is) found)) file

-- if no file was open, and none was found, no piece is left
pub opens_end : (h : List TreeState) (old : PieceReader) (after : BlockPlace) → old.opened ≡ None → FindsFile h old (Ok None) after → SeesFile h old (Ok None) (λ pkg before. before ≡ no_piece) (offset_of old)
opens_end h old after none file = sees h old (Ok None) after (λ pkg before. before ≡ no_piece) none (λ pkg before is found. is ∙ found) file

-- the search for a file fails, and its fault is handed on
pub opens_none : (h : List TreeState) (old new : PieceReader) (fault : PieceFault) (result : Result (Option OpenFile) PieceFault) → IsErrAnd result (λ other. other ≡ fault) → old.opened ≡ None → FindsFile h old (Err fault) new.place → SeesFile h old result (λ pkg before. IsFileOpened old pkg before result new) (offset_of old)
opens_none h old new fault (Ok found) is none file = absurd is
opens_none h old new fault (Err other) is none file =
    subst (λ (f : PieceFault). SeesFile h old (Err f) (λ pkg before. IsFileOpened old pkg before (Err f) new) (offset_of old)) (sym is)
    (sees h old (Err fault) new.place (λ pkg before. IsFileOpened old pkg before (Err fault) new) none (λ pkg before is found. failed fault pkg before is found) file)
  where
    failed : (f : PieceFault) (pkg : List ℕ) (before : PiecesRead) → before ≡ pieces_at old.place pkg → IsFileFound old.place pkg (Err f) new.place → IsFileOpened old pkg before (Err f) new
    failed (Bad c) pkg before is found = is ∙ found
    failed Disk pkg before is found = tt
