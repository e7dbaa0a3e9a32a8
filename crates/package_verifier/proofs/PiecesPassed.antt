-- Pieces that were read in sequence.
use Rattle.std.proofs.Common.{◌≡◌, ℕ, ◌+◌, ◌-◌, ◌*◌, ◌<◌, ◌≤◌, Bool, true, false, if◌then◌else◌, List, [], ◌∷◌, ◌++◌, length, replicate, Option, Some, None, Result, Ok, Err, refl, ap, sym, subst, ◌∙◌, arith, suc-mul}
use Rattle.std.specs.Prelude.{IfOk, IfSome, IsErrOf}
use Rattle.std.proofs.lemmas.List.{length-append, length-replicate}
use Rattle.base_core.specs.declared.cause.Cause.{Cause}
use Rattle.base_core.specs.Calls.{IfObservable}
use Rattle.base_core.specs.Faults.{Counts}
use Rattle.base_core.specs.Tree.{TreeState}
use Rattle.base_core.specs.declared.tree.TreeFault.{TreeFault}
use Rattle.base_core.specs.declared.tree.TreeFault.TheVariants.{Disk as DiskFault}
use Rattle.package_reader.specs.pkg_core.Contents.{Contents, ExpectedFile, FilesRead, contents_in, fault_of_files_read, given, no_more}
use Rattle.package_reader.specs.pkg_core.Seen.{HasBytesAtOffset, IsSeenIn, IsFileOfLength, ReadsFile}
use Rattle.package_reader.proofs.pkg_core.SeenBytes.{file_with, has_rest, take_more, has_both}
use Rattle.package_reader.specs.pkg_core.Pieces.{PiecesRead, files_from_piece, files_joined_from_pieces, no_piece, piece, refusal, refusal_of_pieces}
use Rattle.package_reader.specs.pkg_core.declared.file.Part.{Part}
use Rattle.package_reader.specs.Readers.{ReturnsNextPiece, HasPieceAt, IsOfFirstExpected, IsReading, KeepsFileStart, files_to_read, returned_len, returned_len_from, name_in_tree, offset_of, package_len, start_of_file}
use Rattle.package_reader.specs.declared.piece.PieceFault.{PieceFault}
use Rattle.package_reader.specs.declared.piece.PieceFault.TheVariants.{Bad, Disk as PieceDisk}
use Rattle.package_reader.specs.declared.open.OpenFile.{OpenFile}
use Rattle.package_reader.specs.declared.reader.PieceReader.{PieceReader}
use Rattle.package_verifier.specs.Places.{AreAtPlaces, IsAtPlace, place_of_part}
use Rattle.package_verifier.specs.declared.places.FilePlace.{FilePlace}
use Rattle.package_reader.proofs.BlockSeen.{nothing_seen}
use Rattle.package_reader.proofs.FilesFound.{IsSeenUpTo, seen_up_to}
use Rattle.package_verifier.proofs.FullPieces.{AreFull}

-- ---- what was read

no_fault : {A E : Type 0} (x : A) (y : E) → IsErrOf {T = A} {E = E} (Ok x) y → ⊥
no_fault x y e = (cc)

-- an answer that is no fault, in another type
pub reads_as : {A B E F : Type 0} (name : List ℕ) (len : ℕ) (d : E) (e : F) (h0 h1 : List TreeState) (a b : Counts) (value : A) (other : B) → ReadsFile {A = A} {E = E} name len d h0 h1 a b (Ok value) → ReadsFile {A = B} {E = F} name len e h0 h1 a b (Ok other)
reads_as name len d e h0 h1 a b value other first = record {
  same = first.same;
  goes_on = first.goes_on;
  disk = λ failed. absurd (no_fault other e failed);
  kept = first.kept;
  others = tt;
  proper = first.proper;
}

bad_piece : (c : Cause) → Bad c ≡ PieceDisk → ⊥
bad_piece c is = cc

-- a failed test of a piece is no fault of the tree
pub reads_refused : {A B : Type 0} (name : List ℕ) (len : ℕ) (h0 h1 : List TreeState) (a b : Counts) (fault : PieceFault) (c : Cause) (other : B) → fault ≡ Bad c → ReadsFile {A = A} {E = PieceFault} name len PieceDisk h0 h1 a b (Err fault) → ReadsFile {A = B} {E = TreeFault} name len DiskFault h0 h1 a b (Ok other)
reads_refused {A} name len h0 h1 a b fault c other is first =
    let bad = subst (λ (f : PieceFault). ReadsFile {A = A} {E = PieceFault} name len PieceDisk h0 h1 a b (Err f)) is first in
    record {
      same = bad.same;
      goes_on = bad.goes_on;
      disk = λ failed. absurd (no_fault other DiskFault failed);
      kept = bad.others (bad_piece c);
      others = tt;
      proper = bad.proper;
    }

-- if nothing is read
proper_still : (h : List TreeState) (name : List ℕ) (len n : ℕ) → IfObservable h (λ v. IsFileOfLength name len v → n ≡ n)
proper_still [] name len n = tt
proper_still (v ∷ earlier) name len n = λ long. refl

pub reads_nothing : (name : List ℕ) (len : ℕ) (h : List TreeState) (a : Counts) → ReadsFile {A = Unit {0}} {E = TreeFault} name len DiskFault h h a a (Ok tt)
reads_nothing name len h a = record {
  same = refl;
  goes_on = record { faults = omega arith; misuses = omega arith; memory_faults = omega arith; fallible = λ may. may };
  disk = λ failed. absurd (no_fault tt DiskFault failed);
  kept = record { faults = refl; memory_faults = refl };
  others = tt;
  proper = proper_still h name len a.misuses;
}

-- the contents of files, and then further ones
abbrev pub with_files : List Contents → FilesRead → FilesRead
with_files [] files = files
with_files (c ∷ cs) files = given c (with_files cs files)

-- of all pieces these are left, and the same test fails first; of the files that came whole the
-- contents are at these places, and of the one that is open the bytes that came
pub record IsLeft (now : PieceReader) (places : List FilePlace) (pkg : List ℕ) (all : PiecesRead) : Type 0 where
  pub rest : PiecesRead
  pub reading : IsReading now pkg rest
  pub same : refusal_of_pieces all ≡ refusal_of_pieces rest
  pub full : AreFull all → AreFull rest
  pub files : List Contents
  pub so_far : List ℕ
  pub at_places : AreAtPlaces pkg places files
  pub located : HasBytesAtOffset pkg (start_of_file now) so_far
  pub long : length so_far ≡ returned_len now
  pub joined : files_joined_from_pieces all [] ≡ with_files files (files_joined_from_pieces rest so_far)

-- from where a reader began to where it stands now these bytes were seen
pub record IsPassedTo (h : List TreeState) (name : List ℕ) (len : ℕ) (begun now : PieceReader) (places : List FilePlace) : Type 0 where
  pub seen : List ℕ
  pub is_seen : IsSeenIn h name len (offset_of begun) seen
  pub ends : offset_of begun + length seen ≡ offset_of now
  pub left : (pkg : List ℕ) → length pkg ≡ len → HasBytesAtOffset pkg (offset_of begun) seen → (all : PiecesRead) → IsReading begun pkg all → IsLeft now places pkg all

pub none_passed : (h : List TreeState) (name : List ℕ) (len : ℕ) (begun : PieceReader) (places : List FilePlace) → offset_of begun ≤ len → returned_len begun ≡ 0 → places ≡ [] → IsPassedTo h name len begun begun places
none_passed h name len begun places within none_handed empty = record {
  seen = [];
  is_seen = nothing_seen h name len (offset_of begun) within;
  ends = omega arith;
  left = λ pkg long has all reading. record {
    rest = all;
    reading = reading;
    same = refl;
    full = λ full. full;
    files = [];
    so_far = [];
    at_places = subst (λ (ps : List FilePlace). AreAtPlaces pkg ps []) (sym empty) tt;
    located = refl;
    long = sym none_handed;
    joined = refl;
  };
}

-- what a call says of the bytes that it saw
abbrev pub IsReadBy : List TreeState → PieceReader → List ℕ → Result (Option Part) PieceFault → PieceReader → Type 0
IsReadBy h old bytes result new = (seen : List ℕ)
    × IsSeenIn h (name_in_tree old) (package_len old) (offset_of old) seen
    × IfOk result (λ found. IfSome found (λ _. offset_of old + length seen ≡ offset_of new))
    × ((pkg : List ℕ) → length pkg ≡ package_len old → HasBytesAtOffset pkg (offset_of old) seen
    → (before : PiecesRead) → IsReading old pkg before
    → ReturnsNextPiece (IsReading new pkg) before bytes result
    × IfOk result (λ found. HasPieceAt old pkg bytes found new))

-- the bytes up to the end of the call
both_seen : (h later : List TreeState) (name : List ℕ) (len : ℕ) (begun now : PieceReader) (places : List FilePlace) (seen : List ℕ) → later ≡ h → name_in_tree now ≡ name → package_len now ≡ len → (passed : IsPassedTo h name len begun now places) → IsSeenIn later (name_in_tree now) (package_len now) (offset_of now) seen
    → IsSeenUpTo h name len (offset_of begun) (offset_of now + length seen) (offset_of now) passed.seen seen
both_seen h later name len begun now places seen same named long passed is_seen =
    let here : IsSeenIn later name len (offset_of now) seen = subst (λ (n : List ℕ). IsSeenIn later n len (offset_of now) seen) named (subst (λ (k : ℕ). IsSeenIn later (name_in_tree now) k (offset_of now) seen) long is_seen) in
    seen_up_to h later name len (offset_of begun) (offset_of now + length seen) (offset_of now) passed.seen seen same passed.ends (omega arith) here.within passed.is_seen here

-- ---- one piece more

-- bytes that came before stand where their file begins, also after the next piece
still_stand : (opened : Option OpenFile) (pkg so_far : List ℕ) (before after : ℕ) → IfSome opened (λ o. after ≡ before) → length so_far ≡ returned_len_from before opened → HasBytesAtOffset pkg before so_far → HasBytesAtOffset pkg after so_far
still_stand (Some o) pkg so_far before after same long has = subst (λ (n : ℕ). HasBytesAtOffset pkg n so_far) (sym same) has
still_stand None pkg [] before after same long has = refl
still_stand None pkg (b ∷ bytes) before after same long has = absurd (omega (arith, long))

with_one_more : (cs : List Contents) (c : Contents) (files : FilesRead) → with_files cs (given c files) ≡ with_files (cs ++ c ∷ []) files
with_one_more [] c files = refl
with_one_more (d ∷ cs) c files = ap (given d) (with_one_more cs c files)

at_one_more : (pkg : List ℕ) (ps : List FilePlace) (cs : List Contents) (p : FilePlace) (c : Contents) → AreAtPlaces pkg ps cs → IsAtPlace pkg p c → AreAtPlaces pkg (ps ++ p ∷ []) (cs ++ c ∷ [])
at_one_more pkg [] [] p c are is = (is, tt)
at_one_more pkg [] (d ∷ cs) p c are is = absurd are
at_one_more pkg (q ∷ ps) [] p c are is = absurd are
at_one_more pkg (q ∷ ps) (d ∷ cs) p c are is = (are.0, at_one_more pkg ps cs p c are.1 is)

abbrev pub kept_places : Part → ℕ → List FilePlace → List FilePlace
kept_places part at places = if part.last then places ++ place_of_part part at ∷ [] else places

left_then : (now new : PieceReader) (places : List FilePlace) (pkg : List ℕ) (all after : PiecesRead) (part : Part) (bytes : List ℕ) (l : IsLeft now places pkg all) → l.rest ≡ piece part bytes after → IsReading new pkg after → HasBytesAtOffset pkg (start_of_file new + returned_len now) bytes → KeepsFileStart part (length bytes) now new
    → IsLeft new (kept_places part (start_of_file new) places) pkg all
left_then now new places pkg all after part bytes l next reading has start = by_last part.last refl
  where
    so_far : List ℕ
    so_far = l.so_far ++ bytes

    long : length so_far ≡ returned_len now + length bytes
    long = length-append l.so_far bytes ∙ ap (λ (n : ℕ). n + length bytes) l.long

    located : HasBytesAtOffset pkg (start_of_file new) so_far
    located =
        has_both pkg (start_of_file new) l.so_far bytes (still_stand now.opened pkg l.so_far (start_of_file now) (start_of_file new) start.same l.long l.located)
        (subst (λ (n : ℕ). HasBytesAtOffset pkg (start_of_file new + n) bytes) (sym l.long) has)

    joined : files_joined_from_pieces all [] ≡ with_files l.files (files_from_piece part so_far (files_joined_from_pieces after))
    joined = l.joined ∙ ap (λ (p : PiecesRead). with_files l.files (files_joined_from_pieces p l.so_far)) next

    by_last : (last : Bool) → part.last ≡ last → IsLeft new (kept_places part (start_of_file new) places) pkg all
    by_last true is =
        let c : Contents = record { folder = part.path; file = part.file; bytes = so_far } in record {
          rest = after;
          reading = reading;
          same = l.same ∙ ap refusal_of_pieces next;
          full = λ full. (subst AreFull next (l.full full)).1;
          files = l.files ++ c ∷ [];
          so_far = [];
          at_places = subst (λ (b : Bool). AreAtPlaces pkg (if b then places ++ place_of_part part (start_of_file new) ∷ [] else places) (l.files ++ c ∷ [])) (sym is) (at_one_more pkg places l.files (place_of_part part (start_of_file new)) c l.at_places (record { folder = refl; file = refl; located = located }));
          located = refl;
          long = sym (start.handed ∙ ap (λ (b : Bool). if b then 0 else returned_len now + length bytes) is);
          joined = joined ∙ (ap (λ (b : Bool). with_files l.files (if b then given c (files_joined_from_pieces after []) else files_joined_from_pieces after so_far)) is ∙ with_one_more l.files c (files_joined_from_pieces after []));
        }
    by_last false is = record {
      rest = after;
      reading = reading;
      same = l.same ∙ ap refusal_of_pieces next;
      full = λ full. (subst AreFull next (l.full full)).1;
      files = l.files;
      so_far = so_far;
      at_places = subst (λ (b : Bool). AreAtPlaces pkg (if b then places ++ place_of_part part (start_of_file new) ∷ [] else places) l.files) (sym is) l.at_places;
      located = located;
      long = long ∙ sym (start.handed ∙ ap (λ (b : Bool). if b then 0 else returned_len now + length bytes) is);
      joined = joined ∙ ap (λ (b : Bool). with_files l.files (if b then given (record { folder = part.path; file = part.file; bytes = so_far }) (files_joined_from_pieces after []) else files_joined_from_pieces after so_far)) is;
    }

pub one_passed : (h later : List TreeState) (name : List ℕ) (len : ℕ) (begun now new : PieceReader) (places : List FilePlace) (bytes : List ℕ) (part : Part) → later ≡ h → name_in_tree now ≡ name → package_len now ≡ len → IsPassedTo h name len begun now places → IsReadBy later now bytes (Ok (Some part)) new → KeepsFileStart part (length bytes) now new
    → IsPassedTo h name len begun new (kept_places part (start_of_file new) places)
one_passed h later name len begun now new places bytes part same named long passed (seen, is_seen, ends, each) start =
    let to = both_seen h later name len begun now places seen same named long passed is_seen in
    record {
      seen = to.all;
      is_seen = to.is_seen;
      ends = to.ends ∙ ends;
      left = λ pkg is has all reading.
          let l = passed.left pkg is (to.has_first pkg has) all reading in
          let (answer, located) = each pkg (is ∙ sym long) (to.has_second pkg has) l.rest l.reading in
          let (after, next, later_reading) = answer in
          left_then now new places pkg all after part bytes l next later_reading located start;
    }

-- ---- what is told at the end

-- of each package that is so long and has the bytes that were seen
abbrev pub IsTold : List TreeState → List ℕ → ℕ → ℕ → (List ℕ → Type 0) → Type 0
IsTold h name len at Tells = (seen : List ℕ) × IsSeenIn h name len at seen
    × ((pkg : List ℕ) → length pkg ≡ len → HasBytesAtOffset pkg at seen → Tells pkg)

told : (h later : List TreeState) (name : List ℕ) (len : ℕ) (begun now new : PieceReader) (places : List FilePlace) (bytes : List ℕ) (result : Result (Option Part) PieceFault) (All : List ℕ → PiecesRead) (Tells : List ℕ → Type 0) → later ≡ h → name_in_tree now ≡ name → package_len now ≡ len
    → IsPassedTo h name len begun now places → IsReadBy later now bytes result new
    → ((pkg : List ℕ) (l : IsLeft now places pkg (All pkg)) → ReturnsNextPiece (IsReading new pkg) l.rest bytes result → Tells pkg)
    → ((pkg : List ℕ) → IsReading begun pkg (All pkg))
    → IsTold h name len (offset_of begun) Tells
told h later name len begun now new places bytes result All Tells same named long passed (seen, is_seen, ends, each) says starts =
    let to = both_seen h later name len begun now places seen same named long passed is_seen in (
      to.all,
      to.is_seen,
      λ pkg is has.
          let l = passed.left pkg is (to.has_first pkg has) (All pkg) (starts pkg) in
          says pkg l (each pkg (is ∙ sym long) (to.has_second pkg has) l.rest l.reading).0,
    )

pub told_from : (h later : List TreeState) (name : List ℕ) (len at : ℕ) (begun now new : PieceReader) (places : List FilePlace) (bytes : List ℕ) (result : Result (Option Part) PieceFault) (All : List ℕ → PiecesRead) (Tells : List ℕ → Type 0) → later ≡ h → name_in_tree begun ≡ name → package_len begun ≡ len → offset_of begun ≡ at
    → name_in_tree now ≡ name_in_tree begun → package_len now ≡ package_len begun
    → IsPassedTo h (name_in_tree begun) (package_len begun) begun now places → IsReadBy later now bytes result new
    → ((pkg : List ℕ) (l : IsLeft now places pkg (All pkg)) → ReturnsNextPiece (IsReading new pkg) l.rest bytes result → Tells pkg)
    → ((pkg : List ℕ) → IsReading begun pkg (All pkg))
    → IsTold h name len at Tells
told_from h later name len at begun now new places bytes result All Tells same names lens ats named long passed read says starts =
    subst (λ (a : ℕ). IsTold h name len a Tells) ats
    (subst (λ (n : ℕ). IsTold h name n (offset_of begun) Tells) lens
    (subst (λ (n : List ℕ). IsTold h n (package_len begun) (offset_of begun) Tells) names
    (told h later (name_in_tree begun) (package_len begun) begun now new places bytes result All Tells same named long passed read says starts)))

no_fault_in : (cs : List Contents) → fault_of_files_read (with_files cs no_more) ≡ None
no_fault_in [] = refl
no_fault_in (c ∷ cs) = no_fault_in cs

all_contents : (cs : List Contents) → contents_in (with_files cs no_more) ≡ cs
all_contents [] = refl
all_contents (c ∷ cs) = ap (λ (ds : List Contents). c ∷ ds) (all_contents cs)

-- after the last piece all files are at their places
pub all_stand : (now : PieceReader) (places : List FilePlace) (pkg : List ℕ) (all : PiecesRead) (files : FilesRead) (l : IsLeft now places pkg all) → files_joined_from_pieces all [] ≡ files → l.rest ≡ no_piece → (fault_of_files_read files ≡ None) × AreAtPlaces pkg places (contents_in files)
all_stand now places pkg all files l whole end =
    let same : files ≡ with_files l.files no_more = sym whole ∙ (l.joined ∙ ap (λ (p : PiecesRead). with_files l.files (files_joined_from_pieces p l.so_far)) end) in
    (ap fault_of_files_read same ∙ no_fault_in l.files, subst (AreAtPlaces pkg places) (sym (ap contents_in same ∙ all_contents l.files)) l.at_places)

pub one_fails : (now : PieceReader) (places : List FilePlace) (pkg : List ℕ) (all : PiecesRead) (c : Cause) (fault : Option Cause) (l : IsLeft now places pkg all) → refusal_of_pieces all ≡ fault → l.rest ≡ refusal c → fault ≡ Some c
one_fails now places pkg all c fault l whole end = sym whole ∙ (l.same ∙ ap refusal_of_pieces end)

-- ---- how many steps are left

-- files are left, and bytes
abbrev pub steps_left : PieceReader → ℕ
steps_left reader = length (files_to_read reader) * (package_len reader + 1) + (package_len reader - offset_of reader)

-- some package has the bytes that were seen
some_package : (len at : ℕ) (seen : List ℕ) → at + length seen ≤ len → (pkg : List ℕ) × (length pkg ≡ len) × HasBytesAtOffset pkg at seen
some_package len at seen within =
    let zeros : List ℕ = replicate at 0 in
    let many : length zeros ≡ at = let z : ℕ = 0 in length-replicate at z in
    let all = length-append zeros seen in
    let f = file_with [] [] len (zeros ++ seen) tt (record { seen = tt; within = omega (arith, all, many, within) }) in
    (f.file, f.long, subst (λ (n : ℕ). HasBytesAtOffset f.file n seen) (let e : 0 + length zeros ≡ at = omega (arith, many) in e) (has_rest f.file 0 zeros seen f.has))

-- a piece that is not the last one of its file has bytes
some_bytes : (h later : List TreeState) (name : List ℕ) (len : ℕ) (begun now new : PieceReader) (places : List FilePlace) (bytes : List ℕ) (part : Part) → later ≡ h → name_in_tree now ≡ name → package_len now ≡ len → IsPassedTo h name len begun now places → IsReadBy later now bytes (Ok (Some part)) new
    → ((pkg : List ℕ) → (all : PiecesRead) × IsReading begun pkg all × AreFull all) → part.last ≡ false → 0 < length bytes
some_bytes h later name len begun now new places bytes part same named long passed (seen, is_seen, ends, each) starts more =
    let to = both_seen h later name len begun now places seen same named long passed is_seen in
    let (pkg, is, has) = some_package len (offset_of begun) to.all to.is_seen.within in
    let (all, reading, full) = starts pkg in
    let l = passed.left pkg is (to.has_first pkg has) all reading in
    let (answer, kept) = each pkg (is ∙ sym long) (to.has_second pkg has) l.rest l.reading in
    let (after, next, later_reading) = answer in
    (subst AreFull next (l.full full)).0 more

fewer_files : (p q len x y : ℕ) → q ≡ p + (len + 1) → p + (len - x) < q + (len - y)
fewer_files p q len x y more = omega (arith, more)

fewer_bytes : (p len x y : ℕ) → y < x → x ≤ len → p + (len - x) < p + (len - y)
fewer_bytes p len x y less within = omega (arith, less, within)

nearer_by : (last : Bool) (len x y : ℕ) (before after : List ExpectedFile) (first : ExpectedFile) (others : List ExpectedFile) → before ≡ first ∷ others → after ≡ (if last then others else first ∷ others) → (last ≡ false → y < x) → x ≤ len
    → length after * (len + 1) + (len - x) < length before * (len + 1) + (len - y)
nearer_by true len x y before after first others due left less within =
    fewer_files (length after * (len + 1)) (length before * (len + 1)) len x y
    (ap (λ (es : List ExpectedFile). length es * (len + 1)) due
    ∙ (suc-mul (length others) (len + 1) ∙ ap (λ (es : List ExpectedFile). length es * (len + 1) + (len + 1)) (sym left)))
nearer_by false len x y before after first others due left less within =
    subst (λ (es : List ExpectedFile). length after * (len + 1) + (len - x) < length es * (len + 1) + (len - y)) (left ∙ sym due)
    (fewer_bytes (length after * (len + 1)) len x y (less refl) within)

pub nearer : (h later : List TreeState) (name : List ℕ) (len : ℕ) (begun now new : PieceReader) (places : List FilePlace) (bytes : List ℕ) (part : Part) → later ≡ h → name_in_tree now ≡ name → package_len now ≡ len → package_len new ≡ package_len now → IsPassedTo h name len begun now places → IsReadBy later now bytes (Ok (Some part)) new
    → ((pkg : List ℕ) → (all : PiecesRead) × IsReading begun pkg all × AreFull all) → IsOfFirstExpected (files_to_read now) part (files_to_read new) → (part.last ≡ false → offset_of now + length bytes ≤ offset_of new)
    → steps_left new < steps_left now
nearer h later name len begun now new places bytes part same named long kept passed read starts due further =
    let some = some_bytes h later name len begun now new places bytes part same named long passed read starts in
    let within = read.1.within in
    let ends = read.2 in
    subst (λ (k : ℕ). length (files_to_read new) * (k + 1) + (k - offset_of new) < steps_left now) (sym kept)
    (nearer_by part.last (package_len now) (offset_of new) (offset_of now) (files_to_read now) (files_to_read new) due.first due.others due.due due.left (λ more. omega (arith, some more, further more)) (omega (arith, within, ends)))
