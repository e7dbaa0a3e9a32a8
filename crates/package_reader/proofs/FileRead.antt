-- The bytes of a single file, piece by piece.
use Rattle.std.proofs.Common.{◌≡◌, ℕ, zero, suc, ◌+◌, ◌-◌, ◌<◌, ◌≤◌, min, Bool, true, false, List, [], ◌∷◌, ◌++◌, length, take, drop, Option, Some, None, Result, Ok, Err, refl, ap, sym, subst, ◌∙◌, append_assoc, append-nil, length-drop, length-take, arith, inr}
use Rattle.std.specs.Prelude.{IfNone, IfSome, IsErrAnd, option_map}
use Rattle.std.proofs.lemmas.List.{drop-drop, length-append}
use Rattle.base_core.specs.Calls.{IfObservable}
use Rattle.base_core.specs.Tree.{TreeState, files_of}
use Rattle.base_core.specs.declared.cause.Cause.{Cause}
use Rattle.pkg_core.specs.Contents.{ExpectedFile, fault_if_digest_is_not_of_bytes}
use Rattle.pkg_core.specs.Opened.{expected_of}
use Rattle.pkg_core.specs.declared.walk.Wanted.{Wanted}
use Rattle.pkg_core.specs.Seen.{AreBytesRead, HasBytesAtOffset}
use Rattle.pkg_core.specs.Pieces.{PiecesRead, no_piece, pieces_of_one_file, refusal, piece_count_before_last}
use Rattle.pkg_core.specs.Taking.{file_bytes_left, pieces_in, HasTaken}
use Rattle.pkg_core.specs.declared.file.Part.{Part}
use Rattle.package_reader.specs.FileReading.{ReturnsNextBytes, HasUnreadBytes, package_name_of_file, HaveBeenReturned, HaveBeenReturnedInState, HaveOtherDigest, IsTestedReturn, expected_file_of}
use Rattle.package_reader.specs.Opened.{AreLeftOf, AreUnreadBytes, IsResultOfNextPiece, IsOpenFile, IsPieceOf, IsNotDiskResult, unread_bytes, open_file_end, AreTestedSoFar}
use Rattle.package_reader.specs.declared.piece.PieceFault.{PieceFault}
use Rattle.package_reader.specs.declared.piece.PieceFault.TheVariants.{Bad, Disk}
use Rattle.package_reader.specs.declared.one_file.FilePieces.{FilePieces}
use Rattle.package_reader.specs.declared.open.OpenFile.{OpenFile}

pub ends_within : (opened : Option OpenFile) (o : OpenFile) (len : ℕ) → opened ≡ Some o → open_file_end opened ≤ len → o.at + file_bytes_left o.file ≤ len
ends_within opened o len is within = subst (λ (x : Option OpenFile). open_file_end x ≤ len) is within

-- ---- a file that is open

left_long : (o : OpenFile) (pkg left : List ℕ) → AreLeftOf o pkg left → length left ≡ file_bytes_left o.file
left_long o pkg left is =
    let all = length-append is.so_far left in
    let many = is.taken.long in
    let long = is.long in
    omega (arith, all, many, long)

room_for : (o : OpenFile) (pkg left : List ℕ) → 0 < file_bytes_left o.file → AreLeftOf o pkg left → o.at + file_bytes_left o.file ≤ length pkg
room_for o pkg left some is =
    let long = left_long o pkg left is in
    let came = ap length is.come in
    let a = length-take (file_bytes_left o.file) (drop o.at pkg) in
    let b = length-drop o.at pkg in
    omega (arith, long, came, a, b, some)

as_open : (o : OpenFile) (pkg left : List ℕ) → (is : AreLeftOf o pkg left) → IsOpenFile o is.so_far pkg no_piece (pieces_in o.file is.so_far left no_piece)
as_open o pkg left is = record {
  taken = is.taken;
  long = ap (λ (xs : List ℕ). length (is.so_far ++ xs)) (sym is.come) ∙ is.long;
  come = ap (λ (xs : List ℕ). pieces_in o.file is.so_far xs no_piece) is.come;
}

never_refused : (n : ℕ) (e : ExpectedFile) (bytes : List ℕ) (further : PiecesRead) (c : Cause) → pieces_of_one_file n e None bytes further ≡ refusal c → ⊥
never_refused zero e bytes further c is = (cc)
never_refused (suc n) e bytes further c is = (cc)

-- ---- the bytes that were read

there_by : (told : Option (List ℕ)) (pkg bytes : List ℕ) (at : ℕ) → told ≡ Some pkg → IfSome told (λ file. length file ≡ length pkg → HasBytesAtOffset file at bytes) → HasBytesAtOffset pkg at bytes
there_by told pkg bytes at is seen = subst (λ (x : Option (List ℕ)). IfSome x (λ file. length file ≡ length pkg → HasBytesAtOffset file at bytes)) is seen refl

abbrev no_bytes : List ℕ
no_bytes = []

take_none : (n : ℕ) → take n no_bytes ≡ no_bytes
take_none zero = refl
take_none (suc n) = refl

split_at : (n l : ℕ) (xs : List ℕ) → n ≤ l → take l xs ≡ take n xs ++ take (l - n) (drop n xs)
split_at zero l xs few = ap (λ (n : ℕ). take n xs) (let e : l ≡ l - 0 = omega arith in e)
split_at (suc n) zero xs few = absurd (omega (arith, few))
split_at (suc n) (suc l) [] few = sym (take_none (suc l - suc n))
split_at (suc n) (suc l) (x ∷ xs) few =
    ap (λ (ys : List ℕ). x ∷ ys) (split_at n l xs (omega (arith, few)) ∙ ap (λ (m : ℕ). take n xs ++ take m (drop n xs)) (let e : l - n ≡ suc l - suc n = omega arith in e))

-- ---- what is answered

-- what a call says of each package that has the bytes
abbrev pub IsAnswerOf : OpenFile → List ℕ → Result (Part × Option OpenFile) PieceFault → Type 0
IsAnswerOf o bytes result = (file so_far : List ℕ) (further before : PiecesRead) → HasBytesAtOffset file o.at bytes → o.at + file_bytes_left o.file ≤ length file → IsOpenFile o so_far file further before → IsResultOfNextPiece so_far file bytes further before result

abbrev GivesBytesOf : List TreeState → FilePieces → (List ℕ → List ℕ → Type 0) → List ℕ → Result Bool PieceFault → Type 0
GivesBytesOf h old Then bytes r = IfObservable h (λ v. (pkg left : List ℕ) → files_of v (package_name_of_file old) ≡ Some pkg → HasUnreadBytes old pkg left → ReturnsNextBytes (Then pkg) left bytes r)

last_given : (o : OpenFile) (pkg left bytes : List ℕ) → AreLeftOf o pkg left → HasBytesAtOffset pkg o.at bytes → length bytes ≡ file_bytes_left o.file → left ≡ bytes ++ []
last_given o pkg left bytes is has all = is.come ∙ (ap (λ (n : ℕ). take n (drop o.at pkg)) (sym all) ∙ (has ∙ sym (append-nil bytes)))

more_given : (o f : OpenFile) (pkg left bytes : List ℕ) → AreLeftOf o pkg left → HasBytesAtOffset pkg o.at bytes → f.at ≡ o.at + length bytes → f.at + file_bytes_left f.file ≡ o.at + file_bytes_left o.file → left ≡ bytes ++ unread_bytes f pkg
more_given o f pkg left bytes is has at room =
    let n : ℕ = length bytes in
    let l : ℕ = file_bytes_left o.file in
    let fewer : file_bytes_left f.file ≡ l - n = omega (arith, at, room) in
    let few : n ≤ l = omega (arith, at, room) in
    let rest : unread_bytes f pkg ≡ take (l - n) (drop n (drop o.at pkg)) = (λ k. take (fewer k) (drop (at k) pkg)) ∙ ap (take (l - n)) (sym (drop-drop n o.at pkg)) in
    is.come ∙ (split_at n l (drop o.at pkg) few ∙ (λ k. has k ++ (sym rest) k))

good_further : (o f : OpenFile) (so_far left bytes rest : List ℕ) → f.file.wanted ≡ o.file.wanted → left ≡ bytes ++ rest → fault_if_digest_is_not_of_bytes o.file.wanted.hash.now (so_far ++ left) ≡ None → fault_if_digest_is_not_of_bytes f.file.wanted.hash.now ((so_far ++ bytes) ++ rest) ≡ None
good_further o f so_far left bytes rest same whole good =
    ap (λ (w : Wanted). fault_if_digest_is_not_of_bytes w.hash.now ((so_far ++ bytes) ++ rest)) same
    ∙ (ap (λ (xs : List ℕ). fault_if_digest_is_not_of_bytes o.file.wanted.hash.now xs) (append_assoc so_far bytes rest ∙ ap (λ (xs : List ℕ). so_far ++ xs) (sym whole))
    ∙ good)

given : (o : OpenFile) (rest : Option OpenFile) (pkg left bytes : List ℕ) (part : Part) → (is : AreLeftOf o pkg left) → HasBytesAtOffset pkg o.at bytes → IsResultOfNextPiece is.so_far pkg bytes no_piece (pieces_in o.file is.so_far left no_piece) (Ok (part, rest)) → IfNone rest (length bytes ≡ file_bytes_left o.file) → IsPieceOf o (length bytes) (part, rest)
    → IfSome rest (λ further. further.at + file_bytes_left further.file ≡ o.at + file_bytes_left o.file) → (further : List ℕ) × (left ≡ bytes ++ further) × AreUnreadBytes rest pkg further
given o None pkg left bytes part is has this all of room = ([], last_given o pkg left bytes is has all, refl)
given o (Some f) pkg left bytes part is has this all of room =
    let whole = more_given o f pkg left bytes is has of.2 room in
    let file = this.2 in (
      unread_bytes f pkg,
      whole,
      record {
        so_far = is.so_far ++ bytes;
        taken = file.taken;
        long = file.long;
        come = refl;
        good = good_further o f is.so_far left bytes (unread_bytes f pkg) of.1 whole is.good;
      },
    )

pub gives_piece : (h : List TreeState) (old : FilePieces) (Then : List ℕ → List ℕ → Type 0) (o : OpenFile) (rest : Option OpenFile) (bytes : List ℕ) (part : Part) → old.opened ≡ Some o → 0 < file_bytes_left o.file → ((pkg further : List ℕ) → AreUnreadBytes rest pkg further → Then pkg further) → ((len : ℕ) → AreBytesRead h (package_name_of_file old) len o.at bytes) → IsAnswerOf o bytes (Ok (part, rest))
    → IfNone rest (length bytes ≡ file_bytes_left o.file) → IsPieceOf o (length bytes) (part, rest) → IfSome rest (λ further. further.at + file_bytes_left further.file ≡ o.at + file_bytes_left o.file) → GivesBytesOf h old Then bytes (Ok true)
gives_piece [] old Then o rest bytes part is some then seen next all of room = tt
gives_piece (v ∷ earlier) old Then o rest bytes part is some then seen next all of room = λ pkg left there reading.
    let left_of : AreLeftOf o pkg left = subst (λ (x : Option OpenFile). AreUnreadBytes x pkg left) is reading.1 in
    let has : HasBytesAtOffset pkg o.at bytes = there_by (files_of v (package_name_of_file old)) pkg bytes o.at there (seen (length pkg)) in
    let this = next pkg left_of.so_far no_piece _ has (room_for o pkg left some left_of) (as_open o pkg left left_of) in
    let (further, is_split, come) = given o rest pkg left bytes part left_of has this all of room in
    (further, is_split, then pkg further come)

pub gives_fault : (h : List TreeState) (old : FilePieces) (Then : List ℕ → List ℕ → Type 0) (o : OpenFile) (bytes : List ℕ) (fault : PieceFault) (r : Result Bool PieceFault) → old.opened ≡ Some o → 0 < file_bytes_left o.file → IsErrAnd r (λ other. other ≡ fault) → (IsNotDiskResult {A = Part × Option OpenFile} (Err fault) → (len : ℕ) → AreBytesRead h (package_name_of_file old) len o.at bytes)
    → IsAnswerOf o bytes (Err fault) → GivesBytesOf h old Then bytes r
gives_fault [] old Then o bytes fault r is some answer seen next = tt
gives_fault (v ∷ earlier) old Then o bytes fault (Ok came) is some answer seen next = absurd answer
gives_fault (v ∷ earlier) old Then o bytes fault (Err Disk) is some answer seen next = λ pkg left there reading. tt
gives_fault (v ∷ earlier) old Then o bytes Disk (Err (Bad c)) is some answer seen next = absurd (let e : Bad c ≡ Disk = answer in (cc))
gives_fault (v ∷ earlier) old Then o bytes (Bad d) (Err (Bad c)) is some answer seen next = λ pkg left there reading.
    let left_of : AreLeftOf o pkg left = subst (λ (x : Option OpenFile). AreUnreadBytes x pkg left) is reading.1 in
    let has : HasBytesAtOffset pkg o.at bytes = there_by (files_of v (package_name_of_file old)) pkg bytes o.at there (seen tt (length pkg)) in
    let this = next pkg left_of.so_far no_piece _ has (room_for o pkg left some left_of) (as_open o pkg left left_of) in
    never_refused (piece_count_before_last (length left)) (expected_of o.file.wanted) left no_piece d
    (ap (λ (x : Option Cause). pieces_of_one_file (piece_count_before_last (length left)) (expected_of o.file.wanted) x left no_piece) (sym left_of.good) ∙ this)

-- ---- the tests

-- the check of an open file has taken the bytes that were returned
taken_so_far : (old : FilePieces) (o : OpenFile) (so_far : List ℕ) → old.refused ≡ None → old.opened ≡ Some o → HaveBeenReturned old so_far → HasTaken o.file so_far
taken_so_far old o so_far good is returned =
    let here = subst (λ (r : Option Cause). HaveBeenReturnedInState r old.opened (expected_file_of old) so_far) good returned in
    subst (λ (x : Option OpenFile). HaveBeenReturnedInState None x (expected_file_of old) so_far) is here

-- the state of a file behind a piece, whether more of the file is left or not
state_after : (o : OpenFile) (rest : Option OpenFile) (bytes : List ℕ) (part : Part) → AreTestedSoFar o bytes (Ok (part, rest)) → HaveBeenReturnedInState None rest (Some (expected_of o.file.wanted)) bytes
state_after o None bytes part tested = tested
state_after o (Some further) bytes part tested = tested.0

-- what a call says of all bytes so far
abbrev pub TestsBytes : OpenFile → List ℕ → Result (Part × Option OpenFile) PieceFault → Type 0
TestsBytes o bytes result = (so_far : List ℕ) → HasTaken o.file so_far → 0 < file_bytes_left o.file → AreTestedSoFar o (so_far ++ bytes) result

-- after a piece, this piece too counts as returned
pub tested_piece : (old : FilePieces) (o : OpenFile) (rest : Option OpenFile) (so_far bytes : List ℕ) (part : Part) → old.refused ≡ None → old.opened ≡ Some o → old.due ≡ Some o.file.wanted → 0 < file_bytes_left o.file → TestsBytes o bytes (Ok (part, rest)) → HaveBeenReturned old so_far
    → HaveBeenReturnedInState old.refused rest (expected_file_of old) (so_far ++ bytes)
tested_piece old o rest so_far bytes part good is due some tested returned =
    let here = state_after o rest (so_far ++ bytes) part (tested so_far (taken_so_far old o so_far good is returned) some) in
    let listed = subst (λ (e : Option ExpectedFile). HaveBeenReturnedInState None rest e (so_far ++ bytes)) (sym (ap (option_map expected_of) due)) here in
    subst (λ (r : Option Cause). HaveBeenReturnedInState r rest (expected_file_of old) (so_far ++ bytes)) (sym good) listed

-- the only test of a piece that fails is that of the digest
pub tested_fault : (old new : FilePieces) (o : OpenFile) (so_far bytes : List ℕ) (fault : PieceFault) (r : Result Bool PieceFault) → old.refused ≡ None → old.opened ≡ Some o → old.due ≡ Some o.file.wanted → 0 < file_bytes_left o.file → IsErrAnd r (λ other. other ≡ fault) → TestsBytes o bytes (Err fault) → HaveBeenReturned old so_far
    → IsTestedReturn old so_far bytes r new
tested_fault old new o so_far bytes fault (Ok value) good is due some answer tested returned = absurd answer
tested_fault old new o so_far bytes fault (Err Disk) good is due some answer tested returned = tt
tested_fault old new o so_far bytes Disk (Err (Bad c)) good is due some answer tested returned = absurd (let e : Bad c ≡ Disk = answer in (cc))
tested_fault old new o so_far bytes (Bad d) (Err (Bad c)) good is due some answer tested returned =
    let e : Bad c ≡ Bad d = answer in
    let same : d ≡ c = (cc) in
    let here = tested so_far (taken_so_far old o so_far good is returned) some in
    let listed = subst (λ (x : Option ExpectedFile). HaveOtherDigest x (so_far ++ bytes) d) (sym (ap (option_map expected_of) due)) here in
    inr (subst (λ (x : Cause). HaveOtherDigest (expected_file_of old) (so_far ++ bytes) x) same listed)
