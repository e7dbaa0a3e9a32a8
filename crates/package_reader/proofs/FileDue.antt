-- What the bytes of a file are compared with.
use Rattle.std.proofs.Common.{◌≡◌, ℕ, zero, suc, ◌+◌, ◌-◌, ◌<◌, ◌==◌, nat_lt, Bool, true, false, cond, List, [], ◌∷◌, ◌++◌, length, Option, Some, None, Result, Ok, Err, refl, ap, sym, subst, ◌∙◌, append-nil, arith}
use Rattle.std.specs.Prelude.{option_map, replicate, IfNone}
use Rattle.std.specs.List.{find}
use Rattle.std.proofs.lemmas.Bool.{ltb-true}
use Rattle.std.proofs.lemmas.List.{length-append, length-replicate}
use Rattle.base_core.specs.declared.cause.Cause.{Cause}
use Rattle.base_core.proofs.Booleans.{both_second}
use Rattle.adb_view.specs.Plain.{Plain}
use Rattle.pkg_core.specs.adb_fields.Repeated.{files_in, folders_in}
use Rattle.pkg_core.specs.adb_schema.Texts.{is_file_with_contents}
use Rattle.adb_view.specs.Values.{entry_at_index, int_in, text_in}
use Rattle.pkg_core.specs.Contents.{ExpectedFile, expected_file_if_with_contents, expected_files_of_package, expected_files_of_folder, expected_files_of_folders, fault_if_digest_is_not_of_bytes}
use Rattle.pkg_core.specs.Opened.{expected_file_at, expected_of, is_expected_at}
use Rattle.pkg_core.specs.declared.walk.Wanted.{Wanted}
use Rattle.pkg_core.specs.Pieces.{PiecesRead, no_piece, pieces_of_one_file, refusal, piece_count_before_last}
use Rattle.pkg_core.specs.Taking.{HasTaken, IsTakeResult, file_bytes_left, next_piece_len, HasTakenOrPassedDigest, IsPartOfCheckedFile}
use Rattle.pkg_core.specs.declared.file.Part.{Part}
use Rattle.pkg_core.specs.declared.file.FileCheck.{FileCheck}

-- ---- a file with contents has a size above 0

abbrev HaveSizes : List ExpectedFile → Type 0
HaveSizes [] = Unit {0}
HaveSizes (e ∷ es) = (0 < e.size) × HaveSizes es

more_sizes : (es others : List ExpectedFile) → HaveSizes es → HaveSizes others → HaveSizes (es ++ others)
more_sizes [] others a b = b
more_sizes (e ∷ es) others a b = (a.0, more_sizes es others a.1 b)

file_sizes : (folder i : ℕ) (file : Plain) → HaveSizes (expected_file_if_with_contents folder i file)
file_sizes folder i file = by (is_file_with_contents file) refl
  where
    by : (b : Bool) → is_file_with_contents file ≡ b → HaveSizes (cond b (record { folder = folder; file = i; size = int_in (entry_at_index file 2); hash = text_in (entry_at_index file 4) } ∷ []) [])
    by true is = (ltb-true 0 (int_in (entry_at_index file 2)) (both_second (length (text_in (entry_at_index file 5)) == 0) (nat_lt 0 (int_in (entry_at_index file 2))) is), tt)
    by false is = tt

files_sizes : (folder i : ℕ) (files : List Plain) → HaveSizes (expected_files_of_folder folder i files)
files_sizes folder i [] = tt
files_sizes folder i (file ∷ files) = more_sizes (expected_file_if_with_contents folder i file) (expected_files_of_folder folder (i + 1) files) (file_sizes folder i file) (files_sizes folder (i + 1) files)

folders_sizes : (i : ℕ) (folders : List Plain) → HaveSizes (expected_files_of_folders i folders)
folders_sizes i [] = tt
folders_sizes i (folder ∷ folders) = more_sizes (expected_files_of_folder i 1 (files_in folder)) (expected_files_of_folders (i + 1) folders) (files_sizes i 1 (files_in folder)) (folders_sizes (i + 1) folders)

found_size : (folder file : ℕ) (es : List ExpectedFile) (e : ExpectedFile) → HaveSizes es → expected_file_at folder file es ≡ Some e → 0 < e.size
found_size folder file [] e sizes is = (cc)
found_size folder file (d ∷ es) e sizes is = by (is_expected_at folder file d) is (found_size folder file es e sizes.1)
  where
    by : (b : Bool) → cond b (Some d) (find (is_expected_at folder file) es) ≡ Some e → (expected_file_at folder file es ≡ Some e → 0 < e.size) → 0 < e.size
    by true h others = subst (λ (x : ExpectedFile). 0 < x.size) (let s : Some d ≡ Some e = h in let t : d ≡ e = (cc) in t) sizes.0
    by false h others = others h

pub wanted_size : (value : Plain) (folder file : ℕ) (found : Option Wanted) (w : Wanted) → option_map expected_of found ≡ expected_file_at folder file (expected_files_of_package value) → found ≡ Some w → 0 < w.size
wanted_size value folder file found w is some =
    found_size folder file (expected_files_of_package value) (expected_of w) (folders_sizes 1 (folders_in value)) (sym is ∙ ap (option_map expected_of) some)

-- ---- a piece that is refused is the last

refused_none_left : (n : ℕ) (e : ExpectedFile) (digest : Option Cause) (bytes : List ℕ) (further : PiecesRead) (c : Cause) → pieces_of_one_file n e digest bytes further ≡ refusal c → (n ≡ 0) × (digest ≡ Some c)
refused_none_left zero e None bytes further c is = absurd (cc)
refused_none_left zero e (Some d) bytes further c is = (refl, (let s : refusal d ≡ refusal c = is in cc))
refused_none_left (suc n) e digest bytes further c is = absurd (cc)

pub refused_whole : (f : FileCheck) (so_far bytes : List ℕ) (c : Cause) → HasTaken f so_far → 0 < file_bytes_left f → length bytes ≡ next_piece_len f → ((so_far left : List ℕ) (further : PiecesRead) → HasTaken f so_far → length (so_far ++ (bytes ++ left)) ≡ f.wanted.size → IsTakeResult f so_far bytes left further (Err c))
    → (length (so_far ++ bytes) ≡ f.wanted.size) × (fault_if_digest_is_not_of_bytes f.wanted.hash.now (so_far ++ bytes) ≡ Some c)
refused_whole f so_far bytes c has some len taken =
    let many = has.long in
    let left : List ℕ = replicate (file_bytes_left f - length bytes) 0 in
    let a = length-append so_far (bytes ++ left) in
    let b = length-append bytes left in
    let d = length-replicate {A = ℕ} (file_bytes_left f - length bytes) 0 in
    let whole : length (so_far ++ (bytes ++ left)) ≡ f.wanted.size = omega (arith, a, b, d, many, some, len) in
    let is = refused_none_left (piece_count_before_last (length (bytes ++ left))) (expected_of f.wanted) (fault_if_digest_is_not_of_bytes f.wanted.hash.now (so_far ++ (bytes ++ left))) (bytes ++ left) no_piece c (taken so_far left no_piece has whole) in
    let zero_pieces = is.0 in
    let all : file_bytes_left f ≡ length bytes = omega (arith, b, d, len, zero_pieces, some) in
    let no_more : left ≡ [] = ap (λ (n : ℕ). replicate {A = ℕ} n 0) (let e : file_bytes_left f - length bytes ≡ 0 = omega (arith, all) in e) in
    let same : so_far ++ (bytes ++ left) ≡ so_far ++ bytes = ap (λ (xs : List ℕ). so_far ++ (bytes ++ xs)) no_more ∙ ap (λ (xs : List ℕ). so_far ++ xs) (append-nil bytes) in
    (ap length (sym same) ∙ whole, ap (fault_if_digest_is_not_of_bytes f.wanted.hash.now) (sym same) ∙ is.1)

-- the bytes that were taken before, and then the last piece, are the whole file. `given` are the bytes of the piece
pub taken_whole : (f : FileCheck) (so_far given bytes : List ℕ) (rest : Option FileCheck) → given ≡ bytes → rest ≡ None → HasTaken f so_far → 0 < file_bytes_left f → IfNone rest (length given ≡ file_bytes_left f) → HasTakenOrPassedDigest f.wanted.hash.now (so_far ++ given) rest
    → (length (so_far ++ bytes) ≡ f.wanted.size) × (fault_if_digest_is_not_of_bytes f.wanted.hash.now (so_far ++ bytes) ≡ None)
taken_whole f so_far given bytes rest same none has some all passed =
    let many = has.long in
    let a = length-append so_far bytes in
    let whole : length given ≡ file_bytes_left f = subst (λ (r : Option FileCheck). IfNone r (length given ≡ file_bytes_left f)) none all in
    let long : length given ≡ length bytes = ap length same in
    let good : fault_if_digest_is_not_of_bytes f.wanted.hash.now (so_far ++ given) ≡ None = subst (λ (r : Option FileCheck). HasTakenOrPassedDigest f.wanted.hash.now (so_far ++ given) r) none passed in
    (omega (arith, a, many, whole, long, some), ap (λ (xs : List ℕ). fault_if_digest_is_not_of_bytes f.wanted.hash.now (so_far ++ xs)) (sym same) ∙ good)

-- the check of the rest of a file has taken the bytes to the end of the piece. `given` are the bytes of the piece
pub taken_further : (f : FileCheck) (so_far given bytes : List ℕ) (further : FileCheck) (rest : Option FileCheck) (part : Part) → given ≡ bytes → rest ≡ Some further → IsPartOfCheckedFile f (part, rest) → HasTakenOrPassedDigest f.wanted.hash.now (so_far ++ given) rest
    → HasTaken further (so_far ++ bytes) × (further.wanted ≡ f.wanted)
taken_further f so_far given bytes further rest part same some is taken =
    let of = subst (λ (r : Option FileCheck). IsPartOfCheckedFile f (part, r)) some is in
    let here = subst (λ (r : Option FileCheck). HasTakenOrPassedDigest f.wanted.hash.now (so_far ++ given) r) some taken in
    (subst (λ (xs : List ℕ). HasTaken further (so_far ++ xs)) same here, of.1)
