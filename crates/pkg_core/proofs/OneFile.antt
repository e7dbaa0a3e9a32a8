-- The file with two positions among those that have contents.
use Rattle.std.proofs.Common.{◌≡◌, ℕ, zero, suc, Bool, true, false, cond, ◌==◌, ◌&&◌, if◌then◌else◌, ◌+◌, ◌-◌, ◌<◌, ◌≤◌, List, [], ◌∷◌, ◌++◌, Option, Some, None, refl, ap, sym, ◌∙◌, subst, arith}
use Rattle.std.specs.List.{find}
use Rattle.std.proofs.lemmas.Bool.{eqb-true, false_from_ne_true, eq-eqb}
use Rattle.adb_view.specs.Plain.{Plain, Plains, none, more}
use Rattle.adb_view.specs.Values.{nth, count_of, entries_in, entry_at_index, int_in, text_in}
use Rattle.adb_schema.specs.Texts.{is_file_with_contents}
use Rattle.adb_schema.specs.adb_fields.Repeated.{files_in, list_of}
use Rattle.pkg_core.specs.Contents.{ExpectedFile, expected_files_of_folder, expected_files_of_folders}
use Rattle.pkg_core.specs.Opened.{expected_file_at, is_expected_at}

-- ---- lists

find_joined : {X : Type 0} (p : X → Bool) (xs ys : List X) → find p xs ≡ None → find p (xs ++ ys) ≡ find p ys
find_joined p [] ys absent = refl
find_joined {X} p (x ∷ xs) ys absent = by_test (p x) absent (find_joined p xs ys)
  where
    by_test : (b : Bool) → cond b (Some x) (find p xs) ≡ None → (find p xs ≡ None → find p (xs ++ ys) ≡ find p ys) → cond b (Some x) (find p (xs ++ ys)) ≡ find p ys
    by_test true absent f = absurd (cc)
    by_test false absent f = f absent

find_by_first : {X : Type 0} (p : X → Bool) (xs ys : List X) → find p ys ≡ None → find p (xs ++ ys) ≡ find p xs
find_by_first p [] ys absent = absent
find_by_first {X} p (x ∷ xs) ys absent = ap (λ (o : Option X). cond (p x) (Some x) o) (find_by_first p xs ys absent)

apart : (a b : ℕ) → (a ≡ b → ⊥) → (a == b) ≡ false
apart a b other = false_from_ne_true (a == b) (λ e. other (eqb-true a b e))

other_folder : (folder file : ℕ) (e : ExpectedFile) → (e.folder ≡ folder → ⊥) → is_expected_at folder file e ≡ false
other_folder folder file e other = ap (λ (b : Bool). b && (e.file == file)) (apart e.folder folder other)

and_false : (b : Bool) → b && false ≡ false
and_false true = refl
and_false false = refl

other_file_of : (folder file : ℕ) (e : ExpectedFile) → (e.file ≡ file → ⊥) → is_expected_at folder file e ≡ false
other_file_of folder file e other = ap (λ (b : Bool). (e.folder == folder) && b) (apart e.file file other) ∙ and_false (e.folder == folder)

-- ---- a file that may have contents

passed_by : (b : Bool) (folder file : ℕ) (e : ExpectedFile) (es : List ExpectedFile) → is_expected_at folder file e ≡ false → expected_file_at folder file ((if b then e ∷ [] else []) ++ es) ≡ expected_file_at folder file es
passed_by true folder file e es other = ap (λ (t : Bool). cond t (Some e) (find (is_expected_at folder file) es)) other
passed_by false folder file e es other = refl

abbrev expected_file : ℕ → ℕ → Plain → ExpectedFile
expected_file folder i f = record { folder = folder; file = i; size = int_in (entry_at_index f 2); hash = text_in (entry_at_index f 4) }

abbrev if_with_contents : ℕ → ℕ → Plain → Option ExpectedFile
if_with_contents folder i f = if is_file_with_contents f then Some (expected_file folder i f) else None

-- ---- the files of a folder

none_behind : (d folder file i : ℕ) (vs : Plains) → file < i → expected_file_at folder file (expected_files_of_folder d i (list_of vs)) ≡ None
none_behind d folder file i none behind = refl
none_behind d folder file i (more f vs) behind =
    passed_by (is_file_with_contents f) folder file (expected_file d i f) (expected_files_of_folder d (i + 1) (list_of vs)) (other_file_of folder file (expected_file d i f) (λ e. omega (arith, e, behind)))
    ∙ none_behind d folder file (i + 1) vs (omega (arith, behind))

none_of_folder : (d folder file i : ℕ) (files : List Plain) → (d ≡ folder → ⊥) → expected_file_at folder file (expected_files_of_folder d i files) ≡ None
none_of_folder d folder file i [] other = refl
none_of_folder d folder file i (f ∷ fs) other =
    passed_by (is_file_with_contents f) folder file (expected_file d i f) (expected_files_of_folder d (i + 1) fs) (other_folder folder file (expected_file d i f) other)
    ∙ none_of_folder d folder file (i + 1) fs other

met : (b : Bool) (folder file : ℕ) (e : ExpectedFile) (es : List ExpectedFile) → is_expected_at folder file e ≡ true → expected_file_at folder file es ≡ None → expected_file_at folder file ((if b then e ∷ [] else []) ++ es) ≡ (if b then Some e else None)
met true folder file e es is absent = ap (λ (t : Bool). cond t (Some e) (find (is_expected_at folder file) es)) is
met false folder file e es is absent = absent

same_positions : (folder file : ℕ) → ((folder == folder) && (file == file)) ≡ true
same_positions folder file = ap (λ (b : Bool). b && (file == file)) (eq-eqb folder folder refl) ∙ eq-eqb file file refl

pub file_at : (folder i k : ℕ) (vs : Plains) → k < count_of vs → expected_file_at folder (i + k) (expected_files_of_folder folder i (list_of vs)) ≡ if_with_contents folder (i + k) (nth vs k)
file_at folder i k none within = absurd (omega (arith, within))
file_at folder i zero (more f vs) within =
    let at : i + 0 ≡ i = omega arith in
    subst (λ (n : ℕ). expected_file_at folder n (expected_files_of_folder folder i (f ∷ list_of vs)) ≡ if_with_contents folder n f) (sym at)
    (met (is_file_with_contents f) folder i (expected_file folder i f) (expected_files_of_folder folder (i + 1) (list_of vs)) (same_positions folder i) (none_behind folder folder i (i + 1) vs (omega arith)))
file_at folder i (suc k) (more f vs) within =
    let at : i + suc k ≡ (i + 1) + k = omega arith in
    subst (λ (n : ℕ). expected_file_at folder n (expected_files_of_folder folder i (f ∷ list_of vs)) ≡ if_with_contents folder n (nth vs k)) (sym at)
    (passed_by (is_file_with_contents f) folder (i + 1 + k) (expected_file folder i f) (expected_files_of_folder folder (i + 1) (list_of vs)) (other_file_of folder (i + 1 + k) (expected_file folder i f) (λ e. omega (arith, e)))
    ∙ file_at folder (i + 1) k vs (omega (arith, within)))

pub file_past : (folder file i : ℕ) (vs : Plains) → i + count_of vs ≤ file → expected_file_at folder file (expected_files_of_folder folder i (list_of vs)) ≡ None
file_past folder file i none past = refl
file_past folder file i (more f vs) past =
    passed_by (is_file_with_contents f) folder file (expected_file folder i f) (expected_files_of_folder folder (i + 1) (list_of vs)) (other_file_of folder file (expected_file folder i f) (λ e. omega (arith, e, past)))
    ∙ file_past folder file (i + 1) vs (omega (arith, past))

pub file_before : (folder file i : ℕ) (vs : Plains) → file < i → expected_file_at folder file (expected_files_of_folder folder i (list_of vs)) ≡ None
file_before folder file i vs before = none_behind folder folder file i vs before

-- ---- the folders

folders_behind : (folder file i : ℕ) (ds : List Plain) → folder < i → expected_file_at folder file (expected_files_of_folders i ds) ≡ None
folders_behind folder file i [] behind = refl
folders_behind folder file i (d ∷ ds) behind =
    find_joined (is_expected_at folder file) (expected_files_of_folder i 1 (files_in d)) (expected_files_of_folders (i + 1) ds) (none_of_folder i folder file 1 (files_in d) (λ e. omega (arith, e, behind)))
    ∙ folders_behind folder file (i + 1) ds (omega (arith, behind))

pub folder_at : (file i k : ℕ) (vs : Plains) → k < count_of vs → expected_file_at (i + k) file (expected_files_of_folders i (list_of vs)) ≡ expected_file_at (i + k) file (expected_files_of_folder (i + k) 1 (files_in (nth vs k)))
folder_at file i k none within = absurd (omega (arith, within))
folder_at file i zero (more d vs) within =
    let at : i + 0 ≡ i = omega arith in
    subst (λ (n : ℕ). expected_file_at n file (expected_files_of_folders i (d ∷ list_of vs)) ≡ expected_file_at n file (expected_files_of_folder n 1 (files_in d))) (sym at)
    (find_by_first (is_expected_at i file) (expected_files_of_folder i 1 (files_in d)) (expected_files_of_folders (i + 1) (list_of vs)) (folders_behind i file (i + 1) (list_of vs) (omega arith)))
folder_at file i (suc k) (more d vs) within =
    let at : i + suc k ≡ (i + 1) + k = omega arith in
    subst (λ (n : ℕ). expected_file_at n file (expected_files_of_folders i (d ∷ list_of vs)) ≡ expected_file_at n file (expected_files_of_folder n 1 (files_in (nth vs k)))) (sym at)
    (find_joined (is_expected_at (i + 1 + k) file) (expected_files_of_folder i 1 (files_in d)) (expected_files_of_folders (i + 1) (list_of vs)) (none_of_folder i (i + 1 + k) file 1 (files_in d) (λ e. omega (arith, e)))
    ∙ folder_at file (i + 1) k vs (omega (arith, within)))

pub folder_past : (folder file i : ℕ) (vs : Plains) → i + count_of vs ≤ folder → expected_file_at folder file (expected_files_of_folders i (list_of vs)) ≡ None
folder_past folder file i none past = refl
folder_past folder file i (more d vs) past =
    find_joined (is_expected_at folder file) (expected_files_of_folder i 1 (files_in d)) (expected_files_of_folders (i + 1) (list_of vs)) (none_of_folder i folder file 1 (files_in d) (λ e. omega (arith, e, past)))
    ∙ folder_past folder file (i + 1) vs (omega (arith, past))

pub folder_before : (folder file i : ℕ) (ds : List Plain) → folder < i → expected_file_at folder file (expected_files_of_folders i ds) ≡ None
folder_before folder file i ds before = folders_behind folder file i ds before

-- ---- by the entry at a position

abbrev IsFoundAt : ℕ → ℕ → Plain → ℕ → Type 0
IsFoundAt folder file v k = expected_file_at folder file (expected_files_of_folder folder 1 (list_of (entries_in v))) ≡ if_with_contents folder file (nth (entries_in v) k)

found_at : (folder file : ℕ) (v : Plain) → 1 ≤ file → file ≤ count_of (entries_in v) → IsFoundAt folder file v (file - 1)
found_at folder file v from within =
    let at : 1 + (file - 1) ≡ file = omega (arith, from) in
    subst (λ (n : ℕ). IsFoundAt folder n v (file - 1)) at (file_at folder 1 (file - 1) (entries_in v) (omega (arith, from, within)))

pub no_file_there : (folder file : ℕ) (v f : Plain) → 1 ≤ file → file ≤ count_of (entries_in v) → f ≡ entry_at_index v (file - 1) → is_file_with_contents f ≡ false
    → expected_file_at folder file (expected_files_of_folder folder 1 (list_of (entries_in v))) ≡ None
no_file_there folder file v f from within is without =
    found_at folder file v from within
    ∙ (ap (if_with_contents folder file) (sym is) ∙ ap (λ (b : Bool). if b then Some (expected_file folder file f) else None) without)

pub file_there : (folder file : ℕ) (v f : Plain) (size : ℕ) (hash : List ℕ) → 1 ≤ file → file ≤ count_of (entries_in v) → f ≡ entry_at_index v (file - 1) → is_file_with_contents f ≡ true → size ≡ int_in (entry_at_index f 2) → hash ≡ text_in (entry_at_index f 4)
    → expected_file_at folder file (expected_files_of_folder folder 1 (list_of (entries_in v))) ≡ Some (record { folder = folder; file = file; size = size; hash = hash })
file_there folder file v f size hash from within is with s h =
    found_at folder file v from within
    ∙ (ap (if_with_contents folder file) (sym is)
    ∙ (ap (λ (b : Bool). if b then Some (expected_file folder file f) else None) with
    ∙ (λ k. Some (record { folder = folder; file = file; size = (sym s) k; hash = (sym h) k }))))

pub folder_there : (folder file : ℕ) (v d fs : Plain) → 1 ≤ folder → folder ≤ count_of (entries_in v) → d ≡ entry_at_index v (folder - 1) → fs ≡ entry_at_index d 2
    → expected_file_at folder file (expected_files_of_folders 1 (list_of (entries_in v))) ≡ expected_file_at folder file (expected_files_of_folder folder 1 (list_of (entries_in fs)))
folder_there folder file v d fs from within is files =
    let at : 1 + (folder - 1) ≡ folder = omega (arith, from) in
    subst (λ (n : ℕ). expected_file_at n file (expected_files_of_folders 1 (list_of (entries_in v))) ≡ expected_file_at n file (expected_files_of_folder n 1 (files_in (nth (entries_in v) (folder - 1))))) at
    (folder_at file 1 (folder - 1) (entries_in v) (omega (arith, from, within)))
    ∙ ap (λ (g : Plain). expected_file_at folder file (expected_files_of_folder folder 1 (list_of (entries_in g)))) (ap (λ (g : Plain). entry_at_index g 2) (sym is) ∙ sym files)
