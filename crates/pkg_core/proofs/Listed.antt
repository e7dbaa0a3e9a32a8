-- The files and the folders of a list, one by one.
use Rattle.std.proofs.Common.{◌≡◌, ℕ, Bool, true, false, if◌then◌else◌, ◌+◌, ◌-◌, ◌<◌, ◌≤◌, List, [], ◌∷◌, ◌++◌, drop, refl, ap, sym, ◌∙◌, arith}
use Rattle.adb_view.specs.Plain.{Plain, Plains}
use Rattle.adb_view.specs.Values.{nth, count_of, entries_in, entry_at_index, int_in, text_in}
use Rattle.adb_schema.specs.Texts.{is_file_with_contents}
use Rattle.adb_schema.specs.adb_fields.Repeated.{list_of}
use Rattle.adb_schema.proofs.adb_fields.Listed.{next_listed, none_listed}
use Rattle.pkg_core.specs.Contents.{ExpectedFile, expected_file_if_with_contents, expected_files_of_folder, expected_files_of_folders}
use Rattle.pkg_core.specs.Opened.{files_left_from}

-- a file more, with contents or without
file_more : (d i : ℕ) (vs : Plains) → i < count_of vs → expected_files_of_folder d (i + 1) (drop i (list_of vs)) ≡ expected_file_if_with_contents d (i + 1) (nth vs i) ++ expected_files_of_folder d (i + 1 + 1) (drop (i + 1) (list_of vs))
file_more d i vs h = ap (expected_files_of_folder d (i + 1)) (next_listed vs i h)

pub some_file : (d folder i : ℕ) (v f : Plain) (size : ℕ) (hash : List ℕ) → i < count_of (entries_in v) → folder ≡ d → f ≡ entry_at_index v (i + 1 - 1) → is_file_with_contents f ≡ true → size ≡ int_in (entry_at_index f 2) → hash ≡ text_in (entry_at_index f 4)
    → expected_files_of_folder d (i + 1) (drop i (list_of (entries_in v))) ≡ record { folder = folder; file = i + 1; size = size; hash = hash } ∷ expected_files_of_folder d (i + 1 + 1) (drop (i + 1) (list_of (entries_in v)))
some_file d folder i v f size hash lt e is c s h =
    let others : List ExpectedFile = expected_files_of_folder d (i + 1 + 1) (drop (i + 1) (list_of (entries_in v))) in
    let at : f ≡ entry_at_index v i = is ∙ ap (entry_at_index v) (omega arith) in
    let this : List ExpectedFile = record { folder = d; file = i + 1; size = int_in (entry_at_index f 2); hash = text_in (entry_at_index f 4) } ∷ [] in
    file_more d i (entries_in v) lt
    ∙ (ap (λ (g : Plain). expected_file_if_with_contents d (i + 1) g ++ others) (sym at)
    ∙ (ap (λ (b : Bool). (if b then this else []) ++ others) c
    ∙ (λ k. record { folder = (sym e) k; file = i + 1; size = (sym s) k; hash = (sym h) k } ∷ others)))

pub other_file : (d i : ℕ) (v f : Plain) → i < count_of (entries_in v) → f ≡ entry_at_index v (i + 1 - 1) → is_file_with_contents f ≡ false
    → expected_files_of_folder d (i + 1) (drop i (list_of (entries_in v))) ≡ expected_files_of_folder d (i + 1 + 1) (drop (i + 1) (list_of (entries_in v)))
other_file d i v f lt is c =
    let others : List ExpectedFile = expected_files_of_folder d (i + 1 + 1) (drop (i + 1) (list_of (entries_in v))) in
    let at : f ≡ entry_at_index v i = is ∙ ap (entry_at_index v) (omega arith) in
    let this : List ExpectedFile = record { folder = d; file = i + 1; size = int_in (entry_at_index f 2); hash = text_in (entry_at_index f 4) } ∷ [] in
    file_more d i (entries_in v) lt
    ∙ (ap (λ (g : Plain). expected_file_if_with_contents d (i + 1) g ++ others) (sym at)
    ∙ ap (λ (b : Bool). (if b then this else []) ++ others) c)

pub no_file : (d j i : ℕ) (v : Plain) → count_of (entries_in v) ≤ i → expected_files_of_folder d j (drop i (list_of (entries_in v))) ≡ []
no_file d j i v h = ap (expected_files_of_folder d j) (none_listed (entries_in v) i h)

-- a folder more
at_folder : (i : ℕ) (folders : List Plain) → files_left_from i 0 folders ≡ expected_files_of_folders i folders
at_folder i [] = refl
at_folder i (d ∷ ds) = refl

folder_more : (i j : ℕ) (v d fs : Plain) → i < count_of (entries_in v) → d ≡ entry_at_index v (i + 1 - 1) → fs ≡ entry_at_index d 2
    → files_left_from (i + 1) j (drop i (list_of (entries_in v))) ≡ expected_files_of_folder (i + 1) (j + 1) (drop j (list_of (entries_in fs))) ++ expected_files_of_folders (i + 1 + 1) (drop (i + 1) (list_of (entries_in v)))
folder_more i j v d fs lt is files =
    let at : fs ≡ entry_at_index (entry_at_index v i) 2 = files ∙ (ap (λ (g : Plain). entry_at_index g 2) is ∙ ap (λ n. entry_at_index (entry_at_index v n) 2) (omega arith)) in
    ap (files_left_from (i + 1) j) (next_listed (entries_in v) i lt)
    ∙ ap (λ (g : Plain). expected_files_of_folder (i + 1) (j + 1) (drop j (list_of (entries_in g))) ++ expected_files_of_folders (i + 1 + 1) (drop (i + 1) (list_of (entries_in v)))) (sym at)

pub some_left : (i j k : ℕ) (v d fs : Plain) (w : ExpectedFile) → i < count_of (entries_in v) → d ≡ entry_at_index v (i + 1 - 1) → fs ≡ entry_at_index d 2
    → expected_files_of_folder (i + 1) (j + 1) (drop j (list_of (entries_in fs))) ≡ w ∷ expected_files_of_folder (i + 1) (k + 1) (drop k (list_of (entries_in fs)))
    → files_left_from (i + 1) j (drop i (list_of (entries_in v))) ≡ w ∷ files_left_from (i + 1) k (drop i (list_of (entries_in v)))
some_left i j k v d fs w lt is files e =
    let others : List ExpectedFile = expected_files_of_folders (i + 1 + 1) (drop (i + 1) (list_of (entries_in v))) in
    folder_more i j v d fs lt is files
    ∙ (ap (λ es. es ++ others) e
    ∙ ap (λ es. w ∷ es) (sym (folder_more i k v d fs lt is files)))

pub folder_left : (i j : ℕ) (v d fs : Plain) → i < count_of (entries_in v) → d ≡ entry_at_index v (i + 1 - 1) → fs ≡ entry_at_index d 2
    → expected_files_of_folder (i + 1) (j + 1) (drop j (list_of (entries_in fs))) ≡ []
    → files_left_from (i + 1) j (drop i (list_of (entries_in v))) ≡ files_left_from (i + 1 + 1) 0 (drop (i + 1) (list_of (entries_in v)))
folder_left i j v d fs lt is files e =
    folder_more i j v d fs lt is files
    ∙ (ap (λ es. es ++ expected_files_of_folders (i + 1 + 1) (drop (i + 1) (list_of (entries_in v)))) e
    ∙ sym (at_folder (i + 1 + 1) (drop (i + 1) (list_of (entries_in v)))))

pub none_left : (i j : ℕ) (v : Plain) → count_of (entries_in v) ≤ i → files_left_from (i + 1) j (drop i (list_of (entries_in v))) ≡ []
none_left i j v h = ap (files_left_from (i + 1) j) (none_listed (entries_in v) i h)
