-- The positions of folders and files are no larger than the number of values.
use Rattle.std.proofs.Common.{ℕ, zero, suc, ◌+◌, ◌<◌, ◌≤◌, Bool, true, false, if◌then◌else◌, List, [], ◌∷◌, ◌++◌, arith}
use Rattle.adb_view.specs.Plain.{Plain, null, int, blob, arr, obj, Plains, none, more, count_of}
use Rattle.adb_view.specs.Values.{nth, entries_in, entry_at_index, int_in, text_in}
use Rattle.pkg_core.specs.adb_fields.Repeated.{list_of, files_in}
use Rattle.pkg_core.specs.adb_schema.Texts.{is_file_with_contents}
use Rattle.adb_write.specs.Size.{entries_of, entries_of_all}
use Rattle.pkg_core.specs.Contents.{ExpectedFile, expected_file_if_with_contents, expected_files_of_folder, expected_files_of_folders, expected_files_of_package}

-- both positions of each are below n
abbrev pub AreBelow : ℕ → List ExpectedFile → Type 0
AreBelow n [] = Unit {0}
AreBelow n (e ∷ es) = (e.folder < n) × (e.file < n) × AreBelow n es

below-append : (n : ℕ) (es fs : List ExpectedFile) → AreBelow n es → AreBelow n fs → AreBelow n (es ++ fs)
below-append n [] fs a b = b
below-append n (e ∷ es) fs a b = (a.0, a.1, below-append n es fs a.2 b)

-- ---- what is held in a value counts there

held : (v : Plain) → count_of (entries_in v) + entries_of_all (entries_in v) ≤ entries_of v
unfolding entries_of entries_of_all
held null = omega arith
held (int n) = omega arith
held (blob b) = omega arith
held (arr vs) = omega arith
held (obj vs) = omega arith

nth_held : (vs : Plains) (i : ℕ) → entries_of (nth vs i) ≤ entries_of_all vs
unfolding entries_of entries_of_all
nth_held none i = omega arith
nth_held (more v vs) zero = omega arith
nth_held (more v vs) (suc i) = omega (arith, nth_held vs i)

entry_held : (v : Plain) (i : ℕ) → entries_of (entry_at_index v i) ≤ entries_of v
entry_held v i = omega (arith, held v, nth_held (entries_in v) i)

-- ---- so positions are small

at_below : (n d i : ℕ) (f : Plain) → d < n → i < n → AreBelow n (expected_file_if_with_contents d i f)
at_below n d i f a b = by_contents (is_file_with_contents f)
  where
    by_contents : (c : Bool) → AreBelow n (if c then record { folder = d; file = i; size = int_in (entry_at_index f 2); hash = text_in (entry_at_index f 4) } ∷ [] else [])
    by_contents true = (a, b, tt)
    by_contents false = tt

files_below : (n d i : ℕ) (vs : Plains) → d < n → i + count_of vs ≤ n → AreBelow n (expected_files_of_folder d i (list_of vs))
files_below n d i none a b = tt
files_below n d i (more f vs) a b =
    below-append n (expected_file_if_with_contents d i f) (expected_files_of_folder d (i + 1) (list_of vs)) (at_below n d i f a (omega arith)) (files_below n d (i + 1) vs a (omega arith))

folders_below : (n d : ℕ) (vs : Plains) → d + count_of vs ≤ n → 1 + entries_of_all vs ≤ n → AreBelow n (expected_files_of_folders d (list_of vs))
unfolding entries_of entries_of_all
folders_below n d none a b = tt
folders_below n d (more folder vs) a b =
    let files = held (entry_at_index folder 2) in
    let folder_held = entry_held folder 2 in
    below-append n (expected_files_of_folder d 1 (files_in folder)) (expected_files_of_folders (d + 1) (list_of vs)) (files_below n d 1 (entries_in (entry_at_index folder 2)) (omega arith) (omega arith)) (folders_below n (d + 1) vs (omega arith) (omega arith))

pub expected_below : (n : ℕ) (v : Plain) → 1 + entries_of v ≤ n → AreBelow n (expected_files_of_package v)
expected_below n v few =
    let folders = held (entry_at_index v 1) in
    let inside = entry_held v 1 in
    folders_below n 1 (entries_in (entry_at_index v 1)) (omega arith) (omega arith)
