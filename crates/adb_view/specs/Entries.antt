-- The words of the entries of an array (`Arr`) or an object (`Obj`) that the program has read. The rule is in
-- `docs/formats.md`, "Values" ("The first word of a run"): entries count from 1, and one past the last is NULL.
use Rattle.std.specs.Prelude.{ℕ, ◌/◌, ◌-◌, List, length, slice_index}
use Rattle.adb_view.specs.Bytes.{words}
use Rattle.adb_view.specs.declared.run.Arr.{Arr}
use Rattle.adb_view.specs.declared.run.Obj.{Obj}

-- the words of the entries of an array that was read
abbrev pub array_entries : Arr → List ℕ
array_entries array = words (length array.bytes.now / 4) array.bytes.now

-- the words of the entries of an object that was read; entries past the fields of its table are
-- included
abbrev pub object_entries : {N : ℕ} → Obj N → List ℕ
object_entries object = array_entries object.entries

-- the word of the entry at the position i, which counts from 1; past the last entry it is 0, which is NULL
abbrev pub entry_word_at_position : List ℕ → ℕ → ℕ
entry_word_at_position entries i = slice_index entries (i - 1)
