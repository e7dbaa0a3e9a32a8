-- Images: the files that a crash may leave, each picked by a number. The rule is in `docs/crash-safety.md`, "Images of
-- the tree in memory"; "What a crash leaves" says what a crash may leave at all.
use Rattle.std.specs.Prelude.{◌≡◌, ℕ, zero, suc, ◌+◌, ◌-◌, ◌*◌, ◌/◌, ◌%◌, ◌^◌, ◌<◌, ◌≤◌, min, nat_le, Bool, true, false, if◌then◌else◌, ◌||◌, ◌==◌, List, [], ◌∷◌, length, replicate}
use Rattle.std.specs.Option.{option_map}
use Rattle.base_core.specs.Files.{Files, NameMap, HasNoFileAsFolder}
use Rattle.base_core.specs.Tree.{TreeState, File}
use Rattle.base_core.specs.Undone.{IsCrashMap, with_change_replayed}
use Rattle.tree_memory.specs.Table.{lookup}
use Rattle.tree_memory.specs.declared.store.Change.{Change}
use Rattle.tree_memory.specs.declared.store.Change.TheVariants.{Put, Create, Append, Sync, Rename, Remove, SyncNames, Stay}
use Rattle.tree_memory.specs.declared.store.Stored.{Stored}
use Rattle.tree_memory.specs.declared.table.NameAndFile.{NameAndFile}

-- ---- which changes of names are undone

-- if at most this many changes of names followed the last sync of the names, there is a number for each subset
-- of these changes: it picks the map of names in which exactly these are undone
abbrev pub most_changes_with_all_subsets : ℕ
most_changes_with_all_subsets = 5

-- whether the binary digit of a number is 1 at a place, counted from the lowest as 0
abbrev pub is_bit_set_at : ℕ → ℕ → Bool
is_bit_set_at n zero = n % 2 == 1
is_bit_set_at n (suc place) = is_bit_set_at (n / 2) place

-- Whether the change with the number `number` (the oldest is 0) is undone in the map of names that `pick` picks, if
-- `changes` changes of names followed the last sync of the names. Of few changes, each has a binary digit of `pick`,
-- the newest the lowest; it is undone if the digit is 1. Of more changes, a `pick` of at most their count undoes so
-- many of the newest changes, and each further `pick` undoes one change alone, the oldest first.
abbrev pub is_change_undone : ℕ → ℕ → ℕ → Bool
is_change_undone changes pick number =
    if nat_le changes most_changes_with_all_subsets then is_bit_set_at pick (changes - number - 1)
    else (if nat_le pick changes then nat_le (changes - pick) number
    else pick - changes - 1 == number)

-- how many numbers pick a map of names, given how many changes of names followed the last sync of the names; at
-- most 2^64 - 1
abbrev pub crash_map_pick_count : ℕ → ℕ
crash_map_pick_count changes =
    if nat_le changes most_changes_with_all_subsets then 2 ^ changes else min (changes * 2 + 1) (2 ^ 64 - 1)

-- the map of names that a crash leaves if it undoes the changes for whose number `undone` is true, given the newest map
-- and the older ones. The number of a change is how many changes are before it.
abbrev pub map_without : (ℕ → Bool) → NameMap → List NameMap → NameMap
map_without undone new [] = new
map_without undone new (old ∷ older) =
    if undone (length older) then map_without undone old older
    else with_change_replayed old new (map_without undone old older)

-- the map of names that a number picks: the changes of names since the last sync, without those that are undone
abbrev pub picked_crash_map : ℕ → TreeState → NameMap
picked_crash_map pick v = map_without (is_change_undone (length v.older) pick) v.names v.older

-- ---- the image that a number picks

-- the bytes of a file after a crash. A synced file keeps its bytes. For an unsynced file, `way` chooses its bytes as
-- read (0), no bytes (1), or as many bytes of value 255 (any other number)
abbrev pub crash_bytes : ℕ → File → List ℕ
crash_bytes way file = if file.synced || way == 0 then file.bytes else
    (if way == 1 then [] else replicate (length file.bytes) 255)

-- how many numbers pick a map of names that a crash at this state may leave: the numbers below the result
abbrev pub crash_map_pick_count_of : TreeState → ℕ
crash_map_pick_count_of v = crash_map_pick_count (length v.older)

-- `map` is the map of names of the image that the number `pick` picks: the picked map, or the current map of the state
-- `v` if in the picked map a file is a folder of another, which no tree has
pub record IsPickedImageMap (pick : ℕ) (v : TreeState) (map : NameMap) : Type 0 where
  -- if in the picked map no name is a folder of another, the map is the picked one
  pub fits : HasNoFileAsFolder (picked_crash_map pick v) → map ≡ picked_crash_map pick v
  -- otherwise the map is the current one of the state
  pub as_read : (HasNoFileAsFolder (picked_crash_map pick v) → ⊥) → map ≡ v.names

-- `image` are the files after the crash that the number `choice` picks. The number is divided by how many numbers
-- pick a map of names: the remainder picks the map, and the quotient modulo 3 the bytes of unsynced files
abbrev pub IsImageOf : ℕ → TreeState → Files → Type 0
IsImageOf choice v image = (map : NameMap) × IsPickedImageMap (choice % crash_map_pick_count_of v) v map
    × ((q : List ℕ) → image q
    ≡ option_map (λ n. crash_bytes ((choice / crash_map_pick_count_of v) % 3) (v.files n)) (map q))

-- the entries of a table are the map of names of the image that the number `pick` picks
pub record HasImageNames (pick : ℕ) (v : TreeState) (entries : List NameAndFile) : Type 0 where
  -- the table is the map of names of the image that the number picks
  pub map : IsPickedImageMap pick v (lookup entries)
  -- a crash may leave this map of names
  pub left : IsCrashMap v (lookup entries)
  -- in this map no name is a folder of another
  pub folders : HasNoFileAsFolder (lookup entries)

-- ---- how the maps of names are counted from the recorded changes

-- the maps of names since the names were last synced, the current one first
abbrev pub maps_newest_first : TreeState → List NameMap
maps_newest_first v = v.names ∷ v.older

-- whether a change, as a store records it, syncs the names
abbrev pub syncs_names : Change → Bool
syncs_names (Put name file len) = true
syncs_names (Create name) = false
syncs_names (Append file len) = false
syncs_names (Sync file) = false
syncs_names (Rename from to) = false
syncs_names (Remove name) = false
syncs_names SyncNames = true
syncs_names Stay = false

-- how many maps of names (the current one and the older ones) a state has after a change, if it had `maps` before
abbrev pub map_count_after_change : Change → ℕ → ℕ
map_count_after_change (Put name file len) maps = 1
map_count_after_change (Create name) maps = maps + 1
map_count_after_change (Append file len) maps = maps
map_count_after_change (Sync file) maps = maps
map_count_after_change (Rename from to) maps = maps + 1
map_count_after_change (Remove name) maps = maps + 1
map_count_after_change SyncNames maps = 1
map_count_after_change Stay maps = maps

-- a table has the names of the state `v`, and `count` is the number of files that were made in this state
pub record HasNames (v : TreeState) (entries : List NameAndFile) (count : ℕ) : Type 0 where
  -- each name leads in the state to the file number that the table has for it
  pub names : (q : List ℕ) → v.names q ≡ lookup entries q
  -- this many files were made in the state
  pub made : v.made ≡ count

-- the file, as states have it, of a `Stored`: the same bytes, and synced exactly if the `Stored` is
abbrev pub stored_file : Stored → File
stored_file stored = record { bytes = stored.bytes.items; synced = stored.synced }
