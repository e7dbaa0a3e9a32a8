-- The lists of a plan: which names a change removes, writes and keeps, in byte order. The rules are in
-- `docs/commands.md`, "What a change does with files"; the first test there is that of reserved
-- names.
use Rattle.std.specs.Prelude.{ℕ, cond, List, [], ◌∷◌, ◌++◌, map, Option, option_map, is_some, bytes_eq}
use Rattle.std.specs.List.{filter, filter_map}
use Rattle.base_core.specs.Files.{Files}
use Rattle.base_core.specs.ByteOrder.{bytes_cmp, smallest_text}
use Rattle.base_core.specs.Sorted.{sorted_by}
use Rattle.file_guard.specs.adb_schema.Reserved.{is_reserved}
use Rattle.file_owners.specs.db_core.Members.{Listing, Member}
use Rattle.own_core.specs.NamesAfter.{added_paths}
use Rattle.own_core.specs.Fate.{apk_new_name}
use Rattle.own_core.specs.FileChange.{FileChange, old_listings}
use Rattle.own_core.specs.FilesAfter.{is_left_over_modified_file_kept, is_removed, listing_written_as_apk_new_beside, listing_written_under_name}

-- ---- names in byte order, each once

-- the names, preceded by the name, unless the first of the names is the same
abbrev pub prepend_unless_equal_to_first : List ℕ → List (List ℕ) → List (List ℕ)
prepend_unless_equal_to_first name [] = name ∷ []
prepend_unless_equal_to_first name (x ∷ xs) = cond (bytes_eq name x) (x ∷ xs) (name ∷ x ∷ xs)

-- the names, in which adjacent equal ones are replaced by one
abbrev pub names_with_adjacent_repeats_merged : List (List ℕ) → List (List ℕ)
names_with_adjacent_repeats_merged [] = []
names_with_adjacent_repeats_merged (x ∷ xs) =
    prepend_unless_equal_to_first x (names_with_adjacent_repeats_merged xs)

-- the names, sorted in byte order, each once
unfoldable pub sorted_distinct_names : List (List ℕ) → List (List ℕ)
sorted_distinct_names names = names_with_adjacent_repeats_merged (sorted_by bytes_cmp names)

-- the paths of the files that the packages before the change list
abbrev pub old_paths : FileChange → List (List ℕ)
old_paths change = map (λ l. l.path) (old_listings change)

-- ---- the lists

-- a write of a change: a name, and the file of an added package whose contents it gets
pub record FileWrite : Type 0 where
  -- the name under which the file is written
  pub name : List ℕ
  -- the index of the member whose package has the file
  pub member : ℕ
  -- the position of the folder in the package, counted from 1
  pub folder : ℕ
  -- the position of the file in the folder, counted from 1
  pub file : ℕ

-- the write of the listed file `l` under this name, which is its path, or this path with `.apk-new`
abbrev pub file_write_under_name : List ℕ → Listing → FileWrite
file_write_under_name name l = record { name = name; member = l.place; folder = l.folder; file = l.file }

-- the writes of a change, in byte order of their names; `files` are those before the change
unfoldable pub file_writes_of : FileChange → Files → List FileWrite
file_writes_of change files =
    filter_map (λ name. option_map (file_write_under_name name)
    (listing_written_under_name change files name))
    (sorted_distinct_names (added_paths change.members ++ map apk_new_name (added_paths change.members)))

-- the names that the change removes, in byte order
unfoldable pub removals_of : FileChange → Files → List (List ℕ)
removals_of change files = filter (is_removed change files) (sorted_distinct_names (old_paths change))

-- the paths at which the user's modified file is kept although no package lists them after the change, in byte order
unfoldable pub kept_left_over_paths_of : FileChange → Files → List (List ℕ)
kept_left_over_paths_of change files =
    filter (is_left_over_modified_file_kept change files) (sorted_distinct_names (old_paths change))

-- the paths beside which an `.apk-new` file is written, in byte order
unfoldable pub paths_with_apk_new_file : FileChange → Files → List (List ℕ)
paths_with_apk_new_file change files =
    filter (λ path. is_some (listing_written_as_apk_new_beside change files path))
    (sorted_distinct_names (added_paths change.members))

-- ---- reserved paths

-- the first reserved path in byte order that an added package lists
unfoldable pub first_reserved_added_path_in_byte_order : List Member → Option (List ℕ)
first_reserved_added_path_in_byte_order members = smallest_text (filter is_reserved (added_paths members))
