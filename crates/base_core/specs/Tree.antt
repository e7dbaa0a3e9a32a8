-- A tree of files at one moment, what each call does to it, and when a call is a misuse. The rules are
-- in `docs/crash-safety.md`, "A tree at one moment", "What each call does" and "Misuses, faults and
-- counts".
use Rattle.std.specs.Prelude.{◌≡◌, ◌⊎◌, ◌≢◌, ◌≤◌, ◌<◌, ℕ, ◌+◌, Bool, true, false, if◌then◌else◌, ◌==◌, List, [], ◌∷◌, ◌++◌, Option, Some, None, IsSome, length}
use Rattle.base_core.specs.Lists.{IsIn}
use Rattle.base_core.specs.Files.{Files, NameMap, put_name, drop_name, move_name, AreNames, AreFileBytes, HasNoFileAsFolder, HasOnlyNamesAmong}

-- a file: its bytes as read, and whether a crash keeps exactly these
pub record File : Type 0 where
  -- the bytes as a read gives them
  pub bytes : List ℕ
  -- whether a crash keeps exactly these bytes
  pub synced : Bool

-- a tree at one moment: the file of each number, how many files were made, the map of names as read, and the older maps
-- of names since the names were last synced
pub record TreeState : Type 0 where
  -- the file of each number
  pub files : ℕ → File
  -- how many files were made, which is the number of the next one
  pub made : ℕ
  -- the map of names as read
  pub names : NameMap
  -- the earlier maps since the names were last synced, the newest first
  pub older : List NameMap

-- the bytes of the file with this number; None if there is no number
abbrev pub bytes_of_file_number : (ℕ → File) → Option ℕ → Option (List ℕ)
bytes_of_file_number files None = None
bytes_of_file_number files (Some n) = Some (files n).bytes

-- the files of a state under one of its maps of names: the bytes of the file to which each name leads
abbrev pub files_under_map : TreeState → NameMap → Files
files_under_map v map q = bytes_of_file_number v.files (map q)

-- the files as read: those under the newest map of names
abbrev pub files_of : TreeState → Files
files_of v = files_under_map v v.names

-- ---- how the calls change a state

-- the files by number, in which the number `n` has this file
abbrev pub set_file : (ℕ → File) → ℕ → File → ℕ → File
set_file files n file k = if k == n then file else files k

-- the state in which `change` is applied to the file with this number; unchanged if there is no number
abbrev pub with_file_changed : (File → File) → TreeState → Option ℕ → TreeState
with_file_changed change v None = v
with_file_changed change v (Some n) = record v { files = set_file v.files n (change (v.files n)) }

-- the state with this new map of names; the previous map becomes the newest older map, which a crash may restore
abbrev pub with_newer_name_map : TreeState → NameMap → TreeState
with_newer_name_map v names = record v { names = names; older = v.names ∷ v.older }

-- the state after `create`: a new empty file, not synced, is under the name
abbrev pub after_create : List ℕ → TreeState → TreeState
after_create name v = record {
  files = set_file v.files v.made (record { bytes = []; synced = false });
  made = v.made + 1;
  names = put_name v.names name v.made;
  older = v.names ∷ v.older;
}

-- after `append`: the bytes `piece` are added at the end of the file under the name, and the file is unsynced
abbrev pub after_append : List ℕ → List ℕ → TreeState → TreeState
after_append name piece v =
    with_file_changed (λ f. record { bytes = f.bytes ++ piece; synced = false }) v (v.names name)

-- after an `append` that failed: the file has the same bytes, and is unsynced
abbrev pub after_failed_append : List ℕ → TreeState → TreeState
after_failed_append name v =
    with_file_changed (λ f. record { bytes = f.bytes; synced = false }) v (v.names name)

-- after `sync`: the file under the name is synced
abbrev pub after_sync : List ℕ → TreeState → TreeState
after_sync name v = with_file_changed (λ f. record { bytes = f.bytes; synced = true }) v (v.names name)

-- the state in which the file with this number is under `to`, and no file is under `from`; unchanged if there is no
-- number
abbrev pub with_file_moved : List ℕ → List ℕ → TreeState → Option ℕ → TreeState
with_file_moved from to v None = v
with_file_moved from to v (Some n) = with_newer_name_map v (move_name v.names from to n)

-- after `rename`: the file of the name `from` is under the name `to`, in place of the file that was there
abbrev pub after_rename : List ℕ → List ℕ → TreeState → TreeState
after_rename from to v = with_file_moved from to v (v.names from)

-- the state in which nothing is under the name; unchanged if there is no number
abbrev pub with_name_removed : List ℕ → TreeState → Option ℕ → TreeState
with_name_removed name v None = v
with_name_removed name v (Some n) = with_newer_name_map v (drop_name v.names name)

-- after `remove`: the name leads to no file; the file itself stays, since an older map of names may lead to it
abbrev pub after_remove : List ℕ → TreeState → TreeState
after_remove name v = with_name_removed name v (v.names name)

-- after `sync_names`: no crash undoes a change of names that was made before
abbrev pub after_sync_names : TreeState → TreeState
after_sync_names v = record v { older = [] }

-- the state after a call that failed and changed nothing: it is the state before the call
abbrev pub unchanged_after_failed_call : TreeState → TreeState
unchanged_after_failed_call v = v

-- ---- which states allow a call; in any other state the call is a misuse

-- each state allows the call: it is never a misuse
abbrev pub IsAlwaysAllowed : TreeState → Type 0
IsAlwaysAllowed v = Unit {0}

-- the states that allow `append` and `sync`: a file is under the name
abbrev pub HasName : List ℕ → TreeState → Type 0
HasName name v = IsSome (v.names name)

-- the states that allow `read_at`: the file is present, and has at least `len` bytes from the offset `at` on
abbrev pub CanRead : List ℕ → ℕ → ℕ → TreeState → Type 0
CanRead name at len v =
    (bytes : List ℕ) × (files_of v name ≡ Some bytes) × (at + len ≤ length bytes)

-- the states that allow `create`: no file is under the name, and no file's name would become a folder of another
pub record CanCreate (name : List ℕ) (v : TreeState) : Type 0 where
  -- the name leads to no file
  pub absent : v.names name ≡ None
  -- with the new name no name is a folder of another
  pub folders : HasNoFileAsFolder (put_name v.names name v.made)

-- the states that allow `rename`: a file is under the name `from`, the names differ, and no file's name would become a
-- folder of another
pub record CanRename (from to : List ℕ) (v : TreeState) : Type 0 where
  -- the first name leads to a file
  pub present : IsSome (v.names from)
  -- the two names differ
  pub apart : from ≢ to
  -- the test does not depend on the file, so 0 serves as its number
  pub folders : HasNoFileAsFolder (put_name (drop_name v.names from) to 0)

-- ---- the maps of names

-- the map of names as read, or one of the older maps since the names were last synced
abbrev pub IsCurrentOrOlderMap : TreeState → NameMap → Type 0
IsCurrentOrOlderMap v map = IsIn map (v.names ∷ v.older)

-- what holds of every observable state. In each map of names, current or older, finitely many names are present, each
-- is a valid name, none is a folder of another, and each leads to a file that was made. Each file has fewer than 2 ^ 64
-- bytes
pub record IsWellFormed (v : TreeState) : Type 0 where
  -- in each map finitely many names are present
  pub finite : (map : NameMap) → IsCurrentOrOlderMap v map → (names : List (List ℕ))
      × HasOnlyNamesAmong names map
  -- each present name is a valid name
  pub named : (map : NameMap) → IsCurrentOrOlderMap v map → AreNames map
  -- no present name is a folder of another
  pub folders : (map : NameMap) → IsCurrentOrOlderMap v map → HasNoFileAsFolder map
  -- each present name leads to the number of a file that was made
  pub made : (map : NameMap) → IsCurrentOrOlderMap v map → (q : List ℕ) (n : ℕ) → map q ≡ Some n
      → n < v.made
  -- each file has fewer than 2 ^ 64 bytes
  pub bytes : (n : ℕ) → AreFileBytes (v.files n).bytes
