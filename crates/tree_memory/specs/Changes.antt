-- The record of a tree's changes since it was empty, and the states to which these changes lead.
-- `docs/crash-safety.md`, "What each call does", says what each call does to a state. The
-- proofs of `src/store.rt` use these definitions, and the contract of `put` uses *after_put*.
use Rattle.std.specs.Prelude.{ℕ, ◌+◌, Bool, true, false, ◌&&◌, is_some, nat_lt, nat_le, List, [], ◌∷◌, map, length, slice_index_or, take, Some}
use Rattle.base_core.specs.Files.{no_names, put_name}
use Rattle.base_core.specs.Tree.{TreeState, File, set_file, with_file_changed, after_create, after_rename, after_remove, after_sync_names}
use Rattle.tree_memory.specs.declared.store.Change.{Change}
use Rattle.tree_memory.specs.declared.store.Change.TheVariants.{Put, Create, Append, Sync, Rename, Remove, SyncNames, Stay}
use Rattle.tree_memory.specs.declared.store.Stored.{Stored}

-- the file that a state has under each number for which no file was made: no bytes, not synced
abbrev pub no_file : File
no_file = record { bytes = []; synced = false }

-- the state of an empty tree
abbrev pub empty_state : TreeState
empty_state = record { files = λ n. no_file; made = 0; names = no_names; older = [] }

-- the state after a put: a new synced file with these bytes is under the name, even if the name led to another file,
-- and the names are synced
abbrev pub after_put : List ℕ → List ℕ → TreeState → TreeState
after_put name bytes v = record {
  files = set_file v.files v.made (record { bytes = bytes; synced = true });
  made = v.made + 1;
  names = put_name v.names name v.made;
  older = [];
}

-- the current bytes of the files by their numbers
abbrev pub contents_of : List Stored → List (List ℕ)
contents_of files = map (λ file. file.bytes.items) files

-- for each file, by its number, whether it is synced
abbrev pub synced_flags : List Stored → List Bool
synced_flags files = map (λ file. file.synced) files

-- The first `len` bytes of the file with the number `file`, given the current bytes of all files. A file only grows at
-- its end, so its bytes after an earlier change are a prefix of its current bytes.
abbrev pub first_bytes_of_file : List (List ℕ) → ℕ → ℕ → List ℕ
first_bytes_of_file contents file len = take len (slice_index_or contents file [])

-- the state after a recorded change, given the current bytes of all files and the state before. `Stay` leaves the state
-- as it is, and counts as one more state
abbrev pub step : List (List ℕ) → Change → TreeState → TreeState
step contents (Put name file len) v = after_put name (first_bytes_of_file contents file len) v
step contents (Create name) v = after_create name v
step contents (Append file len) v =
    with_file_changed (λ f. record { bytes = first_bytes_of_file contents file len; synced = false }) v
    (Some file)
step contents (Sync file) v =
    with_file_changed (λ f. record { bytes = f.bytes; synced = true }) v (Some file)
step contents (Rename from to) v = after_rename from to v
step contents (Remove name) v = after_remove name v
step contents SyncNames v = after_sync_names v
step contents Stay v = v

-- the state to which the changes of a record lead from the state `v`, given the current bytes of all files
abbrev pub state_after_changes : List (List ℕ) → TreeState → List Change → TreeState
state_after_changes contents v [] = v
state_after_changes contents v (c ∷ cs) = state_after_changes contents (step contents c v) cs

-- all states before the one to which a record leads from the state `v`, the newest first: those that the record
-- passes, then `v`, then the states `earlier` that were before `v`
abbrev pub earlier_states : List (List ℕ) → TreeState → List TreeState → List Change → List TreeState
earlier_states contents v earlier [] = earlier
earlier_states contents v earlier (c ∷ cs) = earlier_states contents (step contents c v) (v ∷ earlier) cs

-- ---- which changes may be recorded

-- whether a file with the number `file` was made and has at least `len` bytes. A recorded change has only a length:
-- the bytes are the first bytes of the file
abbrev pub is_stored_prefix : List (List ℕ) → ℕ → ℕ → Bool
is_stored_prefix contents file len =
    nat_lt file (length contents) && nat_le len (length (slice_index_or contents file []))

-- whether a change may be recorded at the state `v`: the file has the bytes that the change needs, and a name that is
-- renamed or removed is present
abbrev pub can_record_change : List (List ℕ) → Change → TreeState → Bool
can_record_change contents (Put name file len) v = is_stored_prefix contents file len
can_record_change contents (Create name) v = true
can_record_change contents (Append file len) v = is_stored_prefix contents file len
can_record_change contents (Sync file) v = true
can_record_change contents (Rename from to) v = is_some (v.names from)
can_record_change contents (Remove name) v = is_some (v.names name)
can_record_change contents SyncNames v = true
can_record_change contents Stay v = true

-- whether each change of a list may be recorded at the state to which the changes before it lead from `v`
abbrev pub can_record_changes : List (List ℕ) → TreeState → List Change → Bool
can_record_changes contents v [] = true
can_record_changes contents v (c ∷ cs) =
    can_record_change contents c v && can_record_changes contents (step contents c v) cs
