-- The states of a store (`Store` of `src/store.rt`): the newest one, and all states so far.
-- `docs/crash-safety.md`, "Moments", says what a history is.
use Rattle.std.specs.Prelude.{List, [], ◌∷◌}
use Rattle.base_core.specs.Tree.{TreeState}
use Rattle.tree_memory.specs.Changes.{empty_state, contents_of, state_after_changes, earlier_states}
use Rattle.tree_memory.specs.declared.store.Store.{Store}

-- the newest state of a store: the state after all changes of its record
abbrev pub store_state : Store → TreeState
store_state store = state_after_changes (contents_of store.files.items) empty_state store.changes.items

-- the states of a store so far, the newest first
abbrev pub store_history : Store → List TreeState
store_history store =
    store_state store ∷ earlier_states (contents_of store.files.items) empty_state [] store.changes.items
