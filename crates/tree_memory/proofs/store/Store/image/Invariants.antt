use Rattle.tree_memory.specs.Stores.{store_state}
use Rattle.tree_memory.proofs.Imaging.{IsSoFar}
use Rattle.tree_memory.proofs.store.Store.image.Given as goal

-- the image has the names so far
abbrev pub invariant-loop-entry : goal.invariant-loop-entry
invariant-loop-entry l = IsSoFar (store_state l.self) l.way l.entry-items l.entry-index (store_state l.image)
