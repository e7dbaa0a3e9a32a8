use Rattle.tree_memory.specs.Changes.{contents_of}
use Rattle.tree_memory.proofs.Picking.{IsMapCount}
use Rattle.tree_memory.proofs.store.Store.maps.Given as goal

-- the maps that the changes so far give
abbrev pub invariant-loop-change : goal.invariant-loop-change
invariant-loop-change l = IsMapCount (contents_of l.self.files.items) l.self.changes.items l.change-index l.maps
