use Rattle.tree_memory.specs.Changes.{contents_of}
use Rattle.tree_memory.specs.Images.{is_change_undone}
use Rattle.tree_memory.proofs.Picking.{IsPicking}
use Rattle.tree_memory.proofs.store.Store.picked_names.Given as goal

-- the names and the picked ones behind the changes so far
abbrev pub invariant-loop-i : goal.invariant-loop-i
invariant-loop-i l = IsPicking (contents_of l.self.files.items) l.self.changes.items (is_change_undone l.changes l.pick) l.i l.names.entries.items l.picked.entries.items l.made l.maps
