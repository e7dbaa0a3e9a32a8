use Rattle.tree_memory.proofs.Folders.{IsListing}
use Rattle.tree_memory.proofs.table.NameTable.list_below.Given as goal

-- the names so far
abbrev pub invariant-loop-i : goal.invariant-loop-i
invariant-loop-i l = IsListing l.self.entries.items l.start l.i l.folder l.names
