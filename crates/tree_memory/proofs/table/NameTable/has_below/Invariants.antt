use Rattle.tree_memory.proofs.Folders.{IsOut}
use Rattle.tree_memory.proofs.table.NameTable.has_below.Given as goal

-- each entry so far is the one left out
abbrev pub invariant-loop-i : goal.invariant-loop-i
invariant-loop-i l = IsOut l.self.entries.items l.start l.i l.but
