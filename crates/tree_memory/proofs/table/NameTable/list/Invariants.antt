use Rattle.std.proofs.Common.{◌≡◌, map, take}
use Rattle.tree_memory.specs.declared.table.NameAndFile.{NameAndFile}
use Rattle.tree_memory.proofs.table.NameTable.list.Given as goal

-- the names so far
abbrev pub invariant-loop-entry : goal.invariant-loop-entry
invariant-loop-entry l = l.names ≡ map (λ (entry : NameAndFile). entry.name) (take l.entry-index l.self.entries.items)
