use Rattle.tree_memory.proofs.Folders.{AreFree}
use Rattle.tree_memory.proofs.table.NameTable.has_no_folder.Given as goal

-- no name so far has a folder in the table
abbrev pub invariant-loop-entry : goal.invariant-loop-entry
invariant-loop-entry l = AreFree l.entry-items l.entry-index
