use Rattle.std.proofs.Common.{◌≡◌, false, ℕ, ◌<◌, get_or, take, IsSome}
use Rattle.std.specs.Str.{bytes_eq}
use Rattle.tree_memory.specs.Table.{lookup}
use Rattle.tree_memory.proofs.table.NameTable.has_folder_of.Given as goal

-- no slash so far ends a folder of the table, but the one left out
abbrev pub invariant-loop-i : goal.invariant-loop-i
invariant-loop-i l = (k : ℕ) → k < l.i → get_or l.name k 0 ≡ 47 → IsSome (lookup l.self.entries.items (take k l.name)) → bytes_eq (take k l.name) l.but ≡ false → ⊥
