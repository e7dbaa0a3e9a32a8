use Rattle.std.proofs.Common.{List, ap, ◌∙◌}
use Rattle.tree_memory.specs.Table.{lookup}
use Rattle.tree_memory.specs.declared.table.NameAndFile.{NameAndFile}
use Rattle.tree_memory.proofs.Placed.{lookup-remove, lookup_placed, lookup_without}
use Rattle.tree_memory.proofs.table.NameTable.remove.Goals as goal

pub returns-in-Ok : goal.returns-in-Ok
returns-in-Ok c q =
    ap (λ (l : List NameAndFile). lookup l q) c.remove.ensures.by_index.2
    ∙ lookup-remove c.args.self.now.entries.items c.in-Ok.i c.args.name.now c.args.self.now.rising c.in-Ok.ensures.found q

pub returns-in_default : goal.returns-in_default
returns-in_default c q = lookup_without c.args.self.now.entries.items c.args.name.now q (lookup_placed c.args.self.now.entries.items c.in_default.field-0 c.args.name.now c.in_default.ensures.absent)
