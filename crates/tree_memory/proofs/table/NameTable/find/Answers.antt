use Rattle.std.proofs.Common.{Some, sym, ap, ◌∙◌}
use Rattle.tree_memory.specs.declared.table.NameAndFile.{NameAndFile}
use Rattle.tree_memory.proofs.Placed.{lookup_named, lookup_placed}
use Rattle.tree_memory.proofs.table.NameTable.find.Goals as goal

pub returns-in-Ok : goal.returns-in-Ok
returns-in-Ok c =
    ap (λ (e : NameAndFile). Some e.file) c.index.ensures
    ∙ sym (lookup_named c.args.self.now.entries.items c.in-Ok.i c.args.name.now c.index.result.now c.args.self.now.rising c.in-Ok.ensures.found)

pub returns-in-Err : goal.returns-in-Err
returns-in-Err c = sym (lookup_placed c.args.self.now.entries.items c.in-Err.field-0 c.args.name.now c.in-Err.ensures.absent)
