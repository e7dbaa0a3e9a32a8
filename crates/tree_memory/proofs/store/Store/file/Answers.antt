use Rattle.std.proofs.Common.{Some, sym, ap, ◌∙◌, arith}
use Rattle.tree_memory.specs.Table.{lookup}
use Rattle.tree_memory.specs.Stores.{store_state}
use Rattle.tree_memory.proofs.Keeping.{read_present, leads_within, stored_bytes}
use Rattle.tree_memory.proofs.store.Store.file.Goals as goal

pub index-requires : goal.index-requires
index-requires c =
    let found = sym (c.in-Some.ensures ∙ ap (lookup c.args.self.now.names.entries.items) c.as_bytes.ensures.value) in
    let within = leads_within c.args.self.now.changes.items c.args.self.now.names.entries.items c.args.self.now.files.items c.args.name.now c.in-Some.file c.args.self.now.in_step found in
    omega (arith, within)

pub returns-in-Some : goal.returns-in-Some
returns-in-Some c =
    let found = sym (c.in-Some.ensures ∙ ap (lookup c.args.self.now.names.entries.items) c.as_bytes.ensures.value) in
    let within = leads_within c.args.self.now.changes.items c.args.self.now.names.entries.items c.args.self.now.files.items c.args.name.now c.in-Some.file c.args.self.now.in_step found in
    let bytes = stored_bytes c.args.self.now.files.items c.in-Some.file c.index.result.now within c.index.ensures in
    ap Some (c.deref.ensures.value ∙ sym bytes)
    ∙ sym (read_present (store_state c.args.self.now) c.args.self.now.names.entries.items c.args.self.now.files.items c.args.name.now c.in-Some.file c.args.self.now.in_step.kept found)
