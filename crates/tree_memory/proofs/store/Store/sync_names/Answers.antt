use Rattle.std.proofs.Common.{ap, ◌∙◌, ◌++◌, ◌∷◌, [], List}
use Rattle.tree_memory.specs.declared.store.Change.{Change}
use Rattle.tree_memory.specs.declared.store.Change.TheVariants.{SyncNames}
use Rattle.tree_memory.proofs.Changed.{store_sync_names, history_sync_names}
use Rattle.tree_memory.proofs.store.Store.sync_names.Goals as goal

pub invariant_of-self-2 : goal.invariant_of-self-2
invariant_of-self-2 c =
    record { in_step = store_sync_names c.args.self.now.changes.items c.add.new.list.items c.args.self.now.names.entries.items c.args.self.now.names.entries.items c.args.self.now.files.items c.args.self.now.in_step (c.add.ensures ∙ ap (λ (l : List Change). l ++ SyncNames ∷ []) c.in_ok-reserve.ensures.items) }

pub returns-clause-ok : goal.returns-clause-ok
returns-clause-ok c =
    history_sync_names c.args.self.now.changes.items c.add.new.list.items c.args.self.now.names.entries.items c.args.self.now.names.entries.items c.args.self.now.files.items c.args.self.now.in_step (c.add.ensures ∙ ap (λ (l : List Change). l ++ SyncNames ∷ []) c.in_ok-reserve.ensures.items)
