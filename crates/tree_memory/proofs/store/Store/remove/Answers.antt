use Rattle.std.proofs.Common.{ℕ, List, [], ◌∷◌, ◌++◌, ap, ◌∙◌}
use Rattle.base_core.specs.Files.{drop_name}
use Rattle.tree_memory.specs.Table.{lookup}
use Rattle.tree_memory.specs.declared.store.Change.{Change}
use Rattle.tree_memory.specs.declared.store.Change.TheVariants.{Remove, Stay}
use Rattle.tree_memory.proofs.Changed.{store_remove, history_remove, store_stay, history_stay}
use Rattle.tree_memory.proofs.store.Store.remove.Goals as goal

pub invariant_of-self-then-not-has : goal.invariant_of-self-then-not-has
invariant_of-self-then-not-has c =
    let es = c.args.self.now.names.entries.items in record {
      in_step = store_stay c.args.self.now.changes.items c.add.new.list.items es es c.args.self.now.files.items c.args.self.now.in_step (c.add.ensures ∙ ap (λ (l : List Change). l ++ Stay ∷ []) c.in_ok-reserve.ensures.items);
    }

pub returns-then-not-has-clause-ok : goal.returns-then-not-has-clause-ok
returns-then-not-has-clause-ok c =
    let es = c.args.self.now.names.entries.items in
    history_stay c.args.self.now.changes.items c.add.new.list.items es es c.args.self.now.files.items c.args.self.now.in_step c.args.name.now (c.add.ensures ∙ ap (λ (l : List Change). l ++ Stay ∷ []) c.in_ok-reserve.ensures.items)
    (λ has. let t = c.has.ensures.1 has in cc (t, c.if-not-has.true))

pub invariant_of-self-2 : goal.invariant_of-self-2
invariant_of-self-2 c =
    let es = c.args.self.now.names.entries.items in record {
      in_step = store_remove c.args.self.now.changes.items c.add-2.new.list.items es c.remove.new.self.entries.items c.args.self.now.files.items c.args.self.now.in_step c.args.name.now
          (c.add-2.ensures ∙ (λ i. c.in_ok-reserve-2.ensures.items i ++ Remove (c.in_ok-recorded.ensures i) ∷ [])) (c.has.ensures.0 c.if-not-has.false)
          (λ q. c.remove.ensures q ∙ ap (λ (n : List ℕ). drop_name (lookup es) n q) c.as_bytes.ensures.value);
    }

pub returns-clause-ok : goal.returns-clause-ok
returns-clause-ok c =
    let es = c.args.self.now.names.entries.items in
    history_remove c.args.self.now.changes.items c.add-2.new.list.items es c.remove.new.self.entries.items c.args.self.now.files.items c.args.self.now.in_step c.args.name.now
    (c.add-2.ensures ∙ (λ i. c.in_ok-reserve-2.ensures.items i ++ Remove (c.in_ok-recorded.ensures i) ∷ [])) (c.has.ensures.0 c.if-not-has.false)
