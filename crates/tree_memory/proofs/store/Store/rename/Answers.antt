use Rattle.std.proofs.Common.{ℕ, List, [], ◌∷◌, ◌++◌, ap, sym, ◌∙◌, ◌≡◌, subst}
use Rattle.base_core.specs.Files.{put_name, drop_name}
use Rattle.base_core.specs.Name.{IsName}
use Rattle.tree_memory.specs.Table.{lookup}
use Rattle.tree_memory.specs.declared.store.Change.TheVariants.{Rename}
use Rattle.tree_memory.proofs.Changed.{store_rename, history_rename}
use Rattle.tree_memory.proofs.store.Store.rename.Goals as goal

pub invariant_of-self-in-Some : goal.invariant_of-self-in-Some
invariant_of-self-in-Some c =
    let es = c.args.self.now.names.entries.items in
    let found = sym (c.in-Some.ensures ∙ ap (lookup es) c.as_bytes.ensures.value) in record {
      in_step = store_rename c.args.self.now.changes.items c.add.new.list.items es c.remove.new.self.entries.items c.args.self.now.files.items c.args.self.now.in_step c.args.from.now c.args.to.now c.in-Some.file found
          (c.add.ensures ∙ (λ i. c.in_ok-reserve.ensures.items i ++ Rename (c.in_ok-recorded_from.ensures i) (c.in_ok-recorded_to.ensures i) ∷ [])) (let same : c.recorded_to.inside.bytes.items ≡ c.args.to.now = cc (c.recorded_to.view_is, c.in_ok-recorded_to.ensures) in subst IsName same c.recorded_to.invariant) c.requires c.set.new.self.entries.items
          (λ q. c.in_ok-set.ensures.ok q ∙ ap (λ (n : List ℕ). put_name (lookup es) n c.in-Some.file q) c.in_ok-named.ensures)
          (λ q. c.remove.ensures q ∙ ap (λ (n : List ℕ). drop_name (lookup c.set.new.self.entries.items) n q) c.as_bytes-in-Some.ensures.value);
    }

pub returns-in_ok-set-clause-ok : goal.returns-in_ok-set-clause-ok
returns-in_ok-set-clause-ok c =
    let es = c.args.self.now.names.entries.items in
    let found = sym (c.in-Some.ensures ∙ ap (lookup es) c.as_bytes.ensures.value) in
    history_rename c.args.self.now.changes.items c.add.new.list.items es c.remove.new.self.entries.items c.args.self.now.files.items c.args.self.now.in_step c.args.from.now c.args.to.now c.in-Some.file found
    (c.add.ensures ∙ (λ i. c.in_ok-reserve.ensures.items i ++ Rename (c.in_ok-recorded_from.ensures i) (c.in_ok-recorded_to.ensures i) ∷ []))
