use Rattle.std.proofs.Common.{◌≡◌, true, List, [], ◌∷◌, ◌++◌, length, ap, ◌∙◌, refl, rules, subst}
use Rattle.base_core.specs.Files.{put_name}
use Rattle.base_core.specs.Name.{IsName}
use Rattle.tree_memory.specs.Table.{lookup}
use Rattle.tree_memory.specs.declared.store.Change.TheVariants.{Put}
use Rattle.tree_memory.specs.declared.store.Stored.{Stored}
use Rattle.tree_memory.proofs.Keeping.{IsMore, store_put, history_put}
use Rattle.tree_memory.proofs.store.Store.put.Goals as goal

pub invariant_of-self-2 : goal.invariant_of-self-2
invariant_of-self-2 c =
    let s : Stored = record { bytes = c.args.bytes; synced = true } in
    let files = c.args.self.now.files.items in
    let es = c.args.self.now.names.entries.items in
    let n_is : c.len-file.result ≡ length files = search rules in
    let len_is : c.len-len.result ≡ length c.args.bytes.items = search rules in
    let m : IsMore c.args.name.now es c.set.new.self.entries.items files c.add.new.list.items s = record {
      named = λ q. c.in_ok-set.ensures.ok q ∙ (λ i. put_name (lookup es) (c.in_ok-named.ensures i) (n_is i) q);
      stored = c.add.ensures ∙ ap (λ (l : List Stored). l ++ s ∷ []) c.in_ok-reserve-2.ensures.items;
    } in record {
      in_step = store_put c.args.name.now c.args.self.now.changes.items c.add-2.new.list.items es c.set.new.self.entries.items files c.add.new.list.items s c.args.self.now.in_step m
          (c.add-2.ensures ∙ (λ i. c.in_ok-reserve.ensures.items i ++ Put (c.in_ok-recorded.ensures i) (n_is i) (len_is i) ∷ [])) refl (let same : c.recorded.inside.bytes.items ≡ c.args.name.now = cc (c.recorded.view_is, c.in_ok-recorded.ensures) in subst IsName same c.recorded.invariant) (record { each = search rules; few = search rules }) c.requires;
    }

pub returns-clause-ok : goal.returns-clause-ok
returns-clause-ok c =
    let s : Stored = record { bytes = c.args.bytes; synced = true } in
    let files = c.args.self.now.files.items in
    let es = c.args.self.now.names.entries.items in
    let n_is : c.len-file.result ≡ length files = search rules in
    let len_is : c.len-len.result ≡ length c.args.bytes.items = search rules in
    let m : IsMore c.args.name.now es c.set.new.self.entries.items files c.add.new.list.items s = record {
      named = λ q. c.in_ok-set.ensures.ok q ∙ (λ i. put_name (lookup es) (c.in_ok-named.ensures i) (n_is i) q);
      stored = c.add.ensures ∙ ap (λ (l : List Stored). l ++ s ∷ []) c.in_ok-reserve-2.ensures.items;
    } in
    history_put c.args.name.now c.args.self.now.changes.items c.add-2.new.list.items es c.set.new.self.entries.items files c.add.new.list.items s c.args.self.now.in_step m
    (c.add-2.ensures ∙ (λ i. c.in_ok-reserve.ensures.items i ++ Put (c.in_ok-recorded.ensures i) (n_is i) (len_is i) ∷ []))
