use Rattle.std.proofs.Common.{true, [], ◌∷◌, ◌++◌, set, ap, sym, refl, ◌∙◌, arith}
use Rattle.tree_memory.specs.Table.{lookup}
use Rattle.tree_memory.specs.declared.store.Change.TheVariants.{Sync}
use Rattle.tree_memory.specs.declared.store.Stored.{Stored}
use Rattle.tree_memory.proofs.Keeping.{leads_within, stored_bytes}
use Rattle.tree_memory.proofs.Changed.{IsOther, store_sync, history_sync}
use Rattle.tree_memory.proofs.store.Store.sync.Goals as goal

pub index_mut-requires : goal.index_mut-requires
index_mut-requires c =
    let es = c.args.self.now.names.entries.items in
    let found = sym (c.in-Some.ensures ∙ ap (lookup es) c.as_bytes.ensures.value) in
    let within = leads_within c.args.self.now.changes.items es c.args.self.now.files.items c.args.name.now c.in-Some.file c.args.self.now.in_step found in
    omega (arith, within)

pub invariant_of-self-in-Some : goal.invariant_of-self-in-Some
invariant_of-self-in-Some c =
    let es = c.args.self.now.names.entries.items in
    let files = c.args.self.now.files.items in
    let found = sym (c.in-Some.ensures ∙ ap (lookup es) c.as_bytes.ensures.value) in
    let within = leads_within c.args.self.now.changes.items es files c.args.name.now c.in-Some.file c.args.self.now.in_step found in
    let s : Stored = record { bytes = c.index_mut.result.now.bytes; synced = true } in
    let m : IsOther c.args.name.now c.in-Some.file es files (set files c.in-Some.file s) s = record { named = found; stored = refl } in
    let same = sym (stored_bytes files c.in-Some.file c.index_mut.result.now within c.index_mut.ensures.value) in record {
      in_step = store_sync c.args.name.now c.in-Some.file c.args.self.now.changes.items c.add.new.list.items es files (set files c.in-Some.file s) s c.args.self.now.in_step m same
          (c.add.ensures ∙ (λ i. c.in_ok-reserve.ensures.items i ++ Sync c.in-Some.file ∷ [])) refl;
    }

pub returns-in_ok-reserve-clause-ok : goal.returns-in_ok-reserve-clause-ok
returns-in_ok-reserve-clause-ok c =
    let es = c.args.self.now.names.entries.items in
    let files = c.args.self.now.files.items in
    let found = sym (c.in-Some.ensures ∙ ap (lookup es) c.as_bytes.ensures.value) in
    let within = leads_within c.args.self.now.changes.items es files c.args.name.now c.in-Some.file c.args.self.now.in_step found in
    let s : Stored = record { bytes = c.index_mut.result.now.bytes; synced = true } in
    let m : IsOther c.args.name.now c.in-Some.file es files (set files c.in-Some.file s) s = record { named = found; stored = refl } in
    let same = sym (stored_bytes files c.in-Some.file c.index_mut.result.now within c.index_mut.ensures.value) in
    history_sync c.args.name.now c.in-Some.file c.args.self.now.changes.items c.add.new.list.items es files (set files c.in-Some.file s) s c.args.self.now.in_step m same
    (c.add.ensures ∙ (λ i. c.in_ok-reserve.ensures.items i ++ Sync c.in-Some.file ∷ []))
