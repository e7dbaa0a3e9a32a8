use Rattle.std.proofs.Common.{◌∙◌, List, inl, refl, sym, ap, subst}
use Rattle.base_core.specs.Files.{HasNoFileAsFolder}
use Rattle.tree_memory.specs.Changes.{contents_of, empty_state, state_after_changes}
use Rattle.tree_memory.specs.Stores.{store_state}
use Rattle.tree_memory.specs.declared.store.Change.{Change}
use Rattle.tree_memory.proofs.Imaging.{names_fit, names_as_read}
use Rattle.tree_memory.proofs.Keeping.{store_sound}
use Rattle.tree_memory.proofs.store.Store.image_names.Goals as goal

pub returns-then-has_no_folder : goal.returns-then-has_no_folder
returns-then-has_no_folder c =
    names_fit c.args.pick (store_state c.args.self.now) c.in_ok-picked.picked.entries.items c.in_ok-picked.ensures (c.has_no_folder.ensures.0 c.if-has_no_folder.true)

pub returns : goal.returns
returns c =
    let own = c.args.self.now in
    let v = store_state own in
    let contents = contents_of own.files.items in
    names_as_read c.args.pick v c.in_ok-names.field-0.names.entries.items
    (λ has. let t = c.has_no_folder.ensures.1 (subst HasNoFileAsFolder (λ i q. sym (c.in_ok-picked.ensures q) i) has) in cc (t, c.if-has_no_folder.false))
    (λ q. sym (ap (λ (l : List Change). (state_after_changes contents empty_state l).names q) c.deref.ensures.value) ∙ (c.in_ok-names.ensures.names contents).names q)
    ((store_sound own.changes.items own.names.entries.items own.files.items own.in_step).folders v.names (inl refl))
