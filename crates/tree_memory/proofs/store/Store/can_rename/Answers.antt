use Rattle.std.proofs.Common.{List, ℕ, inl, refl, sym, subst, ◌∙◌}
use Rattle.std.specs.Str.{bytes_eq}
use Rattle.base_core.proofs.AtName.{off_name}
use Rattle.tree_memory.specs.Table.{MakesNoFolderOfAnother}
use Rattle.tree_memory.specs.Stores.{store_state}
use Rattle.tree_memory.proofs.Folders.{fits_moved, moved_fits}
use Rattle.tree_memory.proofs.Keeping.{store_sound}
use Rattle.tree_memory.proofs.store.Store.can_rename.Goals as goal

pub returns-then-not-has : goal.returns-then-not-has
returns-then-not-has c = (λ t. absurd (cc), λ can. let t = c.has.ensures.1 can.present in absurd (cc (t, c.if-not-has.true)))

pub returns : goal.returns
returns c =
    let v = store_state c.args.self.now in
    let es = c.args.self.now.names.entries.items in
    let kept = c.args.self.now.in_step.kept.names in
    let there = λ (fit : MakesNoFolderOfAnother es c.as_bytes-3.result.now c.as_bytes-4.result.now). subst (λ (but : List ℕ). MakesNoFolderOfAnother es c.args.to.now but) c.as_bytes-4.ensures.value (subst (λ (name : List ℕ). MakesNoFolderOfAnother es name c.as_bytes-4.result.now) c.as_bytes-3.ensures.value fit) in
    let back = λ (fit : MakesNoFolderOfAnother es c.args.to.now c.args.from.now). subst (λ (but : List ℕ). MakesNoFolderOfAnother es c.as_bytes-3.result.now but) (sym c.as_bytes-4.ensures.value) (subst (λ (name : List ℕ). MakesNoFolderOfAnother es name c.args.from.now) (sym c.as_bytes-3.ensures.value) fit) in
    let off = (λ i. bytes_eq (sym c.as_bytes.ensures.value i) (sym c.as_bytes-2.ensures.value i)) ∙ sym c.eq.ensures ∙ c.if-eq.false in (
      λ t. record {
        present = c.has.ensures.0 c.if-not-has.false;
        apart = off_name c.args.from.now c.args.to.now off;
        folders = fits_moved v.names es kept c.args.from.now c.args.to.now 0 ((store_sound c.args.self.now.changes.items es c.args.self.now.files.items c.args.self.now.in_step).folders v.names (inl refl)) (there (c.fits.ensures.0 t));
      },
      λ can. c.fits.ensures.1 (back (moved_fits v.names es kept c.args.from.now c.args.to.now 0 can.folders)),
    )
