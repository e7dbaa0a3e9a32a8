use Rattle.std.proofs.Common.{List, ℕ, inl, refl, sym, subst}
use Rattle.tree_memory.specs.Table.{MakesNoFolderOfAnother}
use Rattle.tree_memory.specs.Stores.{store_state}
use Rattle.tree_memory.proofs.Folders.{fits_put, put_fits}
use Rattle.tree_memory.proofs.Keeping.{store_sound}
use Rattle.tree_memory.proofs.store.Store.can_put.Goals as goal

pub returns : goal.returns
returns c =
    let v = store_state c.args.self.now in
    let es = c.args.self.now.names.entries.items in
    let there = λ (fit : MakesNoFolderOfAnother es c.as_bytes.result.now c.as_bytes-2.result.now). subst (λ (but : List ℕ). MakesNoFolderOfAnother es c.args.name.now but) c.as_bytes-2.ensures.value (subst (λ (name : List ℕ). MakesNoFolderOfAnother es name c.as_bytes-2.result.now) c.as_bytes.ensures.value fit) in
    let back = λ (fit : MakesNoFolderOfAnother es c.args.name.now c.args.name.now). subst (λ (but : List ℕ). MakesNoFolderOfAnother es c.as_bytes.result.now but) (sym c.as_bytes-2.ensures.value) (subst (λ (name : List ℕ). MakesNoFolderOfAnother es name c.args.name.now) (sym c.as_bytes.ensures.value) fit) in (
      λ t. record { folders = fits_put v.names es c.args.self.now.in_step.kept.names c.args.name.now v.made ((store_sound c.args.self.now.changes.items es c.args.self.now.files.items c.args.self.now.in_step).folders v.names (inl refl)) (there (c.fits.ensures.0 t)) },
      λ can. c.fits.ensures.1 (back (put_fits v.names es c.args.self.now.in_step.kept.names c.args.name.now v.made can.folders)),
    )
