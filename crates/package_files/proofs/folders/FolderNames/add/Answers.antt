use Rattle.std.proofs.Common.{◌≡◌, ◌∙◌, sym, ap, subst, List, ℕ, map, Bor}
use Rattle.std.specs.Ordering.{nat_cmp}
use Rattle.std.specs.Cmp.Lexicographic.{slice_cmp}
use Rattle.std.specs.List.Sorted.{IsStrictlySortedBy}
use Rattle.package_files.specs.Folders.{with_folder_inserted}
use Rattle.package_files.proofs.FolderLemmas.{found_in, inserted_in, placed_sorted}
use Rattle.package_files.proofs.folders.FolderNames.add.Goals as goal

abbrev named : List (Bor (List ℕ)) → List (List ℕ)
named xs = map (λ name. name.now) xs

pub returns-in_default : goal.returns-in_default
returns-in_default c =
    sym c.self.view_is
    ∙ found_in _ _ c.args.folder _ c.deref.ensures.value c.in_default.ensures.bound c.self.invariant c.in_default.ensures.ok
    ∙ ap (with_folder_inserted c.args.folder.now) c.self.view_is

pub invariant_of-self-2 : goal.invariant_of-self-2
invariant_of-self-2 c =
    let e : named c.insert.new.self.items ≡ with_folder_inserted c.args.folder.now (named c.self.inside.names.items) =
    ap named c.in_ok-insert.ensures.items
    ∙ inserted_in _ _ c.args.folder _ c.deref.ensures.value c.in-Err.ensures.bound c.self.invariant c.in-Err.ensures.position in
    subst (IsStrictlySortedBy (slice_cmp nat_cmp)) (sym e) (placed_sorted _ _ c.self.invariant)

pub returns : goal.returns
returns c =
    ap named c.in_ok-insert.ensures.items
    ∙ inserted_in _ _ c.args.folder _ c.deref.ensures.value c.in-Err.ensures.bound c.self.invariant c.in-Err.ensures.position
    ∙ ap (with_folder_inserted c.args.folder.now) c.self.view_is
