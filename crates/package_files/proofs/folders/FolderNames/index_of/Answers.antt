use Rattle.std.proofs.Common.{sym, subst, ℕ, List, Option}
use Rattle.std.specs.Result.{result_ok}
use Rattle.package_files.specs.BorrowedNames.{IsIndexOf}
use Rattle.package_files.proofs.PlaceLemmas.{place_in}
use Rattle.package_files.proofs.folders.FolderNames.index_of.Goals as goal

pub returns : goal.returns
returns c =
    let P : Option ℕ → Type 0 = λ o. IsIndexOf c.args.folder.now c.args.self.now o in
    let Q : List (List ℕ) → Type 0 = λ names. IsIndexOf c.args.folder.now names (result_ok c.binary_search.result) in
    subst P (sym c.ok.ensures.value)
    (subst Q c.self.view_is (place_in _ _ c.args.folder _ c.deref.ensures.value c.self.invariant c.binary_search.ensures.bound c.binary_search.ensures.position))
