-- The file that was found is the one whose bytes were read.
use Rattle.std.proofs.Common.{◌≡◌, List, Some, ap, subst}
use Rattle.base_core.specs.Calls.{IfObservable}
use Rattle.base_core.specs.Tree.{TreeState, files_of}
use Rattle.file_guard.specs.declared.compare.Comparison.{Comparison}
use Rattle.file_guard.proofs.compare.compare_file_in.Goals as goal

pub returns-clause-found : goal.returns-clause-found
returns-clause-found g c =
    let found = c.in_ok-comparison.ensures.found in (
      Some found.0,
      subst (λ (history : List TreeState). IfObservable history (λ v. Some found.0 ≡ files_of v c.args.name.now)) c.in_ok-size.ensures.same found.1,
      ap (λ (comparison : Comparison). Some comparison) found.2,
    )
