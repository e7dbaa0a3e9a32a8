use Rattle.base_core.specs.declared.tree.TreeFault.TheVariants.{Disk}
use Rattle.base_core.proofs.Counting.{readings_two}
use Rattle.base_core.proofs.ReadAfter.{reading_off}
use Rattle.hint_core.proofs.PackageSteps.{package_explained}
use Rattle.hint_core.proofs.ReadSteps.{no_value, out_of_memory_first}
use Rattle.hint_core.proofs.package_file.lines_of_package.Goals as goal

pub returns-in_err-file-clause-lines : goal.returns-in_err-file-clause-lines
returns-in_err-file-clause-lines g c = no_value _ _ c.from_residual.result c.from_residual.ensures.1

pub returns-in_err-file-clause-tree : goal.returns-in_err-file-clause-tree
returns-in_err-file-clause-tree g c = out_of_memory_first _ _ c.from_residual.result c.from_residual.ensures.1

pub returns-in_err-found-clause-lines : goal.returns-in_err-found-clause-lines
returns-in_err-found-clause-lines g c = no_value _ _ c.from_residual-in_err-found.result c.from_residual-in_err-found.ensures.1

pub returns-in_err-found-clause-tree : goal.returns-in_err-found-clause-tree
returns-in_err-found-clause-tree g c = reading_off Disk _ _ _ _ _ c.from_residual-in_err-found.result c.from_residual-in_err-found.ensures.1 c.in_err-found.ensures.tree

pub returns-clause-lines : goal.returns-clause-lines
returns-clause-lines g c =
    package_explained c.args.name.now c.args.version.now c.args.refusal.now _ _ _ _ _ c.lines_by_text.result c.in_ok-found.ensures.tree.same c.text_of_found.ensures c.in_ok-file.ensures c.in_ok-found.ensures.answer c.lines_by_text.ensures.lines

pub returns-clause-tree : goal.returns-clause-tree
returns-clause-tree g c = readings_two Disk _ _ _ _ _ _ _ c.lines_by_text.result c.in_ok-found.ensures.tree c.lines_by_text.ensures.tree
