use Rattle.base_core.specs.declared.tree.TreeFault.TheVariants.{Disk}
use Rattle.base_core.proofs.ReadAfter.{reading_as, reading_off}
use Rattle.hint_core.proofs.ReadSteps.{no_value, out_of_memory, out_of_memory_first}
use Rattle.hint_core.proofs.warning.tag_warnings.Goals as goal

pub returns-in_err-name-clause-lines : goal.returns-in_err-name-clause-lines
returns-in_err-name-clause-lines g c = no_value _ _ c.from_residual.result c.from_residual.ensures.1

pub returns-in_err-name-clause-tree : goal.returns-in_err-name-clause-tree
returns-in_err-name-clause-tree g c = out_of_memory_first _ _ c.from_residual.result c.from_residual.ensures.1

pub returns-in_err-found-clause-lines : goal.returns-in_err-found-clause-lines
returns-in_err-found-clause-lines g c = no_value _ _ c.from_residual-in_err-found.result c.from_residual-in_err-found.ensures.1

pub returns-in_err-found-clause-tree : goal.returns-in_err-found-clause-tree
returns-in_err-found-clause-tree g c = reading_off Disk _ _ _ _ _ c.from_residual-in_err-found.result c.from_residual-in_err-found.ensures.1 c.in_err-found.ensures.tree

pub returns-in_err-lines-clause-lines : goal.returns-in_err-lines-clause-lines
returns-in_err-lines-clause-lines g c = no_value _ _ c.from_residual-in_err-lines.result c.from_residual-in_err-lines.ensures.1

pub returns-in_err-lines-clause-tree : goal.returns-in_err-lines-clause-tree
returns-in_err-lines-clause-tree g c = out_of_memory _ _ _ _ _ c.from_residual-in_err-lines.result c.from_residual-in_err-lines.ensures.1 c.in_ok-found.ensures.tree

pub returns-clause-tree : goal.returns-clause-tree
returns-clause-tree g c = reading_as Disk _ _ _ _ _ _ c.in_ok-found.ensures.tree
