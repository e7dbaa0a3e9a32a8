use Rattle.base_core.specs.declared.tree.TreeFault.TheVariants as Trees
use Rattle.change_inputs.specs.declared.root.Refused.TheVariants as Refuseds
use Rattle.hint_core.proofs.Steps.{read_on}
use Rattle.unmet_world.proofs.Explaining.{of_read}
use Rattle.unmet_world.proofs.explain.explanation_of_change.Goals as goal

pub returns-clause-text : goal.returns-clause-text
returns-clause-text g c =
    of_read c.args.command.now (g.T.Tree.history c.args.tree.now) _ c.explanation_of_read.result c.read-read.ensures.found c.explanation_of_read.ensures.text

pub returns-clause-tree : goal.returns-clause-tree
returns-clause-tree g c =
    read_on Refuseds.Disk Trees.Disk _ _ _ _ _ _ c.explanation_of_read.ensures.to c.explanation_of_read.ensures.from c.read-read.ensures.tree
