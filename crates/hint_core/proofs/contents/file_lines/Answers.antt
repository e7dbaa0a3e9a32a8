use Rattle.std.proofs.Common.{List, ℕ, subst}
use Rattle.std.specs.Prelude.{IfOk, Vec}
use Rattle.std.specs.declared.alloc.Global.{Global}
use Rattle.base_core.specs.declared.tree.TreeFault.TheVariants as Trees
use Rattle.pkg_core.specs.declared.front.FrontFault.TheVariants as Fronts
use Rattle.hint_core.specs.Contents.{AreLinesOfRead}
use Rattle.hint_core.proofs.Mixed.{file_explained}
use Rattle.hint_core.proofs.Steps.{read_on}
use Rattle.hint_core.proofs.contents.file_lines.Goals as goal

pub returns-clause-lines : goal.returns-clause-lines
returns-clause-lines g c =
    file_explained _ c.a_front_and_its_values_are_tested_as_a_whole_package.ensures.front c.a_front_and_its_values_are_tested_as_a_whole_package.ensures.values c.a_front_holds_the_payload_of_its_file.ensures
    (g.T.Tree.history c.args.tree.now) c.args.name.now c.args.mixed.now c.read_front-read.result c.lines_of_read.result c.read_front-read.ensures.front
    (subst (λ (name : List ℕ). IfOk c.lines_of_read.result (λ (lines : Vec ℕ Global). AreLinesOfRead name c.args.mixed.now c.read_front-read.result lines.items)) c.as_bytes.ensures.value c.lines_of_read.ensures.lines)

pub returns-clause-tree : goal.returns-clause-tree
returns-clause-tree g c =
    read_on Fronts.Disk Trees.Disk _ _ _ _ _ _ c.lines_of_read.ensures.to c.lines_of_read.ensures.from c.read_front-read.ensures.tree
