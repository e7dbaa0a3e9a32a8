-- The lines of the repositories so far are behind the line on a list without repositories; the tree was only read.
use Rattle.std.proofs.Common.{ℕ, Ok}
use Rattle.base_core.specs.Read.{OnlyReads}
use Rattle.base_core.specs.declared.tree.TreeFault.{TreeFault}
use Rattle.base_core.specs.declared.tree.TreeFault.TheVariants.{Disk}
use Rattle.hint_core.specs.Repositories.{no_index_line}
use Rattle.hint_core.proofs.PackageSteps.{ExplainsSoFar}
use Rattle.hint_core.proofs.package_file.lines_of_repositories.Given as goal

abbrev pub invariant-loop-i : goal.invariant-loop-i
invariant-loop-i g l = record {
  so_far : ExplainsSoFar l.name l.version l.refusal (g.T.Tree.history l.initial.tree) l.repositories l.i (no_index_line l.repositories) l.lines.items;
  tree : OnlyReads {A = ℕ} {E = TreeFault} Disk (g.T.Tree.history l.initial.tree) (g.T.Tree.history l.tree) (g.T.Tree.counts l.initial.tree) (g.T.Tree.counts l.tree) (Ok 0);
}
