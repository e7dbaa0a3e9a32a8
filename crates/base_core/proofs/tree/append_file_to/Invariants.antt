-- What stands behind the other bytes so far, and that the tree stays.
use Rattle.std.proofs.Common.{ℕ, ◌-◌, ◌≤◌, Ok}
use Rattle.base_core.specs.Read.{AppendsReadBytes, OnlyReads}
use Rattle.base_core.specs.declared.tree.TreeFault.{TreeFault}
use Rattle.base_core.specs.declared.tree.TreeFault.TheVariants.{Disk as DiskFault}
use Rattle.base_core.proofs.tree.append_file_to.Given as goal

abbrev pub invariant-loop-at : goal.invariant-loop-at
invariant-loop-at g l = record {
  within : l.at ≤ l.size;
  tree : OnlyReads {A = ℕ} {E = TreeFault} DiskFault (g.T.Tree.history l.initial.tree) (g.T.Tree.history l.tree) (g.T.Tree.counts l.initial.tree) (g.T.Tree.counts l.tree) (Ok 0);
  added : AppendsReadBytes (g.T.Tree.history l.initial.tree) l.name 0 l.at l.initial.bytes.items l.bytes.items;
}

abbrev pub decreases-loop-at : goal.decreases-loop-at
decreases-loop-at g l = l.size - l.at
