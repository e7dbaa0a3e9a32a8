use Rattle.std.proofs.Common.{Ok, None, Option}
use Rattle.base_core.specs.Calls.{IfObservable}
use Rattle.base_core.specs.Read.{OnlyReads}
use Rattle.base_core.specs.declared.tree.TreeFault.{TreeFault}
use Rattle.base_core.specs.declared.tree.TreeFault.TheVariants.{Disk}
use Rattle.report_core.specs.declared.refusal.Refusal.{Refusal}
use Rattle.apk_front.proofs.Operands.{IsFine, IsReadTo}
use Rattle.apk_front.proofs.verify.first_refusal.Given as goal

abbrev pub invariant-loop-i : goal.invariant-loop-i
invariant-loop-i g l = record {
  found : IfObservable (g.T.Tree.history l.initial.tree) (IsFine l.operands l.i);
  by_reads : IsReadTo l.operands l.i;
  tree : OnlyReads {A = Option Refusal} {E = TreeFault} Disk (g.T.Tree.history l.initial.tree) (g.T.Tree.history l.tree) (g.T.Tree.counts l.initial.tree) (g.T.Tree.counts l.tree) (Ok None);
}
