use Rattle.std.proofs.Common.{ℕ, Ok}
use Rattle.base_core.specs.Calls.{IfObservable}
use Rattle.base_core.specs.Read.{OnlyReads}
use Rattle.make_core.specs.Files.{reads_of}
use Rattle.make_info.specs.declared.fault.MakeFault.{MakeFault}
use Rattle.make_info.specs.declared.fault.MakeFault.TheVariants.{Disk}
use Rattle.make_core.specs.Views.{entries_view}
use Rattle.make_core.proofs.IndexReads.{IsReadTo, IsSoFar}
use Rattle.make_core.proofs.indexes.index.read_entries.Given as goal

abbrev pub invariant-loop-i : goal.invariant-loop-i
invariant-loop-i g l = record {
  told : IfObservable (g.T.Tree.history l.initial.tree) (λ v. IsSoFar (reads_of v) l.operands l.i (entries_view l.entries));
  found : IsReadTo l.operands l.i (entries_view l.entries);
  tree : OnlyReads {A = ℕ} {E = MakeFault} Disk (g.T.Tree.history l.initial.tree) (g.T.Tree.history l.tree) (g.T.Tree.counts l.initial.tree) (g.T.Tree.counts l.tree) (Ok 0);
}
