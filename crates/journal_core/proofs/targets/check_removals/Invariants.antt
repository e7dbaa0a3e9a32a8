use Rattle.std.proofs.Common.{◌≡◌, ◌<◌, ◌+◌, ℕ, List, Ok, Some, None, slice_get}
use Rattle.base_core.specs.Read.{OnlyReads}
use Rattle.base_core.specs.declared.tree.Disk.{Disk}
use Rattle.journal_core.proofs.targets.check_removals.Given as goal

abbrev pub invariant-loop-i : goal.invariant-loop-i
invariant-loop-i g l = record {
  reads : OnlyReads {A = ℕ} {E = Disk} (record {}) (g.T.Tree.history l.fn.tree) (g.T.Tree.history l.tree) (g.T.Tree.counts l.fn.tree) (g.T.Tree.counts l.tree) (Ok 0);
  accepted : (j : ℕ) (name : List ℕ) → j < l.i → slice_get l.fn.stage.intent.removals j ≡ Some name → g.T.Tree.accepts None name;
}
