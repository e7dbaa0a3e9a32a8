-- What was read so far, that the tree stays, and that the piece keeps its length.
use Rattle.std.proofs.Common.{◌≡◌, ℕ, ◌-◌, ◌≤◌, Ok, length}
use Rattle.base_core.specs.Read.{OnlyReads}
use Rattle.base_core.specs.declared.tree.Disk.{Disk}
use Rattle.file_guard.proofs.Fronts.{HasRead}
use Rattle.file_guard.proofs.compare.compare_present.Given as goal

abbrev pub invariant-loop-at : goal.invariant-loop-at
invariant-loop-at g l = record {
  within : l.at ≤ l.size;
  whole : length l.piece ≡ 65536;
  tree : OnlyReads {A = ℕ} {E = Disk} (record {}) (g.T.Tree.history l.initial.tree) (g.T.Tree.history l.tree) (g.T.Tree.counts l.initial.tree) (g.T.Tree.counts l.tree) (Ok 0);
  has_read : HasRead (g.T.Tree.history l.initial.tree) l.name l.for_new l.for_old l.fn.new l.fn.old l.at;
}

abbrev pub decreases-loop-at : goal.decreases-loop-at
decreases-loop-at g l = l.size - l.at
