use Rattle.std.proofs.Common.{◌≡◌, ℕ, length, Ok}
use Rattle.base_core.specs.Read.{OnlyReads}
use Rattle.change_inputs.specs.IndexFiles.{bytes_of_each}
use Rattle.change_inputs.specs.declared.root.Refused.{Refused}
use Rattle.change_inputs.specs.declared.root.Refused.TheVariants.{Disk}
use Rattle.change_inputs.proofs.IndexSteps.{IsReadTo}
use Rattle.change_inputs.proofs.index.read_index_files.Given as goal

abbrev pub invariant-loop-i : goal.invariant-loop-i
invariant-loop-i g l = record {
  so_far : IsReadTo (g.T.Tree.history l.initial.tree) l.repositories l.i (bytes_of_each l.files.items);
  count : length l.files.items ≡ l.i;
  tree : OnlyReads {A = ℕ} {E = Refused} Disk (g.T.Tree.history l.initial.tree) (g.T.Tree.history l.tree) (g.T.Tree.counts l.initial.tree) (g.T.Tree.counts l.tree) (Ok 0);
}
