use Rattle.std.proofs.Common.{ℕ, ◌+◌, length, Ok}
use Rattle.base_core.specs.Read.{OnlyReads}
use Rattle.change_inputs.specs.Inputs.{first_index_read_number}
use Rattle.change_inputs.specs.declared.root.Refused.{Refused}
use Rattle.change_inputs.specs.declared.root.Refused.TheVariants.{Disk}
use Rattle.db_core.specs.Seen.{packages_of}
use Rattle.package_changes.specs.Seen.{placed_names_seen}
use Rattle.change_outcome.proofs.ArrivalSteps.{IsReadTo}
use Rattle.change_outcome.proofs.arrivals.read_arrivals.Given as goal

abbrev pub invariant-loop-i : goal.invariant-loop-i
invariant-loop-i g l = record {
  so_far : IsReadTo (packages_of l.db) l.pool l.repositories l.no_scripts (g.T.Tree.history l.initial.tree) (first_index_read_number + length l.repositories) (placed_names_seen l.names) l.i l.members.items;
  tree : OnlyReads {A = ℕ} {E = Refused} Disk (g.T.Tree.history l.initial.tree) (g.T.Tree.history l.tree) (g.T.Tree.counts l.initial.tree) (g.T.Tree.counts l.tree) (Ok 0);
}
