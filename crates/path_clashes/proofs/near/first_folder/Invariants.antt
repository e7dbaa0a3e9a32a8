use Rattle.std.proofs.Common.{◌≤◌, ℕ, Ok, None, Option, List}
use Rattle.base_core.specs.Calls.{IfObservable}
use Rattle.base_core.specs.Read.{OnlyReads}
use Rattle.base_core.specs.Tree.{files_of}
use Rattle.base_core.specs.declared.tree.TreeFault.{TreeFault}
use Rattle.base_core.specs.declared.tree.TreeFault.TheVariants.{Disk}
use Rattle.path_clashes.specs.WrittenPaths.{name_change_of_paths}
use Rattle.path_clashes.specs.NearName.{files_with_only_name}
use Rattle.path_clashes.proofs.Above.{IsNoneUpto}
use Rattle.path_clashes.proofs.near.first_folder.Given as goal

abbrev pub invariant-loop-i : goal.invariant-loop-i
invariant-loop-i g l = record {
  long : l.len ≤ l.i;
  may : IsNoneUpto (name_change_of_paths l.written (g.G.IsReleased.does_release l.let_go)) (files_with_only_name None) l.name l.len l.i;
  none : IfObservable (g.T.Tree.history l.initial.tree) (λ v. IsNoneUpto (name_change_of_paths l.written (g.G.IsReleased.does_release l.let_go)) (files_of v) l.name l.len l.i);
  tree : OnlyReads {A = Option (List ℕ)} {E = TreeFault} Disk (g.T.Tree.history l.initial.tree) (g.T.Tree.history l.tree) (g.T.Tree.counts l.initial.tree) (g.T.Tree.counts l.tree) (Ok None);
}
