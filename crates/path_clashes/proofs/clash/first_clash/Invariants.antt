use Rattle.std.proofs.Common.{◌≡◌, Ok, None, Option, map}
use Rattle.std.specs.Option.{option_map}
use Rattle.adb_fields.specs.JoinedPath.{joined_path}
use Rattle.base_core.specs.Calls.{IfObservable}
use Rattle.base_core.specs.Read.{OnlyReads}
use Rattle.base_core.specs.Tree.{files_of}
use Rattle.base_core.specs.declared.tree.TreeFault.{TreeFault}
use Rattle.base_core.specs.declared.tree.TreeFault.TheVariants.{Disk}
use Rattle.path_clashes.specs.ClashSeen.{clash_seen}
use Rattle.path_clashes.specs.WrittenPaths.{name_change_of_paths}
use Rattle.path_clashes.specs.declared.clash.Clash.{Clash}
use Rattle.path_clashes.proofs.MaySoFar.{MayBeFirstSoFar}
use Rattle.path_clashes.proofs.SoFar.{IsFirstSoFar, name_before}
use Rattle.path_clashes.proofs.clash.first_clash.Given as goal

abbrev pub invariant-loop-path : goal.invariant-loop-path
invariant-loop-path g l = record {
  before : l.before.items ≡ name_before (map joined_path l.written) l.path-index;
  first : IfObservable (g.T.Tree.history l.initial.tree)
      (λ v. IsFirstSoFar (name_change_of_paths l.written (g.G.IsReleased.does_release l.let_go)) (files_of v) (map joined_path l.written) l.path-index (option_map clash_seen l.first));
  may : MayBeFirstSoFar (name_change_of_paths l.written (g.G.IsReleased.does_release l.let_go)) (map joined_path l.written) l.path-index (option_map clash_seen l.first);
  tree : OnlyReads {A = Option Clash} {E = TreeFault} Disk (g.T.Tree.history l.initial.tree) (g.T.Tree.history l.tree) (g.T.Tree.counts l.initial.tree) (g.T.Tree.counts l.tree) (Ok None);
}
