use Rattle.command_core.specs.declared.values.TheConstants.{SCRIPT}
use Rattle.std.proofs.Common.{take, ℕ, Ok}
use Rattle.base_core.specs.Read.{OnlyReads}
use Rattle.package_files.specs.make_info.declared.fault.MakeFault.{MakeFault}
use Rattle.package_files.specs.make_info.declared.fault.MakeFault.TheVariants.{Disk}
use Rattle.make_core.specs.Scripts.{AreScripts}
use Rattle.package_files.specs.Sources.{values_of_letter, script_at}
use Rattle.make_core.proofs.MadeRuns.{one_read}
use Rattle.package_files.proofs.ReadLemmas.{IsSoFar}
use Rattle.make_core.proofs.packages.reading.read_scripts.Given as goal

abbrev pub invariant-loop-i : goal.invariant-loop-i
invariant-loop-i g l = record {
  tree : OnlyReads {A = ℕ} {E = MakeFault} Disk (g.T.Tree.history l.initial.tree) (g.T.Tree.history l.tree) (g.T.Tree.counts l.initial.tree) (g.T.Tree.counts l.tree) (Ok 0);
  so_far : IsSoFar (g.T.Tree.history l.initial.tree) one_read script_at (values_of_letter SCRIPT (take l.i l.values)) (AreScripts l.scripts);
}
