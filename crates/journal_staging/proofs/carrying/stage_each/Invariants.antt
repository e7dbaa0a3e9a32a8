use Rattle.std.proofs.Common.{◌≡◌}
use Rattle.base_core.specs.Faults.{CountsOnlyRise, CountsNoNewFaultOrLackOfMemory}
use Rattle.journal_staging.proofs.Each.{AreListedOn, AreProperOn, AreStagedOn}
use Rattle.journal_staging.proofs.carrying.stage_each.Given as goal

abbrev pub invariant-loop-write : goal.invariant-loop-write
invariant-loop-write g l = record {
  view : l.stage ≡ record l.fn.stage { staged = l.write-index };
  staged : AreStagedOn l.fn.stage l.stage l.writes l.write-index (g.T.Tree.history l.fn.tree) (g.T.Tree.history l.tree);
  listed : AreListedOn l.fn.stage l.stage l.writes l.write-index (g.T.Tree.history l.fn.tree) (g.T.Tree.history l.tree);
  goes_on : CountsOnlyRise (g.T.Tree.counts l.fn.tree) (g.T.Tree.counts l.tree);
  kept : CountsNoNewFaultOrLackOfMemory (g.T.Tree.counts l.fn.tree) (g.T.Tree.counts l.tree);
  proper : AreProperOn l.fn.stage l.writes (g.T.Tree.history l.fn.tree) (g.T.Tree.counts l.fn.tree).misuses (g.T.Tree.counts l.tree).misuses;
}
