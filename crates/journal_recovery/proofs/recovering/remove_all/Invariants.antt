use Rattle.std.proofs.Common.{◌≡◌, [], take}
use Rattle.base_core.specs.Calls.{IfObservable}
use Rattle.base_core.specs.Crash.{Since}
use Rattle.base_core.specs.Faults.{CountsOnlyRise, CountsNoNewFaultOrLackOfMemory}
use Rattle.journal_core.proofs.Emptied.{Cleared, Gone, Shown}
use Rattle.journal_core.specs.Kept.{JournalOnlyShrinks}
use Rattle.journal_core.proofs.Lasting.{Stays}
use Rattle.journal_core.proofs.Leaving.{Lasting}
use Rattle.journal_recovery.proofs.recovering.remove_all.Given as goal

abbrev pub invariant-loop-i : goal.invariant-loop-i
invariant-loop-i g l =
    Cleared l.names (g.T.Tree.history l.fn.tree) (g.T.Tree.history l.tree)
    × Gone (take l.i l.names) (g.T.Tree.history l.fn.tree) (g.T.Tree.history l.tree)
    × CountsOnlyRise (g.T.Tree.counts l.fn.tree) (g.T.Tree.counts l.tree)
    × CountsNoNewFaultOrLackOfMemory (g.T.Tree.counts l.fn.tree) (g.T.Tree.counts l.tree)
    × IfObservable (g.T.Tree.history l.fn.tree) (λ v. (g.T.Tree.counts l.tree).misuses ≡ (g.T.Tree.counts l.fn.tree).misuses)
    × Stays (g.T.Tree.history l.fn.tree) (g.T.Tree.history l.tree)
    × Shown l.names (g.T.Tree.history l.fn.tree) (g.T.Tree.history l.tree)
    × IfObservable (g.T.Tree.history l.fn.tree) (λ v. Since (JournalOnlyShrinks v) (g.T.Tree.history l.fn.tree) (g.T.Tree.history l.tree))
    × Lasting l.names (g.T.Tree.history l.fn.tree) (g.T.Tree.history l.tree)
    × (l.names ≡ [] → g.T.Tree.history l.tree ≡ g.T.Tree.history l.fn.tree)
