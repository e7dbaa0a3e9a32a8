use Rattle.std.proofs.Common.{◌≡◌, ◌≤◌, ◌-◌, true}
use Rattle.base_core.specs.Calls.{IfObservable}
use Rattle.base_core.specs.Crash.{Since}
use Rattle.base_core.specs.Faults.{CountsOnlyRise, CountsNoNewFaultOrLackOfMemory}
use Rattle.journal_core.specs.Kept.{KeepsIntentWhileStageShrinks}
use Rattle.journal_core.specs.Staged.{action_count}
use Rattle.journal_core.proofs.OldOrNew.{BytesOn}
use Rattle.journal_core.proofs.Rowing.{ActsOn, Proper, ReadsOn, Rowed}
use Rattle.journal_core.proofs.stage.apply_all.Given as goal

abbrev pub invariant-loop-stage : goal.invariant-loop-stage
invariant-loop-stage g l =
    (l.stage.published ≡ true)
    × (l.stage.acted ≤ action_count l.stage.intent)
    × Rowed l.fn.stage l.stage (g.T.Tree.history l.fn.tree) (g.T.Tree.history l.tree)
    × ActsOn l.fn.stage l.stage (g.T.Tree.history l.fn.tree) (g.T.Tree.history l.tree)
    × Proper l.fn.stage (g.T.Tree.history l.fn.tree) (g.T.Tree.counts l.fn.tree).misuses (g.T.Tree.counts l.tree).misuses
    × CountsOnlyRise (g.T.Tree.counts l.fn.tree) (g.T.Tree.counts l.tree)
    × CountsNoNewFaultOrLackOfMemory (g.T.Tree.counts l.fn.tree) (g.T.Tree.counts l.tree)
    × ReadsOn l.fn.stage (g.T.Tree.history l.fn.tree) (g.T.Tree.history l.tree)
    × IfObservable (g.T.Tree.history l.fn.tree) (λ v. Since (KeepsIntentWhileStageShrinks v) (g.T.Tree.history l.fn.tree) (g.T.Tree.history l.tree))
    × BytesOn l.fn.stage (g.T.Tree.history l.fn.tree) (g.T.Tree.history l.tree)

abbrev pub decreases-loop-stage : goal.decreases-loop-stage
decreases-loop-stage g l = action_count l.stage.intent - l.stage.acted
