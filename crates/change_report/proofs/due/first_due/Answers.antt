use Rattle.std.proofs.Common.{arith}
use Rattle.change_outcome.specs.db_core.Seen.{members_of}
use Rattle.change_report.proofs.Loops.{placed_at}
use Rattle.change_report.proofs.Watching.{is_due_of, no_trigger_due, trigger_due, trigger_not_due}
use Rattle.change_report.proofs.due.first_due.Goals as goal

pub returns-clause-needed : goal.returns-clause-needed
returns-clause-needed c = λ paths are.
    no_trigger_due paths (members_of c.args.members.now) c.loop-i.i
    (omega (arith, c.len-i-end.ensures.value, c.loop-i-test.false)) (c.loop-i.invariant paths are)

pub returns-then-has_due_trigger-clause-needed : goal.returns-then-has_due_trigger-clause-needed
returns-then-has_due_trigger-clause-needed c = λ paths are.
    let here = placed_at (members_of c.args.members.now) c.loop-i.i (omega (arith, c.len-i-end.ensures.value, c.loop-i-test.true)) in
    trigger_due paths (members_of c.args.members.now) c.loop-i.i here.item c.has_due_trigger.result here.is
    (is_due_of paths _ _ here.item.pkg c.has_due_trigger.result are (c.view.ensures.value here.item here.is) c.has_due_trigger.ensures)
    c.if-has_due_trigger.true (c.loop-i.invariant paths are)

pub loop-i-preserved : goal.loop-i-preserved
loop-i-preserved c = λ paths are.
    let here = placed_at (members_of c.args.members.now) c.loop-i.i (omega (arith, c.len-i-end.ensures.value, c.loop-i-test.true)) in
    trigger_not_due paths (members_of c.args.members.now) c.loop-i.i here.item c.has_due_trigger.result here.is
    (is_due_of paths _ _ here.item.pkg c.has_due_trigger.result are (c.view.ensures.value here.item here.is) c.has_due_trigger.ensures)
    c.if-has_due_trigger.false (c.loop-i.invariant paths are)
