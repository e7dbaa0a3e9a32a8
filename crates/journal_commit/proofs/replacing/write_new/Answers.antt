use Rattle.std.proofs.Common.{[], inr}
use Rattle.base_core.proofs.Counting.{cause_later, goes_on_twice, no_fault_twice}
use Rattle.journal_core.proofs.Counted.{if_failed}
use Rattle.journal_core.proofs.History.{on_observable}
use Rattle.journal_commit.proofs.Finish.{only_ready}
use Rattle.journal_commit.proofs.Returned.{disk_no_memory, error_of}
use Rattle.journal_commit.proofs.Written.{appended_at, begun_proper, both_proper, both_proper_at, keeps_so, moments_at, moved_at, only_at, only_keeps, proper_at, then_proper}
use Rattle.journal_commit.proofs.replacing.write_new.Goals as goal

pub returns-in_err-file-clause-moments : goal.returns-in_err-file-clause-moments
returns-in_err-file-clause-moments g c =
    only_ready c.args.name.now c.args.bytes.now _ _ c.begin.ensures.only

pub returns-in_err-file-clause-others : goal.returns-in_err-file-clause-others
returns-in_err-file-clause-others g c =
    only_keeps c.args.name.now _ _ c.begin.ensures.only

pub returns-in_err-file-clause-proper : goal.returns-in_err-file-clause-proper
returns-in_err-file-clause-proper g c =
    begun_proper c.args.name.now _ _ _ c.begin.ensures.proper

pub returns-in_err-append-clause-moments : goal.returns-in_err-append-clause-moments
returns-in_err-append-clause-moments g c =
    only_ready c.args.name.now c.args.bytes.now _ _ (only_at _ c.args.name.now c.in_ok-file.ensures.name _ _ c.append.ensures.only [] _ c.in_ok-file.ensures.begun)

pub returns-in_err-append-clause-others : goal.returns-in_err-append-clause-others
returns-in_err-append-clause-others g c =
    only_keeps c.args.name.now _ _ (only_at _ c.args.name.now c.in_ok-file.ensures.name _ _ c.append.ensures.only [] _ c.in_ok-file.ensures.begun)

pub returns-in_err-append-clause-proper : goal.returns-in_err-append-clause-proper
returns-in_err-append-clause-proper g c =
    then_proper c.args.name.now _ _ _ _ (begun_proper c.args.name.now _ _ _ c.begin.ensures.proper)
    (proper_at _ c.args.name.now c.in_ok-file.ensures.name _ (g.T.Tree.history c.append.new.tree) _ _ c.append.ensures.proper [] _ c.in_ok-file.ensures.begun)

pub returns-in_err-finish-clause-moments : goal.returns-in_err-finish-clause-moments
returns-in_err-finish-clause-moments g c =
    moments_at _ c.args.name.now c.in_ok-file.ensures.name _ _ c.finish.ensures.moments c.args.bytes.now _
    (appended_at _ c.args.name.now c.in_ok-file.ensures.name _ _ c.args.bytes.now c.in_ok-append.ensures.appended [] _ c.in_ok-file.ensures.begun)

pub returns-in_err-finish-clause-others : goal.returns-in_err-finish-clause-others
returns-in_err-finish-clause-others g c =
    keeps_so _ c.args.name.now c.in_ok-file.ensures.name _ _ c.finish.ensures.others c.args.bytes.now _
    (appended_at _ c.args.name.now c.in_ok-file.ensures.name _ _ c.args.bytes.now c.in_ok-append.ensures.appended [] _ c.in_ok-file.ensures.begun)

pub returns-in_err-finish-clause-proper : goal.returns-in_err-finish-clause-proper
returns-in_err-finish-clause-proper g c =
    both_proper c.args.name.now _ _ _ _ (then_proper c.args.name.now _ _ _ _ (begun_proper c.args.name.now _ _ _ c.begin.ensures.proper)
    (proper_at _ c.args.name.now c.in_ok-file.ensures.name _ (g.T.Tree.history c.append.new.tree) _ _ c.append.ensures.proper [] _ c.in_ok-file.ensures.begun))
    (both_proper_at _ c.args.name.now c.in_ok-file.ensures.name _ (g.T.Tree.history c.finish.new.tree) _ _ c.finish.ensures.proper c.args.bytes.now _
    (appended_at _ c.args.name.now c.in_ok-file.ensures.name _ _ c.args.bytes.now c.in_ok-append.ensures.appended [] _ c.in_ok-file.ensures.begun))

pub returns-clause-moments : goal.returns-clause-moments
returns-clause-moments g c =
    moments_at _ c.args.name.now c.in_ok-file.ensures.name _ _ c.finish.ensures.moments c.args.bytes.now _
    (appended_at _ c.args.name.now c.in_ok-file.ensures.name _ _ c.args.bytes.now c.in_ok-append.ensures.appended [] _ c.in_ok-file.ensures.begun)

pub returns-clause-others : goal.returns-clause-others
returns-clause-others g c =
    keeps_so _ c.args.name.now c.in_ok-file.ensures.name _ _ c.finish.ensures.others c.args.bytes.now _
    (appended_at _ c.args.name.now c.in_ok-file.ensures.name _ _ c.args.bytes.now c.in_ok-append.ensures.appended [] _ c.in_ok-file.ensures.begun)

pub returns-clause-proper : goal.returns-clause-proper
returns-clause-proper g c =
    both_proper c.args.name.now _ _ _ _ (then_proper c.args.name.now _ _ _ _ (begun_proper c.args.name.now _ _ _ c.begin.ensures.proper)
    (proper_at _ c.args.name.now c.in_ok-file.ensures.name _ (g.T.Tree.history c.append.new.tree) _ _ c.append.ensures.proper [] _ c.in_ok-file.ensures.begun))
    (both_proper_at _ c.args.name.now c.in_ok-file.ensures.name _ (g.T.Tree.history c.finish.new.tree) _ _ c.finish.ensures.proper c.args.bytes.now _
    (appended_at _ c.args.name.now c.in_ok-file.ensures.name _ _ c.args.bytes.now c.in_ok-append.ensures.appended [] _ c.in_ok-file.ensures.begun))

pub returns-clause-lasting : goal.returns-clause-lasting
returns-clause-lasting g c =
    moved_at _ c.args.name.now c.in_ok-file.ensures.name _ _ c.in_ok-finish.ensures.moved c.args.bytes.now _
    (appended_at _ c.args.name.now c.in_ok-file.ensures.name _ _ c.args.bytes.now c.in_ok-append.ensures.appended [] _ c.in_ok-file.ensures.begun)

pub returns-in_err-file-clause-lasting : goal.returns-in_err-file-clause-lasting
returns-in_err-file-clause-lasting g c = on_observable (g.T.Tree.history c.args.tree.now) _ (λ v rest is. if_failed c.from_residual.result _ _ c.from_residual.ensures.1)

pub returns-in_err-file-clause-asked : goal.returns-in_err-file-clause-asked
returns-in_err-file-clause-asked g c = c.begin.ensures.asked

pub returns-in_err-file-clause-accepted : goal.returns-in_err-file-clause-accepted
returns-in_err-file-clause-accepted g c = if_failed c.from_residual.result _ _ c.from_residual.ensures.1

pub returns-in_err-file-clause-memory : goal.returns-in_err-file-clause-memory
returns-in_err-file-clause-memory g c = λ failed. c.in_err-file.ensures.memory (error_of c.from_residual.result _ _ c.from_residual.ensures.1 failed)

pub returns-in_err-file-clause-goes_on : goal.returns-in_err-file-clause-goes_on
returns-in_err-file-clause-goes_on g c = c.begin.ensures.goes_on

pub returns-in_err-file-clause-disk : goal.returns-in_err-file-clause-disk
returns-in_err-file-clause-disk g c = λ failed. c.in_err-file.ensures.disk (error_of c.from_residual.result _ _ c.from_residual.ensures.1 failed)

pub returns-in_err-file-clause-kept : goal.returns-in_err-file-clause-kept
returns-in_err-file-clause-kept g c = if_failed c.from_residual.result _ _ c.from_residual.ensures.1

pub returns-in_err-append-clause-lasting : goal.returns-in_err-append-clause-lasting
returns-in_err-append-clause-lasting g c = on_observable (g.T.Tree.history c.args.tree.now) _ (λ v rest is. if_failed c.from_residual-in_err-append.result _ _ c.from_residual-in_err-append.ensures.1)

pub returns-in_err-append-clause-asked : goal.returns-in_err-append-clause-asked
returns-in_err-append-clause-asked g c = inr c.in_ok-file.ensures.accepted

pub returns-in_err-append-clause-accepted : goal.returns-in_err-append-clause-accepted
returns-in_err-append-clause-accepted g c = if_failed c.from_residual-in_err-append.result _ _ c.from_residual-in_err-append.ensures.1

pub returns-in_err-append-clause-memory : goal.returns-in_err-append-clause-memory
returns-in_err-append-clause-memory g c = λ failed. absurd (disk_no_memory c.from_residual-in_err-append.result c.from_residual-in_err-append.ensures.1 failed)

pub returns-in_err-append-clause-goes_on : goal.returns-in_err-append-clause-goes_on
returns-in_err-append-clause-goes_on g c = goes_on_twice _ _ _ c.begin.ensures.goes_on c.append.ensures.counts.goes_on

pub returns-in_err-append-clause-disk : goal.returns-in_err-append-clause-disk
returns-in_err-append-clause-disk g c = λ failed. cause_later _ _ _ c.begin.ensures.goes_on c.in_err-append.ensures.counts.cause

pub returns-in_err-append-clause-kept : goal.returns-in_err-append-clause-kept
returns-in_err-append-clause-kept g c = if_failed c.from_residual-in_err-append.result _ _ c.from_residual-in_err-append.ensures.1

pub returns-in_err-finish-clause-lasting : goal.returns-in_err-finish-clause-lasting
returns-in_err-finish-clause-lasting g c = on_observable (g.T.Tree.history c.args.tree.now) _ (λ v rest is. if_failed c.from_residual-in_err-finish.result _ _ c.from_residual-in_err-finish.ensures.1)

pub returns-in_err-finish-clause-asked : goal.returns-in_err-finish-clause-asked
returns-in_err-finish-clause-asked g c = inr c.in_ok-file.ensures.accepted

pub returns-in_err-finish-clause-accepted : goal.returns-in_err-finish-clause-accepted
returns-in_err-finish-clause-accepted g c = if_failed c.from_residual-in_err-finish.result _ _ c.from_residual-in_err-finish.ensures.1

pub returns-in_err-finish-clause-memory : goal.returns-in_err-finish-clause-memory
returns-in_err-finish-clause-memory g c = λ failed. absurd (disk_no_memory c.from_residual-in_err-finish.result c.from_residual-in_err-finish.ensures.1 failed)

pub returns-in_err-finish-clause-goes_on : goal.returns-in_err-finish-clause-goes_on
returns-in_err-finish-clause-goes_on g c = goes_on_twice _ _ _ (goes_on_twice _ _ _ c.begin.ensures.goes_on c.append.ensures.counts.goes_on) c.finish.ensures.counts.goes_on

pub returns-in_err-finish-clause-disk : goal.returns-in_err-finish-clause-disk
returns-in_err-finish-clause-disk g c = λ failed. cause_later _ _ _ (goes_on_twice _ _ _ c.begin.ensures.goes_on c.append.ensures.counts.goes_on) c.in_err-finish.ensures.counts.cause

pub returns-in_err-finish-clause-kept : goal.returns-in_err-finish-clause-kept
returns-in_err-finish-clause-kept g c = if_failed c.from_residual-in_err-finish.result _ _ c.from_residual-in_err-finish.ensures.1

pub returns-clause-asked : goal.returns-clause-asked
returns-clause-asked g c = inr c.in_ok-file.ensures.accepted

pub returns-clause-accepted : goal.returns-clause-accepted
returns-clause-accepted g c = c.in_ok-file.ensures.accepted

pub returns-clause-goes_on : goal.returns-clause-goes_on
returns-clause-goes_on g c = goes_on_twice _ _ _ (goes_on_twice _ _ _ c.begin.ensures.goes_on c.append.ensures.counts.goes_on) c.finish.ensures.counts.goes_on

pub returns-clause-kept : goal.returns-clause-kept
returns-clause-kept g c = no_fault_twice _ _ _ (no_fault_twice _ _ _ c.in_ok-file.ensures.kept c.in_ok-append.ensures.counts.kept) c.in_ok-finish.ensures.counts.kept
