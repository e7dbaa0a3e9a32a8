use Rattle.std.proofs.Common.{inl, refl}
use Rattle.base_core.proofs.Counting.{goes_on_same}
use Rattle.journal_core.proofs.Counted.{if_failed}
use Rattle.journal_core.proofs.History.{on_observable}
use Rattle.journal_core.specs.Replacing.{scratch_name_of}
use Rattle.journal_core.proofs.Images.{crash_laws}
use Rattle.journal_commit.proofs.NewFilePieces.{begun_as, only_as, only_none, proper_as}
use Rattle.journal_commit.proofs.Returned.{disk_no_memory, memory_no_disk}
use Rattle.journal_commit.proofs.new_file.NewFile.begin.Goals as goal

pub returns-in_err-scratch-clause-only : goal.returns-in_err-scratch-clause-only
returns-in_err-scratch-clause-only g c = only_none crash_laws (scratch_name_of c.args.name.now) _ _ refl

pub returns-in_err-begin_scratch-clause-only : goal.returns-in_err-begin_scratch-clause-only
returns-in_err-begin_scratch-clause-only g c = only_as _ _ _ _ c.in_ok-scratch.ensures c.begin_scratch.ensures.only

pub returns-in_err-begin_scratch-clause-proper : goal.returns-in_err-begin_scratch-clause-proper
returns-in_err-begin_scratch-clause-proper g c = proper_as _ _ _ _ _ c.in_ok-scratch.ensures c.begin_scratch.ensures.proper

pub returns-clause-only : goal.returns-clause-only
returns-clause-only g c = only_as _ _ _ _ c.in_ok-scratch.ensures c.begin_scratch.ensures.only

pub returns-clause-begun : goal.returns-clause-begun
returns-clause-begun g c = begun_as _ _ _ _ c.in_ok-scratch.ensures c.in_ok-begin_scratch.ensures.begun

pub returns-clause-proper : goal.returns-clause-proper
returns-clause-proper g c = proper_as _ _ _ _ _ c.in_ok-scratch.ensures c.begin_scratch.ensures.proper

pub returns-in_err-scratch-clause-name : goal.returns-in_err-scratch-clause-name
returns-in_err-scratch-clause-name g c = if_failed c.from_residual.result _ _ c.from_residual.ensures.1

pub returns-in_err-scratch-clause-begun : goal.returns-in_err-scratch-clause-begun
returns-in_err-scratch-clause-begun g c = if_failed c.from_residual.result _ _ c.from_residual.ensures.1

pub returns-in_err-scratch-clause-accepted : goal.returns-in_err-scratch-clause-accepted
returns-in_err-scratch-clause-accepted g c = if_failed c.from_residual.result _ _ c.from_residual.ensures.1

pub returns-in_err-scratch-clause-kept : goal.returns-in_err-scratch-clause-kept
returns-in_err-scratch-clause-kept g c = if_failed c.from_residual.result _ _ c.from_residual.ensures.1

pub returns-in_err-scratch-clause-asked : goal.returns-in_err-scratch-clause-asked
returns-in_err-scratch-clause-asked g c = inl refl

pub returns-in_err-scratch-clause-memory : goal.returns-in_err-scratch-clause-memory
returns-in_err-scratch-clause-memory g c = λ failed. refl

pub returns-in_err-scratch-clause-goes_on : goal.returns-in_err-scratch-clause-goes_on
returns-in_err-scratch-clause-goes_on g c = goes_on_same _

pub returns-in_err-scratch-clause-disk : goal.returns-in_err-scratch-clause-disk
returns-in_err-scratch-clause-disk g c = λ failed. absurd (memory_no_disk c.from_residual.result c.from_residual.ensures.1 failed)

pub returns-in_err-scratch-clause-proper : goal.returns-in_err-scratch-clause-proper
returns-in_err-scratch-clause-proper g c = on_observable (g.T.Tree.history c.args.tree.now) _ (λ v rest is free. refl)

pub returns-in_err-begin_scratch-clause-name : goal.returns-in_err-begin_scratch-clause-name
returns-in_err-begin_scratch-clause-name g c = if_failed c.from_residual-in_err-begin_scratch.result _ _ c.from_residual-in_err-begin_scratch.ensures.1

pub returns-in_err-begin_scratch-clause-begun : goal.returns-in_err-begin_scratch-clause-begun
returns-in_err-begin_scratch-clause-begun g c = if_failed c.from_residual-in_err-begin_scratch.result _ _ c.from_residual-in_err-begin_scratch.ensures.1

pub returns-in_err-begin_scratch-clause-accepted : goal.returns-in_err-begin_scratch-clause-accepted
returns-in_err-begin_scratch-clause-accepted g c = if_failed c.from_residual-in_err-begin_scratch.result _ _ c.from_residual-in_err-begin_scratch.ensures.1

pub returns-in_err-begin_scratch-clause-kept : goal.returns-in_err-begin_scratch-clause-kept
returns-in_err-begin_scratch-clause-kept g c = if_failed c.from_residual-in_err-begin_scratch.result _ _ c.from_residual-in_err-begin_scratch.ensures.1

pub returns-in_err-begin_scratch-clause-memory : goal.returns-in_err-begin_scratch-clause-memory
returns-in_err-begin_scratch-clause-memory g c = λ failed. absurd (disk_no_memory c.from_residual-in_err-begin_scratch.result c.from_residual-in_err-begin_scratch.ensures.1 failed)

pub returns-in_err-begin_scratch-clause-goes_on : goal.returns-in_err-begin_scratch-clause-goes_on
returns-in_err-begin_scratch-clause-goes_on g c = c.begin_scratch.ensures.counts.goes_on

pub returns-in_err-begin_scratch-clause-disk : goal.returns-in_err-begin_scratch-clause-disk
returns-in_err-begin_scratch-clause-disk g c = λ failed. c.in_err-begin_scratch.ensures.counts.cause

pub returns-clause-goes_on : goal.returns-clause-goes_on
returns-clause-goes_on g c = c.begin_scratch.ensures.counts.goes_on

pub returns-clause-kept : goal.returns-clause-kept
returns-clause-kept g c = c.in_ok-begin_scratch.ensures.counts.kept
