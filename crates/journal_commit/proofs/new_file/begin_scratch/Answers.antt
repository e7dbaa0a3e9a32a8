use Rattle.std.proofs.Common.{inl, inr}
use Rattle.journal_core.proofs.Counted.{if_failed}
use Rattle.journal_core.proofs.History.{observable_map}
use Rattle.journal_commit.proofs.Counted.{later_counts}
use Rattle.journal_core.proofs.Images.{crash_laws}
use Rattle.journal_commit.proofs.NewFilePieces.{begun_from, only_from, only_none}
use Rattle.journal_commit.proofs.Returned.{on_ok, proper_after_read, read_counted}
use Rattle.journal_commit.proofs.new_file.begin_scratch.Goals as goal

pub returns-in_err-check_target-clause-only : goal.returns-in_err-check_target-clause-only
returns-in_err-check_target-clause-only g c = only_none crash_laws c.args.scratch.now _ _ c.check_target.ensures.tree.same

pub returns-clause-only : goal.returns-clause-only
returns-clause-only g c = only_from c.args.scratch.now _ _ _ c.check_target.ensures.tree.same c.create_anew.ensures.only

pub returns-clause-begun : goal.returns-clause-begun
returns-clause-begun g c = begun_from c.args.scratch.now _ _ _ c.create_anew.result c.check_target.ensures.tree.same c.create_anew.ensures.begun

pub returns-in_err-check_target-clause-begun : goal.returns-in_err-check_target-clause-begun
returns-in_err-check_target-clause-begun g c = if_failed c.from_residual.result _ _ c.from_residual.ensures.1

pub returns-in_err-check_target-clause-asked : goal.returns-in_err-check_target-clause-asked
returns-in_err-check_target-clause-asked g c = inl c.check_target.ensures.tree.same

pub returns-in_err-check_target-clause-accepted : goal.returns-in_err-check_target-clause-accepted
returns-in_err-check_target-clause-accepted g c = if_failed c.from_residual.result _ _ c.from_residual.ensures.1

pub returns-in_err-check_target-clause-counts : goal.returns-in_err-check_target-clause-counts
returns-in_err-check_target-clause-counts g c = read_counted _ _ _ _ _ c.from_residual.result c.from_residual.ensures.1 c.in_err-check_target.ensures.tree

pub returns-in_err-check_target-clause-proper : goal.returns-in_err-check_target-clause-proper
returns-in_err-check_target-clause-proper g c = observable_map (g.T.Tree.history c.args.tree.now) _ _ c.check_target.ensures.tree.proper (λ v is free. is)

pub returns-clause-asked : goal.returns-clause-asked
returns-clause-asked g c = inr c.in_ok-check_target.ensures.accepted

pub returns-clause-accepted : goal.returns-clause-accepted
returns-clause-accepted g c = on_ok c.create_anew.result _ c.in_ok-check_target.ensures.accepted

pub returns-clause-counts : goal.returns-clause-counts
returns-clause-counts g c = later_counts _ _ _ c.create_anew.result c.check_target.ensures.tree.goes_on c.in_ok-check_target.ensures.tree.kept c.create_anew.ensures.counts

pub returns-clause-proper : goal.returns-clause-proper
returns-clause-proper g c = proper_after_read _ _ _ _ _ _ c.check_target.ensures.tree.same c.check_target.ensures.tree.proper c.create_anew.ensures.proper
