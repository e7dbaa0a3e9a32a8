use Rattle.journal_commit.proofs.Asked.{asked_later, asked_same}
use Rattle.journal_commit.proofs.staging.runs_with_accepted_targets_begin_with_reads.Goals as goal

pub returns-clause-same : goal.returns-clause-same
returns-clause-same g c = asked_same g.T.Tree.accepts

pub returns-clause-later : goal.returns-clause-later
returns-clause-later g c = asked_later g.T.Tree.accepts
