use Rattle.candidate_core.proofs.Steps.{on_ok}
use Rattle.candidate_core.proofs.table.Table.add_entry.Goals as goal

pub returns : goal.returns
returns c = on_ok c.add.result _ _ (λ added name. rw c.if-entry.false (added name)) c.add.ensures
