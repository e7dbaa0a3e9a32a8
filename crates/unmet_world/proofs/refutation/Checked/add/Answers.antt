use Rattle.unmet_world.proofs.Steps.{added}
use Rattle.unmet_world.proofs.refutation.Checked.add.Goals as goal

pub returns-in-Broken-clause-out : goal.returns-in-Broken-clause-out
returns-in-Broken-clause-out c = rw c.in-Broken.is (added c.add.result _ _ c.in-Broken.id _ c.candidate.ensures c.add.ensures)

pub returns-in-Excluded-clause-out : goal.returns-in-Excluded-clause-out
returns-in-Excluded-clause-out c = rw c.in-Excluded.is (added c.add-in-Excluded.result _ _ c.in-Excluded.id _ c.candidate-in-Excluded.ensures c.add-in-Excluded.ensures)

pub returns-in-Sure-clause-sure : goal.returns-in-Sure-clause-sure
returns-in-Sure-clause-sure c = rw c.in-Sure.is (added c.add-in-Sure.result _ _ c.in-Sure.id _ c.candidate-in-Sure.ensures c.add-in-Sure.ensures)
