use Rattle.change_inputs.proofs.PoolSteps.{fault_handed}
use Rattle.change_inputs.proofs.loaded.Loaded.candidates.Goals as goal

pub returns-in_err-add_candidates-clause-fault : goal.returns-in_err-add_candidates-clause-fault
returns-in_err-add_candidates-clause-fault c = fault_handed _ c.from_residual.result _ c.from_residual.ensures.1 c.in_err-add_candidates.ensures.fault
