use Rattle.pool_core.proofs.candidate_core.Steps.{fault_more}
use Rattle.change_inputs.proofs.PoolSteps.{all_longer, fault_handed}
use Rattle.change_inputs.specs.Candidates.{candidates_of_repositories_from}
use Rattle.change_inputs.specs.Seen.{database_seen, indexes_seen}
use Rattle.change_inputs.proofs.loaded.Loaded.add_candidates.Goals as goal

pub returns-in_err-add_indexes-clause-fault : goal.returns-in_err-add_indexes-clause-fault
returns-in_err-add_indexes-clause-fault c =
    let own = c.args.self.now in
    fault_handed _ c.from_residual.result _ c.from_residual.ensures.1
    (fault_more _ _ _ (all_longer (candidates_of_repositories_from 1 own.root.repositories (indexes_seen own.indexes)) (database_seen own.root.database).packages) c.in_err-add_indexes.ensures.fault)
