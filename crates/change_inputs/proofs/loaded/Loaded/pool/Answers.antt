use Rattle.pool_core.specs.candidate_core.Values.{names_upgraded_by}
use Rattle.change_inputs.proofs.PoolSteps.{pool_is_none, pool_made}
use Rattle.change_inputs.specs.Seen.{inputs_seen}
use Rattle.change_inputs.proofs.loaded.Loaded.pool.Goals as goal

pub returns-in_ok-seal-in-Ok : goal.returns-in_ok-seal-in-Ok
returns-in_ok-seal-in-Ok c = pool_made (inputs_seen c.args.self.now) (names_upgraded_by c.args.upgrade) _ _ c.in-Ok.ensures.ok c.in-Ok.ensures.fits c.in_ok-seal-in-Ok.ensures

pub returns-in-Err-TooMany : goal.returns-in-Err-TooMany
returns-in-Err-TooMany c = pool_is_none (inputs_seen c.args.self.now) (names_upgraded_by c.args.upgrade) _ (rw c.in-Err-TooMany.field-0-is at c.in-Err-TooMany.ensures.fault)
