use Rattle.std.proofs.Common.{◌∙◌, sym}
use Rattle.change_inputs.specs.Seen.{inputs_seen}
use Rattle.unmet_world.proofs.Explaining.{of_pool}
use Rattle.unmet_world.proofs.Pools.{pool_world}
use Rattle.unmet_world.proofs.explain.explanation_of_loaded.Goals as goal

pub explanation_of_pool-requires : goal.explanation_of_pool-requires
explanation_of_pool-requires c = c.new_world.ensures ∙ sym (pool_world (inputs_seen c.args.loaded.now) c.in-Ok.pool c.in-Ok.ensures)

pub returns-in-Ok : goal.returns-in-Ok
returns-in-Ok c =
    of_pool (inputs_seen c.args.loaded.now) c.in-Ok.pool _ _ c.explanation_of_pool.result c.in-Ok.ensures c.world.ensures c.repositories.ensures c.explanation_of_pool.ensures
