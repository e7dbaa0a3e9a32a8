use Rattle.change_inputs.proofs.PoolSteps.{fault_handed, indexed_more, indexed_passes}
use Rattle.change_inputs.specs.Seen.{indexes_seen}
use Rattle.change_inputs.proofs.loaded.Loaded.add_indexes.Goals as goal

pub returns-in_err-add_index-clause-fault : goal.returns-in_err-add_index-clause-fault
returns-in_err-add_index-clause-fault c =
    fault_handed _ c.from_residual.result _ c.from_residual.ensures.1
    (indexed_passes c.args.self.now.root.repositories (indexes_seen c.args.self.now.indexes) c.loop-i.i _ _ c.loop-i.pool c.tag.ensures c.open-index.ensures c.loop-i.invariant.so_far _ c.in_err-add_index.ensures.fault)

pub loop-i-preserved : goal.loop-i-preserved
loop-i-preserved c = record {
  so_far = indexed_more c.args.self.now.root.repositories (indexes_seen c.args.self.now.indexes) c.loop-i.i _ _ c.loop-i.pool c.tag.ensures c.open-index.ensures c.loop-i.invariant.so_far _ c.in_ok-add_index.ensures.ok;
  fits = c.in_ok-add_index.ensures.fits;
}
