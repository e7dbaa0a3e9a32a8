use Rattle.std.proofs.Common.{◌≤◌, length}
use Rattle.pool_core.specs.candidate_core.declared.candidate_list.TheConstants.{MOST_CANDIDATES}
use Rattle.change_inputs.specs.Seen.{indexes_seen}
use Rattle.change_inputs.proofs.PoolSteps.{IsIndexedTo}
use Rattle.change_inputs.proofs.loaded.Loaded.add_indexes.Given as goal

abbrev pub invariant-loop-i : goal.invariant-loop-i
invariant-loop-i l = record {
  so_far : IsIndexedTo l.self.root.repositories (indexes_seen l.self.indexes) l.i l.pool;
  fits : length l.pool ≤ MOST_CANDIDATES;
}
