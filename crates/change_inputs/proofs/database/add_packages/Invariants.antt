use Rattle.std.proofs.Common.{◌≤◌, length}
use Rattle.db_core.specs.adb_fields.ListValue.{list_value}
use Rattle.adb_view.specs.Values.{entries_in}
use Rattle.pool_core.specs.candidate_core.declared.candidate_list.TheConstants.{MOST_CANDIDATES}
use Rattle.change_inputs.proofs.PoolSteps.{IsInstalledTo}
use Rattle.change_inputs.proofs.database.add_packages.Given as goal

abbrev pub invariant-loop-i : goal.invariant-loop-i
invariant-loop-i l = record {
  so_far : IsInstalledTo (entries_in (list_value l.packages)) l.i l.initial.pool l.pool;
  fits : length l.pool ≤ MOST_CANDIDATES;
}
