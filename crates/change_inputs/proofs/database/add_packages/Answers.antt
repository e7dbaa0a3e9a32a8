use Rattle.std.proofs.Common.{arith}
use Rattle.db_core.specs.adb_fields.ListValue.{list_value}
use Rattle.adb_view.specs.Values.{entries_in}
use Rattle.change_inputs.proofs.PoolSteps.{fault_handed, installed_all, installed_more, installed_passes}
use Rattle.change_inputs.proofs.database.add_packages.Goals as goal

pub returns-in_err-add_installed-clause-fault : goal.returns-in_err-add_installed-clause-fault
returns-in_err-add_installed-clause-fault c =
    fault_handed _ c.from_residual.result _ c.from_residual.ensures.1
    (installed_passes (entries_in (list_value c.args.packages.now)) c.loop-i.i _ _ c.args.pool.now c.loop-i.pool _ (omega arith) c.get-package.ensures c.info.ensures c.in_err-add_installed.ensures.fault c.loop-i.invariant.so_far)

pub loop-i-preserved : goal.loop-i-preserved
loop-i-preserved c = record {
  so_far = installed_more (entries_in (list_value c.args.packages.now)) c.loop-i.i _ _ c.args.pool.now c.loop-i.pool _ (omega arith) c.get-package.ensures c.info.ensures c.in_ok-add_installed.ensures.ok c.loop-i.invariant.so_far;
  fits = c.in_ok-add_installed.ensures.fits;
}

pub returns-clause-ok : goal.returns-clause-ok
returns-clause-ok c = installed_all (entries_in (list_value c.args.packages.now)) c.loop-i.i c.args.pool.now c.loop-i.pool (omega arith) c.loop-i.invariant.so_far
