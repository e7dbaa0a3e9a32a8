use Rattle.std.proofs.Common.{arith}
use Rattle.base_core.specs.declared.tree.TreeFault.TheVariants.{Disk}
use Rattle.base_core.proofs.Counting.{readings_none}
use Rattle.base_core.proofs.ReadAfter.{reading_as, second_reading_failed}
use Rattle.audit_core.proofs.AuditSteps.{named_at, nothing_reported, nothing_said, reported_all, reported_more}
use Rattle.audit_core.proofs.Reading.{reads_on}
use Rattle.audit_core.proofs.comparing.audit_records.Goals as goal

pub loop-record-init : goal.loop-record-init
loop-record-init g c = record { report = nothing_reported _ _ c.new-report.ensures.items; tree = readings_none Disk _ _ 0 }

pub audit_record-requires : goal.audit_record-requires
audit_record-requires g c = named_at c.args.records.now c.loop-record.record-index c.record-item.result c.loop-record-test.true c.record-item.is c.requires

pub returns-in_err-audit_record-clause-report : goal.returns-in_err-audit_record-clause-report
returns-in_err-audit_record-clause-report g c first = nothing_said _ c.from_residual.result _ _ c.from_residual.ensures.1

pub loop-record-preserved : goal.loop-record-preserved
loop-record-preserved g c = record {
  report = reported_more _ _ c.args.records.now c.loop-record.record-index c.record-item.result _ _ c.loop-record.invariant.tree.same c.loop-record-test.true c.record-item.is
      c.loop-record.invariant.report c.in_ok-audit_record.ensures.line;
  tree = reads_on Disk _ _ _ _ _ _ 0 _ c.loop-record.invariant.tree c.in_ok-audit_record.ensures.tree;
}

pub returns-clause-report : goal.returns-clause-report
returns-clause-report g c = reported_all _ c.args.records.now c.loop-record.record-index _ (omega (arith, c.loop-record-test.false)) c.loop-record.invariant.report

pub returns-in_err-audit_record-clause-tree : goal.returns-in_err-audit_record-clause-tree
returns-in_err-audit_record-clause-tree g c = second_reading_failed _ _ _ _ _ _ _ _ _ c.from_residual.result c.from_residual.ensures.1 c.loop-record.invariant.tree c.in_err-audit_record.ensures.tree

pub returns-clause-tree : goal.returns-clause-tree
returns-clause-tree g c = reading_as _ _ _ _ _ _ _ c.loop-record.invariant.tree
