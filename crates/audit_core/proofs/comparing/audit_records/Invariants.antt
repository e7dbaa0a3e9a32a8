-- The report of the records so far.
use Rattle.std.proofs.Common.{ℕ, map, take, Ok}
use Rattle.base_core.specs.Read.{OnlyReads}
use Rattle.base_core.specs.declared.tree.TreeFault.{TreeFault}
use Rattle.base_core.specs.declared.tree.TreeFault.TheVariants.{Disk}
use Rattle.audit_core.specs.Seen.{record_seen}
use Rattle.audit_core.proofs.AuditSteps.{IsReport}
use Rattle.audit_core.proofs.comparing.audit_records.Given as goal

abbrev pub invariant-loop-record : goal.invariant-loop-record
invariant-loop-record g l = record {
  report : IsReport (g.T.Tree.history l.initial.tree) (map record_seen (take l.record-index l.records)) l.report.items;
  tree : OnlyReads {A = ℕ} {E = TreeFault} Disk (g.T.Tree.history l.initial.tree) (g.T.Tree.history l.tree) (g.T.Tree.counts l.initial.tree) (g.T.Tree.counts l.tree) (Ok 0);
}
