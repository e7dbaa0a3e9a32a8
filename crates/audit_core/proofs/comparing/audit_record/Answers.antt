use Rattle.std.proofs.Common.{ℕ}
use Rattle.base_core.specs.declared.tree.TreeFault.TheVariants.{Disk}
use Rattle.base_core.proofs.Counting.{readings_none}
use Rattle.audit_core.specs.Seen.{record_seen}
use Rattle.audit_core.proofs.AuditSteps.{not_longer}
use Rattle.audit_core.proofs.Reading.{out_of_memory, reads_failed, reads_told}
use Rattle.audit_core.proofs.comparing.audit_record.Goals as goal

pub returns-in_err-path-clause-line : goal.returns-in_err-path-clause-line
returns-in_err-path-clause-line g c = not_longer _ (record_seen c.args.record.now) _ _ c.from_residual.result _ c.from_residual.ensures.1

pub returns-in_err-name-clause-line : goal.returns-in_err-name-clause-line
returns-in_err-name-clause-line g c = not_longer _ (record_seen c.args.record.now) _ _ c.from_residual-in_err-name.result _ c.from_residual-in_err-name.ensures.1

pub returns-in_err-found-clause-line : goal.returns-in_err-found-clause-line
returns-in_err-found-clause-line g c = not_longer _ (record_seen c.args.record.now) _ _ c.from_residual-in_err-found.result _ c.from_residual-in_err-found.ensures.1

pub returns-in_err-path-clause-tree : goal.returns-in_err-path-clause-tree
returns-in_err-path-clause-tree g c = out_of_memory {A = ℕ} _ _ _ _ 0 c.from_residual.result c.from_residual.ensures.1 (readings_none Disk _ _ 0)

pub returns-in_err-name-clause-tree : goal.returns-in_err-name-clause-tree
returns-in_err-name-clause-tree g c = out_of_memory {A = ℕ} _ _ _ _ 0 c.from_residual-in_err-name.result c.from_residual-in_err-name.ensures.1 (readings_none Disk _ _ 0)

pub returns-in_err-found-clause-tree : goal.returns-in_err-found-clause-tree
returns-in_err-found-clause-tree g c = reads_failed _ _ _ _ _ c.from_residual-in_err-found.result c.from_residual-in_err-found.ensures.1 c.in_err-found.ensures.tree

pub returns-clause-tree : goal.returns-clause-tree
returns-clause-tree g c = reads_told _ _ _ _ _ _ _ _ c.in_ok-found.ensures.tree

pub returns-in_err-push_difference-clause-line : goal.returns-in_err-push_difference-clause-line
returns-in_err-push_difference-clause-line g c =
    let r = c.from_residual-in_err-push_difference in
    not_longer _ (record_seen c.args.record.now) _ _ r.result _ r.ensures.1

pub returns-in_err-push_difference-clause-tree : goal.returns-in_err-push_difference-clause-tree
returns-in_err-push_difference-clause-tree g c =
    let r = c.from_residual-in_err-push_difference in
    out_of_memory {A = ℕ} _ _ _ _ 0 r.result r.ensures.1 (reads_told _ _ _ _ _ _ _ 0 c.in_ok-found.ensures.tree)
