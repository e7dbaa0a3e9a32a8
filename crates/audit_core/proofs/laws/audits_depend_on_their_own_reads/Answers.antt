use Rattle.std.proofs.Common.{ap}
use Rattle.std.specs.List.{flat_map}
use Rattle.audit_core.specs.Audit.{audit_report, difference_line}
use Rattle.audit_core.specs.Records.{records_by_path}
use Rattle.audit_core.proofs.AuditSteps.{differences_same}
use Rattle.audit_core.proofs.laws.audits_depend_on_their_own_reads.Goals as goal

pub returns : goal.returns
unfolding audit_report
returns c read other first packages same = ap (flat_map difference_line) (differences_same read other first (records_by_path packages) (λ n name low high. same n name low))
