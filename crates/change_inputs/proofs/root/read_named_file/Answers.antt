use Rattle.std.proofs.Common.{ℕ}
use Rattle.base_core.proofs.Counting.{readings_none}
use Rattle.change_inputs.proofs.Reading.{reads_then_fault}
use Rattle.change_inputs.specs.declared.root.Refused.TheVariants.{Disk, Memory}
use Rattle.change_inputs.proofs.root.read_named_file.Goals as goal

pub returns-in_err-name-clause-tree : goal.returns-in_err-name-clause-tree
returns-in_err-name-clause-tree g c = reads_then_fault {A = ℕ} _ _ _ _ 0 Memory c.from_residual.result (λ is. absurd (cc)) c.from_residual.ensures.1 (readings_none Disk _ _ 0)

pub returns-clause-found : goal.returns-clause-found
returns-clause-found g c = rw c.in_ok-name.was c.read_file.ensures.found
