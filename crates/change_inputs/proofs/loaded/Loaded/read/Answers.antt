use Rattle.change_inputs.proofs.Explained.{as_before, explained_failure, root_as_now}
use Rattle.change_inputs.specs.Answers.{AgreesUnlessDiskOrMemory}
use Rattle.change_inputs.specs.Inputs.{inputs_of}
use Rattle.change_inputs.specs.Seen.{inputs_seen}
use Rattle.base_core.proofs.Counting.{readings_two}
use Rattle.base_core.proofs.ReadAfter.{reading_off}
use Rattle.change_inputs.specs.declared.root.Refused.TheVariants.{Disk}
use Rattle.change_inputs.proofs.loaded.Loaded.read.Goals as goal

pub of_files-requires : goal.of_files-requires
of_files-requires g c = root_as_now _ _ c.in_ok-files.files c.in_ok-files.ensures.tree.same c.in_ok-files.ensures.found

pub returns-in_err-files-clause-found : goal.returns-in_err-files-clause-found
returns-in_err-files-clause-found g c = explained_failure inputs_seen _ c.args.command.now c.from_residual.result _ c.from_residual.ensures.1 c.in_err-files.ensures.failed

pub returns-clause-found : goal.returns-clause-found
returns-clause-found g c = as_before _ _ (λ read. AgreesUnlessDiskOrMemory inputs_seen c.of_files.result (inputs_of c.args.command.now read)) c.in_ok-files.ensures.tree.same c.of_files.ensures.found

pub returns-in_err-files-clause-tree : goal.returns-in_err-files-clause-tree
returns-in_err-files-clause-tree g c = reading_off _ _ _ _ _ _ c.from_residual.result c.from_residual.ensures.1 c.in_err-files.ensures.tree

pub returns-clause-tree : goal.returns-clause-tree
returns-clause-tree g c = readings_two Disk _ _ _ _ _ _ _ c.of_files.result c.in_ok-files.ensures.tree c.of_files.ensures.tree
