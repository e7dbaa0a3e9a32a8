use Rattle.change_inputs.proofs.OwnReads.{own_reads}
use Rattle.change_inputs.proofs.root.inputs_depend_on_their_own_reads.Goals as goal

pub returns : goal.returns
returns c = λ command read other inputs is h. own_reads command read other inputs is h
