use Rattle.change_inputs.proofs.IndexSteps.{one_found}
use Rattle.change_inputs.proofs.index.read_index_file.Goals as goal

pub returns-in_err-file-clause-found : goal.returns-in_err-file-clause-found
returns-in_err-file-clause-found g c = one_found _ _ c.args.number c.args.path.now c.from_residual.result c.in_err-file.field-0.0 c.from_residual.ensures.1 c.in_err-file.ensures.failed
