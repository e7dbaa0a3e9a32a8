use Rattle.definition_laws.proofs.outcomes.Verified.{nothing_printed, ok_printed}
use Rattle.definition_laws.proofs.outcomes.verify.verify_prints_ok_for_each_file.Goals as goal

pub returns : goal.returns
returns c = record { printed = ok_printed; refused = nothing_printed }
