use Rattle.definition_laws.proofs.outcomes.Verified.{first_unsound}
use Rattle.definition_laws.proofs.outcomes.verify.verify_refuses_the_first_bad_file.Goals as goal

pub returns : goal.returns
returns c = first_unsound
