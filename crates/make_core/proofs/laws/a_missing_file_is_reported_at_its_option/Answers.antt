use Rattle.make_core.proofs.MissingFiles.{made_missing}
use Rattle.make_core.proofs.laws.a_missing_file_is_reported_at_its_option.Goals as goal

pub returns : goal.returns
returns c = made_missing
