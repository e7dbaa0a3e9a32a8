use Rattle.own_core.proofs.Untouched.{takes_its_path}
use Rattle.own_core.proofs.laws.what_is_written_takes_its_name.Goals as goal

pub returns : goal.returns
returns c = takes_its_path
