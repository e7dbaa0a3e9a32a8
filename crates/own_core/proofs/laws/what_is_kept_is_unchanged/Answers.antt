use Rattle.own_core.proofs.Untouched.{is_spared}
use Rattle.own_core.proofs.laws.what_is_kept_is_unchanged.Goals as goal

pub returns : goal.returns
returns c = is_spared
