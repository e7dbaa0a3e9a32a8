use Rattle.path_clashes.proofs.OneFirst.{one_first}
use Rattle.path_clashes.proofs.clash.a_change_has_one_first_clash.Goals as goal

pub returns : goal.returns
returns c = λ change files one other. one_first change files one other
