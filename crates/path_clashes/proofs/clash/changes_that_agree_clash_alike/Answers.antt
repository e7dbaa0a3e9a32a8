use Rattle.path_clashes.proofs.OneFirst.{same_first}
use Rattle.path_clashes.proofs.clash.changes_that_agree_clash_alike.Goals as goal

pub returns : goal.returns
returns c = λ one other files found. same_first one other files found
