use Rattle.journal_commit.proofs.Empty.{change_empties}
use Rattle.journal_commit.proofs.staging.a_change_leaves_nothing_staged.Goals as goal

pub returns : goal.returns
returns c intent contents files free same empty = change_empties intent contents files free same empty
