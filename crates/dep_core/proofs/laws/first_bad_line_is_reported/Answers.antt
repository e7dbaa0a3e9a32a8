use Rattle.dep_core.proofs.WorldWords.{first-bad_line}
use Rattle.dep_core.proofs.laws.first_bad_line_is_reported.Goals as goal

pub returns : goal.returns
returns c = first-bad_line
