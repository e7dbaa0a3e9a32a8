use Rattle.query_core.specs.Queries.{text_of_query}
use Rattle.query_core.proofs.SameQueries.{same_query}
use Rattle.query_core.proofs.laws.world_changes_no_query.Goals as goal

pub returns : goal.returns
unfolding text_of_query
returns c = λ command cs repositories one other upgraded others. same_query command.applet command cs repositories one other upgraded others
