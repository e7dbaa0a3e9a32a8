use Rattle.definition_laws.proofs.answers.QueryLines.{places_told, policy_named}
use Rattle.definition_laws.proofs.answers.queries.policy_prints_where_each_version_is.Goals as goal

pub returns : goal.returns
returns c = record { names = policy_named; places = places_told }
