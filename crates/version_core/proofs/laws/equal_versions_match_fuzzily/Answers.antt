use Rattle.version_core.proofs.OrderLaws.{fuzzy_by_tokens}
use Rattle.version_core.proofs.laws.equal_versions_match_fuzzily.Goals as goal

pub returns : goal.returns
returns c = fuzzy_by_tokens
