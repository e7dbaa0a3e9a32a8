use Rattle.version_core.proofs.OrderLaws.{equal_tokens_of, equal_by_tokens}
use Rattle.version_core.proofs.laws.equal_versions_have_equal_tokens.Goals as goal

pub returns : goal.returns
returns c = λ left right. (equal_tokens_of left right, equal_by_tokens left right)
