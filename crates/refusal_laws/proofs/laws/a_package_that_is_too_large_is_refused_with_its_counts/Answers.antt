use Rattle.refusal_laws.proofs.MadeTooLarge.{made_too_large}
use Rattle.refusal_laws.proofs.laws.a_package_that_is_too_large_is_refused_with_its_counts.Goals as goal

pub returns : goal.returns
returns c = λ command names read bytes values. made_too_large bytes values command names read
