use Rattle.refusal_laws.proofs.FirstPackage.{first_refused}
use Rattle.refusal_laws.proofs.laws.a_refused_package_is_the_first_with_a_fault.Goals as goal

pub returns : goal.returns
returns c = first_refused
