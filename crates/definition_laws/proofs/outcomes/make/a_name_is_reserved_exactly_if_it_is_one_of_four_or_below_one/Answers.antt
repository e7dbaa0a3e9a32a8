use Rattle.definition_laws.proofs.outcomes.MadeFiles.{reserved}
use Rattle.definition_laws.proofs.outcomes.make.a_name_is_reserved_exactly_if_it_is_one_of_four_or_below_one.Goals as goal

pub returns : goal.returns
returns c = reserved
