use Rattle.definition_laws.proofs.answers.Needing.{needed_rising, needed_under}
use Rattle.definition_laws.proofs.answers.kept.a_kept_package_is_required_by_those_that_need_it.Goals as goal

pub returns : goal.returns
returns c = record { each = needed_under; order = needed_rising }
