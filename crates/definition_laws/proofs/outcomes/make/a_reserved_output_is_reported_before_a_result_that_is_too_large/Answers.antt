use Rattle.definition_laws.proofs.outcomes.MadeFiles.{reserved_first, too_large}
use Rattle.definition_laws.proofs.outcomes.make.a_reserved_output_is_reported_before_a_result_that_is_too_large.Goals as goal

pub returns : goal.returns
returns c = record { reserved = reserved_first; too_large = too_large }
