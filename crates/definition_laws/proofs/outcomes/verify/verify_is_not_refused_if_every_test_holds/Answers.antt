use Rattle.definition_laws.proofs.outcomes.Verified.{sound_exactly}
use Rattle.definition_laws.proofs.outcomes.verify.verify_is_not_refused_if_every_test_holds.Goals as goal

pub returns : goal.returns
returns c = sound_exactly
