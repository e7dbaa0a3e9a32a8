use Rattle.definition_laws.proofs.containers.EveryTest.{every_test}
use Rattle.definition_laws.proofs.containers.no_fault_is_reported_exactly_if_every_test_holds.Goals as goal

pub returns : goal.returns
returns c = every_test
