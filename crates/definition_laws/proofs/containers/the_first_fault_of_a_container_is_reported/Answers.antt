use Rattle.definition_laws.proofs.containers.FirstTests.{any_told, table_told}
use Rattle.definition_laws.proofs.containers.the_first_fault_of_a_container_is_reported.Goals as goal

pub returns : goal.returns
returns c = record { table = table_told; any = any_told }
