use Rattle.definition_laws.proofs.containers.FirstHeader.{header_told}
use Rattle.definition_laws.proofs.containers.the_first_fault_of_a_header_is_reported.Goals as goal

pub returns : goal.returns
returns c = header_told
