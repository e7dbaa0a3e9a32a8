use Rattle.definition_laws.proofs.making.EntryFields.{id_told, length_told, others_told}
use Rattle.definition_laws.proofs.making.values.an_entry_has_the_values_of_its_package.Goals as goal

pub returns : goal.returns
returns c = record { id = id_told; length = length_told; others = others_told }
