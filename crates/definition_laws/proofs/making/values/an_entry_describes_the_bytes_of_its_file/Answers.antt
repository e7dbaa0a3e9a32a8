use Rattle.definition_laws.proofs.making.FileBytes.{link_tells, regular_tells}
use Rattle.definition_laws.proofs.making.values.an_entry_describes_the_bytes_of_its_file.Goals as goal

pub returns : goal.returns
returns c = record { link = link_tells; regular = regular_tells }
