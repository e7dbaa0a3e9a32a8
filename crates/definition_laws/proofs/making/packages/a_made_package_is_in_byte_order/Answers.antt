use Rattle.definition_laws.proofs.making.MadeFrom.{made_from}
use Rattle.definition_laws.proofs.making.NamesRising.{in_byte_order}
use Rattle.definition_laws.specs.making.MadePackages.{package_in_container}
use Rattle.definition_laws.proofs.making.packages.a_made_package_is_in_byte_order.Goals as goal

pub returns : goal.returns
returns c = λ command names read bytes made.
    in_byte_order command names read (package_in_container bytes) made.below (made_from c.a_made_package_is_read_back.ensures command names read bytes made)
