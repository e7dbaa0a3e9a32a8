use Rattle.definition_laws.proofs.making.MadeFrom.{made_from, triggers_are}
use Rattle.definition_laws.specs.making.MadePackages.{package_in_container}
use Rattle.definition_laws.proofs.making.packages.a_made_package_has_its_triggers_in_order.Goals as goal

pub returns : goal.returns
returns c = λ command names read bytes made.
    triggers_are command names read (package_in_container bytes) (made_from c.a_made_package_is_read_back.ensures command names read bytes made)
