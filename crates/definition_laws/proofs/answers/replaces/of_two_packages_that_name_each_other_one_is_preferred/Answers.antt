use Rattle.definition_laws.proofs.answers.Replacing.{alone, later, priority, unnamed}
use Rattle.definition_laws.proofs.answers.replaces.of_two_packages_that_name_each_other_one_is_preferred.Goals as goal

pub returns : goal.returns
returns c = record { unnamed = unnamed; alone = alone; priority = priority; later = later }
