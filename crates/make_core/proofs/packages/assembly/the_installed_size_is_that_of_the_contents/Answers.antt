use Rattle.make_core.proofs.ContentSizes.{installed_total}
use Rattle.make_core.proofs.packages.assembly.the_installed_size_is_that_of_the_contents.Goals as goal

pub returns : goal.returns
returns c = installed_total
