use Rattle.definition_laws.proofs.answers.ManifestLines.{manifest_told}
use Rattle.definition_laws.proofs.answers.manifest.manifest_prints_each_file_of_the_packages_that_are_named.Goals as goal

pub returns : goal.returns
returns c = manifest_told
