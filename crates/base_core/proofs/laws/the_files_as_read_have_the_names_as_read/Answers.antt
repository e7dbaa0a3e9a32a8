use Rattle.base_core.proofs.OneList.{names_are_of_files}
use Rattle.base_core.proofs.laws.the_files_as_read_have_the_names_as_read.Goals as goal

pub returns : goal.returns
returns c = names_are_of_files
