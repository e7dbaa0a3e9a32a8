-- Block by block.
use Rattle.pkg_core.proofs.Given.{files_right}
use Rattle.pkg_core.proofs.checks.good_blocks_give_the_contents_of_each_file.Goals as goal

pub returns : goal.returns
returns c = files_right
