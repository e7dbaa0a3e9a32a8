-- Block by block.
use Rattle.pkg_core.proofs.Joined.{joined}
use Rattle.pkg_core.proofs.file.the_pieces_of_each_file_joined_are_its_contents.Goals as goal

pub returns : goal.returns
returns c = joined
