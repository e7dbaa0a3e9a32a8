-- By the first block.
use Rattle.pkg_core.proofs.WholeTests.{same_payload}
use Rattle.pkg_core.proofs.laws.a_front_holds_the_payload_of_its_file.Goals as goal

pub returns : goal.returns
returns c = same_payload
