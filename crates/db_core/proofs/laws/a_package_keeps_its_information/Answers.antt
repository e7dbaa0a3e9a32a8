use Rattle.db_core.specs.Members.{member_of_added, member_of_kept}
use Rattle.db_core.proofs.KeptParts.{hashes_after, others_after, size_after}
use Rattle.db_core.proofs.laws.a_package_keeps_its_information.Goals as goal

pub returns-clause-comes : goal.returns-clause-comes
returns-clause-comes c pkg id flags = hashes_after (member_of_added pkg id) flags

pub returns-clause-stays : goal.returns-clause-stays
returns-clause-stays c pkg flags = hashes_after (member_of_kept pkg) flags

pub returns-clause-size : goal.returns-clause-size
returns-clause-size c = size_after

pub returns-clause-others : goal.returns-clause-others
returns-clause-others c = others_after
