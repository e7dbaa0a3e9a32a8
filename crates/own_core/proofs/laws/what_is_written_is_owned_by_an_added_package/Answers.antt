use Rattle.own_core.proofs.OwnedFiles.{coming_listed, written_under}
use Rattle.own_core.proofs.laws.what_is_written_is_owned_by_an_added_package.Goals as goal

pub returns-clause-owner : goal.returns-clause-owner
returns-clause-owner c = coming_listed

pub returns-clause-written : goal.returns-clause-written
returns-clause-written c = written_under
