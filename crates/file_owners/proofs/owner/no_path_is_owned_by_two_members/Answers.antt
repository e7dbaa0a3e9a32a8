use Rattle.file_owners.proofs.OneOwner.{owned_once}
use Rattle.file_owners.proofs.owner.no_path_is_owned_by_two_members.Goals as goal

pub returns : goal.returns
returns c = owned_once
