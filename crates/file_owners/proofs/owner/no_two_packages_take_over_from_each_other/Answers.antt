use Rattle.file_owners.proofs.OneWay.{takes_over_one_way}
use Rattle.file_owners.proofs.owner.no_two_packages_take_over_from_each_other.Goals as goal

pub returns : goal.returns
returns c = takes_over_one_way
