use Rattle.root_names.proofs.RootNamesAreNames.{world_named}
use Rattle.root_names.proofs.world_name.Goals as goal

pub of-requires : goal.of-requires
of-requires c = world_named
