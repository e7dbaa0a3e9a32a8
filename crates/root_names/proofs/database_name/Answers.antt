use Rattle.root_names.proofs.RootNamesAreNames.{database_named}
use Rattle.root_names.proofs.database_name.Goals as goal

pub of-requires : goal.of-requires
of-requires c = database_named
