use Rattle.root_names.proofs.RootNamesAreNames.{repositories_named}
use Rattle.root_names.proofs.repositories_name.Goals as goal

pub of-requires : goal.of-requires
of-requires c = repositories_named
