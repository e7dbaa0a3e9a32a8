use Rattle.root_names.proofs.RootNamesAreNames.{text_database_named}
use Rattle.root_names.proofs.text_database_name.Goals as goal

pub of-requires : goal.of-requires
of-requires c = text_database_named
