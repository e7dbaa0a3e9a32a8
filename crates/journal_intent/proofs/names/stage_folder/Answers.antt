use Rattle.journal_intent.proofs.FixedNames.{stage_folder_named}
use Rattle.journal_intent.proofs.names.stage_folder.Goals as goal

pub of-requires : goal.of-requires
of-requires c = stage_folder_named
