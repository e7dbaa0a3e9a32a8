use Rattle.journal_intent.proofs.FixedNames.{intent_named}
use Rattle.journal_intent.proofs.names.intent_name.Goals as goal

pub of-requires : goal.of-requires
of-requires c = intent_named
