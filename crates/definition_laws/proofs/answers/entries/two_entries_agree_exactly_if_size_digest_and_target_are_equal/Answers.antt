use Rattle.definition_laws.proofs.answers.EntryFields.{entries_agree}
use Rattle.definition_laws.proofs.answers.entries.two_entries_agree_exactly_if_size_digest_and_target_are_equal.Goals as goal

pub returns : goal.returns
returns c = entries_agree
