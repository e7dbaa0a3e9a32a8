use Rattle.definition_laws.proofs.answers.Unindexed.{again_itself, kept_itself}
use Rattle.definition_laws.proofs.answers.changes.a_package_of_no_index_is_kept.Goals as goal

pub returns : goal.returns
returns c = record { reinstall = again_itself; kept = kept_itself }
