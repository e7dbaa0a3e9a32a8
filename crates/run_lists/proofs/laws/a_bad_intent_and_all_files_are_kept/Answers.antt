use Rattle.run_lists.proofs.BadIntent.{nothing_written, seen_same}
use Rattle.run_lists.proofs.laws.a_bad_intent_and_all_files_are_kept.Goals as goal

pub returns-clause-run : goal.returns-clause-run
returns-clause-run c = nothing_written

pub returns-clause-along : goal.returns-clause-along
returns-clause-along c = seen_same
