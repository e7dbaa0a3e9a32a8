use Rattle.run_lists.proofs.Idle.{idly_agree, reader_idle, seen_idly, state_read}
use Rattle.run_lists.proofs.Recovered.{recovered}
use Rattle.base_core.proofs.Undone.{read_files_left}
use Rattle.run_lists.proofs.laws.a_root_that_commits_nothing_keeps_its_state.Goals as goal

pub returns-clause-again : goal.returns-clause-again
returns-clause-again c = seen_idly c.a_crash_leaves_a_durable_settled_tree.ensures.is_durable c.a_crash_leaves_a_durable_settled_tree.ensures.quiet

pub returns-clause-agree : goal.returns-clause-agree
returns-clause-agree c = idly_agree c.a_crash_leaves_a_durable_settled_tree.ensures.is_durable c.a_crash_leaves_a_durable_settled_tree.ensures.quiet read_files_left

pub returns-clause-read : goal.returns-clause-read
returns-clause-read c = state_read

pub returns-clause-recovers : goal.returns-clause-recovers
returns-clause-recovers c = recovered c.a_command_that_commits_nothing_leaves_the_files.ensures.over c.an_outcome_is_unique.ensures

pub returns-clause-readers : goal.returns-clause-readers
returns-clause-readers c = reader_idle c.a_command_that_reads_leaves_the_files.ensures.commits
