use Rattle.run_lists.proofs.Committed.{committed_none}
use Rattle.run_lists.proofs.Moments.{bytes, seen_true, located}
use Rattle.run_lists.proofs.laws.each_name_keeps_old_recovered_or_new_bytes.Goals as goal

pub returns-clause-moments : goal.returns-clause-moments
returns-clause-moments c = λ v m run q is_run moment no_draft. bytes v run m q no_draft (located v run m is_run moment)

pub returns-clause-commits : goal.returns-clause-commits
returns-clause-commits c =
    committed_none c.a_change_keeps_paths_free.ensures.intent c.an_intent_is_read_from_a_sound_container.ensures.sound c.a_command_that_reads_leaves_the_files.ensures.commits c.a_reporting_command_leaves_the_files.ensures.commits

pub returns-clause-along : goal.returns-clause-along
returns-clause-along c = λ test q first w events stays.
    seen_true
    (committed_none c.a_change_keeps_paths_free.ensures.intent c.an_intent_is_read_from_a_sound_container.ensures.sound c.a_command_that_reads_leaves_the_files.ensures.commits c.a_reporting_command_leaves_the_files.ensures.commits)
    test q stays first w events
