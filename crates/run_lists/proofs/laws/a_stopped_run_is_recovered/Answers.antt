use Rattle.run_lists.proofs.Facts.{Facts}
use Rattle.run_lists.proofs.Recoverable.{one_of_two, stopped_left, stopped_recovers}
use Rattle.base_core.proofs.Undone.{read_files_left}
use Rattle.run_lists.proofs.laws.a_stopped_run_is_recovered.Goals as goal

pub returns-clause-two : goal.returns-clause-two
returns-clause-two c = one_of_two

pub returns-clause-recovered : goal.returns-clause-recovered
returns-clause-recovered c =
    let facts : Facts = record {
      crash_durable = c.a_crash_leaves_a_durable_settled_tree.ensures.is_durable;
      crash_settled = c.a_crash_leaves_a_durable_settled_tree.ensures.settled;
      read_left = read_files_left;
      more_order = c.more_names_may_be_ignored.ensures.order;
      more_settled = c.more_names_may_be_ignored.ensures.settled;
      unique = c.an_outcome_is_unique.ensures;
      making = c.a_command_that_makes_commits_unless_refused.ensures;
      safe = c.a_crash_leaves_the_old_files_or_those_of_the_outcome.ensures;
    } in
    λ ignored first v m w events later run next off is_durable good seen is_run moment idly is_next recovers.
    let same = c.a_state_shows_a_bad_intent.ensures.same in
    let commits = c.each_name_keeps_old_recovered_or_new_bytes.ensures.commits in
    stopped_recovers facts same commits c.only_a_bad_intent_is_refused_as_one.ensures c.an_intent_is_read_from_a_sound_container.ensures.sound
    c.a_crash_leaves_a_durable_settled_tree.ensures.quiet c.a_root_that_commits_nothing_keeps_its_state.ensures.recovers
    ignored off first is_durable good v m w events later run next seen is_run moment idly is_next recovers

pub returns-clause-left : goal.returns-clause-left
returns-clause-left c =
    let facts : Facts = record {
      crash_durable = c.a_crash_leaves_a_durable_settled_tree.ensures.is_durable;
      crash_settled = c.a_crash_leaves_a_durable_settled_tree.ensures.settled;
      read_left = read_files_left;
      more_order = c.more_names_may_be_ignored.ensures.order;
      more_settled = c.more_names_may_be_ignored.ensures.settled;
      unique = c.an_outcome_is_unique.ensures;
      making = c.a_command_that_makes_commits_unless_refused.ensures;
      safe = c.a_crash_leaves_the_old_files_or_those_of_the_outcome.ensures;
    } in
    λ ignored first v m w events later run next off is_durable good seen is_run moment idly is_next recovers.
    let same = c.a_state_shows_a_bad_intent.ensures.same in
    let commits = c.each_name_keeps_old_recovered_or_new_bytes.ensures.commits in
    stopped_left facts same commits c.only_a_bad_intent_is_refused_as_one.ensures c.an_intent_is_read_from_a_sound_container.ensures.sound
    c.a_crash_leaves_a_durable_settled_tree.ensures.quiet c.a_root_that_commits_nothing_keeps_its_state.ensures.recovers
    ignored off first is_durable good v m w events later run next seen is_run moment idly is_next recovers
