use Rattle.run_lists.proofs.Facts.{Facts}
use Rattle.run_lists.proofs.Recoverable.{good_recovers, good_unrefused, seen_good}
use Rattle.base_core.proofs.Undone.{read_files_left}
use Rattle.run_lists.proofs.laws.no_events_leave_a_bad_intent.Goals as goal

pub returns-clause-along : goal.returns-clause-along
returns-clause-along c =
    let facts : Facts = record {
      crash_durable = c.a_crash_leaves_a_durable_settled_tree.ensures.is_durable;
      crash_settled = c.a_crash_leaves_a_durable_settled_tree.ensures.settled;
      read_left = read_files_left;
      more_order = c.more_names_may_be_ignored.ensures.order;
      more_settled = c.more_names_may_be_ignored.ensures.settled;
      unique = c.an_outcome_is_unique.ensures;
      making = c.a_command_that_makes_commits_unless_refused.ensures;
      safe = c.a_crash_leaves_the_old_files_or_those_of_the_outcome.ensures;
    } in
    λ ignored first v events off is_durable good seen.
    seen_good c.a_state_shows_a_bad_intent.ensures.same c.each_name_keeps_old_recovered_or_new_bytes.ensures.commits facts ignored off first is_durable good v events seen

pub returns-clause-recovers : goal.returns-clause-recovers
returns-clause-recovers c =
    let facts : Facts = record {
      crash_durable = c.a_crash_leaves_a_durable_settled_tree.ensures.is_durable;
      crash_settled = c.a_crash_leaves_a_durable_settled_tree.ensures.settled;
      read_left = read_files_left;
      more_order = c.more_names_may_be_ignored.ensures.order;
      more_settled = c.more_names_may_be_ignored.ensures.settled;
      unique = c.an_outcome_is_unique.ensures;
      making = c.a_command_that_makes_commits_unless_refused.ensures;
      safe = c.a_crash_leaves_the_old_files_or_those_of_the_outcome.ensures;
    } in
    good_recovers facts

pub returns-clause-unrefused : goal.returns-clause-unrefused
returns-clause-unrefused c =
    let facts : Facts = record {
      crash_durable = c.a_crash_leaves_a_durable_settled_tree.ensures.is_durable;
      crash_settled = c.a_crash_leaves_a_durable_settled_tree.ensures.settled;
      read_left = read_files_left;
      more_order = c.more_names_may_be_ignored.ensures.order;
      more_settled = c.more_names_may_be_ignored.ensures.settled;
      unique = c.an_outcome_is_unique.ensures;
      making = c.a_command_that_makes_commits_unless_refused.ensures;
      safe = c.a_crash_leaves_the_old_files_or_those_of_the_outcome.ensures;
    } in
    good_unrefused facts c.only_a_bad_intent_is_refused_as_one.ensures
