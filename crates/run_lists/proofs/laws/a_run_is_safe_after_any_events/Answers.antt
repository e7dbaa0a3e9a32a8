use Rattle.run_lists.proofs.Along.{seen_atomic, seen_begins, seen_one, seen_durable, seen_safe, unbroken}
use Rattle.run_lists.proofs.Facts.{Facts}
use Rattle.run_lists.proofs.Names.{none_ignored}
use Rattle.base_core.proofs.Undone.{read_files_left}
use Rattle.run_lists.proofs.laws.a_run_is_safe_after_any_events.Goals as goal

pub returns-clause-is_durable : goal.returns-clause-is_durable
returns-clause-is_durable c =
    let facts : Facts = record {
      crash_durable = c.a_crash_leaves_a_durable_settled_tree.ensures.is_durable;
      crash_settled = c.a_crash_leaves_a_durable_settled_tree.ensures.settled;
      read_left = read_files_left;
      more_order = c.more_names_may_be_ignored.ensures.order;
      more_settled = c.more_names_may_be_ignored.ensures.settled;
      unique = c.an_outcome_is_unique.ensures;
      making = c.a_command_that_makes_commits_unless_refused.ensures;
      safe = c.a_crash_leaves_the_old_files_or_those_of_the_outcome.ensures;
    } in
    λ ignored first v events off is_durable seen. seen_durable facts ignored off first v events is_durable seen

pub returns-clause-begins : goal.returns-clause-begins
returns-clause-begins c =
    let facts : Facts = record {
      crash_durable = c.a_crash_leaves_a_durable_settled_tree.ensures.is_durable;
      crash_settled = c.a_crash_leaves_a_durable_settled_tree.ensures.settled;
      read_left = read_files_left;
      more_order = c.more_names_may_be_ignored.ensures.order;
      more_settled = c.more_names_may_be_ignored.ensures.settled;
      unique = c.an_outcome_is_unique.ensures;
      making = c.a_command_that_makes_commits_unless_refused.ensures;
      safe = c.a_crash_leaves_the_old_files_or_those_of_the_outcome.ensures;
    } in
    λ ignored first v events words off is_durable seen. seen_begins facts ignored off first v events words is_durable seen

pub returns-clause-ordinary : goal.returns-clause-ordinary
returns-clause-ordinary c = none_ignored

pub returns-clause-safe : goal.returns-clause-safe
returns-clause-safe c =
    let facts : Facts = record {
      crash_durable = c.a_crash_leaves_a_durable_settled_tree.ensures.is_durable;
      crash_settled = c.a_crash_leaves_a_durable_settled_tree.ensures.settled;
      read_left = read_files_left;
      more_order = c.more_names_may_be_ignored.ensures.order;
      more_settled = c.more_names_may_be_ignored.ensures.settled;
      unique = c.an_outcome_is_unique.ensures;
      making = c.a_command_that_makes_commits_unless_refused.ensures;
      safe = c.a_crash_leaves_the_old_files_or_those_of_the_outcome.ensures;
    } in
    λ v run is_run ignored first events off is_durable seen. seen_safe facts ignored off first v events is_durable seen run is_run

pub returns-clause-one_state : goal.returns-clause-one_state
returns-clause-one_state c =
    let facts : Facts = record {
      crash_durable = c.a_crash_leaves_a_durable_settled_tree.ensures.is_durable;
      crash_settled = c.a_crash_leaves_a_durable_settled_tree.ensures.settled;
      read_left = read_files_left;
      more_order = c.more_names_may_be_ignored.ensures.order;
      more_settled = c.more_names_may_be_ignored.ensures.settled;
      unique = c.an_outcome_is_unique.ensures;
      making = c.a_command_that_makes_commits_unless_refused.ensures;
      safe = c.a_crash_leaves_the_old_files_or_those_of_the_outcome.ensures;
    } in
    λ ignored first v events off rest seen. seen_one facts ignored off first rest v events seen

pub returns-clause-without_pending_run : goal.returns-clause-without_pending_run
returns-clause-without_pending_run c = unbroken

pub returns-clause-atomic : goal.returns-clause-atomic
returns-clause-atomic c =
    let facts : Facts = record {
      crash_durable = c.a_crash_leaves_a_durable_settled_tree.ensures.is_durable;
      crash_settled = c.a_crash_leaves_a_durable_settled_tree.ensures.settled;
      read_left = read_files_left;
      more_order = c.more_names_may_be_ignored.ensures.order;
      more_settled = c.more_names_may_be_ignored.ensures.settled;
      unique = c.an_outcome_is_unique.ensures;
      making = c.a_command_that_makes_commits_unless_refused.ensures;
      safe = c.a_crash_leaves_the_old_files_or_those_of_the_outcome.ensures;
    } in
    λ v run is_run ignored first events off rest seen. seen_atomic facts ignored off first rest v events seen run is_run
