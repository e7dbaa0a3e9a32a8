use Rattle.run_lists.proofs.Facts.{Facts}
use Rattle.run_lists.proofs.Moments.{seen_done}
use Rattle.base_core.proofs.Undone.{read_files_left}
use Rattle.run_lists.proofs.laws.the_actions_of_an_intent_are_durably_done.Goals as goal

pub returns : goal.returns
returns c =
    let facts : Facts = record {
      crash_durable = c.a_crash_leaves_a_durable_settled_tree.ensures.is_durable;
      crash_settled = c.a_crash_leaves_a_durable_settled_tree.ensures.settled;
      read_left = read_files_left;
      more_order = c.more_names_may_be_ignored.ensures.order;
      more_settled = c.more_names_may_be_ignored.ensures.settled;
      unique = c.an_outcome_is_unique.ensures;
      making = c.a_command_that_makes_commits_unless_refused.ensures;
      safe = c.a_crash_leaves_the_old_files_or_those_of_the_outcome.ensures;
    } in
    seen_done facts
