use Rattle.headline.proofs.Ended.{ended}
use Rattle.headline.proofs.Promised.{promised}
use Rattle.headline.proofs.sentence.the_sentence_holds.Goals as goal

pub returns : goal.returns
returns c =
    let safe = c.a_run_is_safe_after_any_events.ensures in
    let stopped = c.a_stopped_run_is_recovered.ensures in
    let recovers = c.a_command_recovers.ensures in
    promised safe.begins safe.safe safe.one_state safe.without_pending_run stopped.left stopped.two c.more_names_may_be_ignored.ensures.settled c.an_outcome_is_unique.ensures
    (ended recovers.recovers recovers.bad recovers.works c.the_packages_after_a_run_are_those_of_the_first_selection.ensures c.a_change_takes_the_first_selection_or_is_refused.ensures.words c.a_refused_run_has_its_fault.ensures.words)
