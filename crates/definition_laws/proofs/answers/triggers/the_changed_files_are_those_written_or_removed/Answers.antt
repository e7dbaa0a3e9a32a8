use Rattle.definition_laws.proofs.answers.TouchedPaths.{touched_are}
use Rattle.definition_laws.proofs.answers.triggers.the_changed_files_are_those_written_or_removed.Goals as goal

pub returns : goal.returns
returns c = touched_are c.the_lists_of_a_plan_hold_just_its_names.ensures.written c.the_lists_of_a_plan_hold_just_its_names.ensures.removed
