use Rattle.own_core.proofs.AfterNames.{names_after}
use Rattle.own_core.proofs.laws.the_files_after_a_change_are_under_its_names.Goals as goal

pub returns : goal.returns
returns c = names_after
