use Rattle.own_core.proofs.AfterNames.{name_goes, name_stands}
use Rattle.own_core.proofs.laws.the_names_after_a_change_are_those_of_its_files.Goals as goal

pub returns-clause-located : goal.returns-clause-located
returns-clause-located c = name_stands

pub returns-clause-gone : goal.returns-clause-gone
returns-clause-gone c = name_goes
