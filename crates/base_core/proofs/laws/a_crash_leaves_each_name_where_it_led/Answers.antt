use Rattle.base_core.proofs.Undone.{left_leads, left_only}
use Rattle.base_core.proofs.laws.a_crash_leaves_each_name_where_it_led.Goals as goal

pub returns-clause-leads : goal.returns-clause-leads
returns-clause-leads c = left_leads

pub returns-clause-one_map : goal.returns-clause-one_map
returns-clause-one_map c = left_only
