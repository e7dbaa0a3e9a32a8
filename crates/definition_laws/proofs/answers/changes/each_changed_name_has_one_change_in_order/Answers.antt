use Rattle.definition_laws.proofs.answers.Reported.{changes_rise, each_change}
use Rattle.definition_laws.proofs.answers.changes.each_changed_name_has_one_change_in_order.Goals as goal

pub returns : goal.returns
returns c = record { each = each_change; order = changes_rise }
