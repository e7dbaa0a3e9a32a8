use Rattle.definition_laws.proofs.answers.DroppedLines.{packages_are}
use Rattle.definition_laws.proofs.answers.letters.each_record_is_a_package_in_order.Goals as goal

pub returns : goal.returns
returns c = packages_are
