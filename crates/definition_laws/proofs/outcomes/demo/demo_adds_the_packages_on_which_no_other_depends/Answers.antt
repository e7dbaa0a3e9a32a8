use Rattle.definition_laws.proofs.outcomes.DemoLine.{added}
use Rattle.definition_laws.proofs.outcomes.demo.demo_adds_the_packages_on_which_no_other_depends.Goals as goal

pub returns : goal.returns
returns c = added
