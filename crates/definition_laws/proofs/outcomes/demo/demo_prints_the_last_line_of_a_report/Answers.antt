use Rattle.definition_laws.proofs.outcomes.DemoLine.{line_printed}
use Rattle.definition_laws.proofs.outcomes.demo.demo_prints_the_last_line_of_a_report.Goals as goal

pub returns : goal.returns
returns c = line_printed
