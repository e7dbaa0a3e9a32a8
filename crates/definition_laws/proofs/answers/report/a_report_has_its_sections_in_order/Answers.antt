use Rattle.definition_laws.proofs.answers.ReportParts.{made_sections, simulated_sections}
use Rattle.definition_laws.proofs.answers.report.a_report_has_its_sections_in_order.Goals as goal

pub returns : goal.returns
returns c = record { simulated = simulated_sections; made = made_sections }
