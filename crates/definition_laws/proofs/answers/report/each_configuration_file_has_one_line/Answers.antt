use Rattle.definition_laws.proofs.answers.ReportParts.{configured}
use Rattle.definition_laws.proofs.answers.report.each_configuration_file_has_one_line.Goals as goal

pub returns : goal.returns
returns c = configured
