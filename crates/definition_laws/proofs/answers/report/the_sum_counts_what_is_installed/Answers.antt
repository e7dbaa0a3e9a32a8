use Rattle.definition_laws.proofs.answers.ReportParts.{made_sum, simulated_sum}
use Rattle.definition_laws.proofs.answers.report.the_sum_counts_what_is_installed.Goals as goal

pub returns : goal.returns
returns c = record { simulated = simulated_sum; made = made_sum }
