use Rattle.std.proofs.Common.{sym, ap, ◌∙◌}
use Rattle.outcome.specs.Outcome.{just_report_unless_refusal}
use Rattle.apk_front.proofs.demo.unless_refused.Goals as goal

pub returns-in-Some : goal.returns-in-Some
returns-in-Some c = λ files. c.refused.ensures files ∙ ap (λ r. just_report_unless_refusal files r c.args.report) (sym c.in-Some.is)

pub returns-in-None : goal.returns-in-None
returns-in-None c = λ files. c.reported.ensures files ∙ ap (λ r. just_report_unless_refusal files r c.args.report) (sym c.in-None.is)
