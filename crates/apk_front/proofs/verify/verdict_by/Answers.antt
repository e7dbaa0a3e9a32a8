use Rattle.std.proofs.Common.{ap, sym, ◌∙◌, Option}
use Rattle.outcome.specs.Outcome.{just_report, just_report_unless_refusal}
use Rattle.outcome.specs.Verify.{sound_lines}
use Rattle.report_core.specs.declared.refusal.Refusal.{Refusal}
use Rattle.apk_front.proofs.verify.verdict_by.Goals as goal

pub returns-in-Some : goal.returns-in-Some
returns-in-Some c = λ files. c.refused.ensures files ∙ ap (λ (r : Option Refusal). just_report_unless_refusal files r (sound_lines c.args.operands.now)) (sym c.in-Some.is)

pub returns-in_ok-lines-in-None : goal.returns-in_ok-lines-in-None
returns-in_ok-lines-in-None c = λ files. c.reported.ensures files ∙ (ap (just_report files) c.in_ok-lines-in-None.ensures ∙ ap (λ (r : Option Refusal). just_report_unless_refusal files r (sound_lines c.args.operands.now)) (sym c.in-None.is))
