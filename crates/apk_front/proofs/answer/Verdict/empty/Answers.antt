use Rattle.std.proofs.Common.{◌∙◌, ap}
use Rattle.outcome.specs.Outcome.{just_report}
use Rattle.apk_front.proofs.answer.Verdict.empty.Goals as goal

pub returns : goal.returns
returns c = λ files. c.reported.ensures files ∙ ap (just_report files) (c.from_vec.ensures ∙ c.new.ensures.items)
