use Rattle.std.proofs.Common.{ap, sym, ◌∙◌}
use Rattle.outcome.specs.Outcome.{just_report}
use Rattle.outcome.specs.Version.{order_line}
use Rattle.version_core.specs.Order.{is_version}
use Rattle.apk_front.proofs.Operands.{two_of, first_bad, second_bad, both_good, cmp_same}
use Rattle.apk_front.proofs.version.compare.Goals as goal

pub returns-in_default : goal.returns-in_default
returns-in_default c = λ files. c.refused.ensures files ∙ sym (first_bad c.args.operands.now _ _ (two_of _ _ _ c.requires c.get-first.ensures c.get-second.ensures)
    (ap is_version (sym c.as_bytes.ensures) ∙ sym c.in_default.ensures.when) files)

pub returns-in_default-read : goal.returns-in_default-read
returns-in_default-read c = λ files. c.refused-in_default-read.ensures files ∙ sym (second_bad c.args.operands.now _ _ (two_of _ _ _ c.requires c.get-first.ensures c.get-second.ensures)
    (ap is_version (sym c.as_bytes.ensures) ∙ sym c.in-Some.ensures.when) (ap is_version (sym c.as_bytes-2.ensures) ∙ sym c.in_default-read.ensures.when) files)

pub returns : goal.returns
returns c = λ files. c.reported.ensures files
    ∙ (ap (just_report files) (c.in_ok-of.ensures ∙ (c.order_line-line.ensures ∙ ap order_line (c.compare.ensures ∙ cmp_same _ _ _ _ (c.in-Some.ensures.value ∙ c.as_bytes.ensures) (c.in-Some-read.ensures.value ∙ c.as_bytes-2.ensures))))
    ∙ sym (both_good c.args.operands.now _ _ (two_of _ _ _ c.requires c.get-first.ensures c.get-second.ensures)
    (ap is_version (sym c.as_bytes.ensures) ∙ sym c.in-Some.ensures.when) (ap is_version (sym c.as_bytes-2.ensures) ∙ sym c.in-Some-read.ensures.when) files))
