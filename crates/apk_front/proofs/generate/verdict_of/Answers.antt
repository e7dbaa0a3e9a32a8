use Rattle.std.proofs.Common.{ap, ◌∙◌}
use Rattle.base_core.specs.Read.{bytes_in}
use Rattle.outcome.specs.Outcome.{just_report}
use Rattle.apk_front.proofs.Generating.{gen_bad, gen_good, gen_large, gen_missing}
use Rattle.apk_front.proofs.generate.verdict_of.Goals as goal

pub returns-in_default : goal.returns-in_default
returns-in_default c = gen_missing c.args.place (bytes_in c.args.found.now) c.refused.result (ap bytes_in c.in_default.is) c.refused.ensures

pub returns-in-Ok : goal.returns-in-Ok
returns-in-Ok c =
    gen_good c.args.place (bytes_in c.args.found.now) c.in-Some.text.items c.deref.result.now c.reported.result (ap bytes_in c.in-Some.is) c.deref.ensures.value _ c.in-Ok.ensures.ok
    (λ files. c.reported.ensures files ∙ ap (just_report files) c.from_vec.ensures)

pub returns-in-Err-Bad : goal.returns-in-Err-Bad
returns-in-Err-Bad c =
    gen_bad c.args.place (bytes_in c.args.found.now) c.in-Some.text.items c.deref.result.now c.refused-in-Err-Bad.result (ap bytes_in c.in-Some.is) c.deref.ensures.value _ _ _ c.in-Err-Bad.line-is c.in-Err-Bad.field-0-is c.in-Err-Bad.ensures.err c.refused-in-Err-Bad.ensures

pub returns-in-Err-TooLarge : goal.returns-in-Err-TooLarge
returns-in-Err-TooLarge c =
    gen_large c.args.place (bytes_in c.args.found.now) c.in-Some.text.items c.deref.result.now c.refused-in-Err-TooLarge.result (ap bytes_in c.in-Some.is) c.deref.ensures.value _ _ _ _ _ c.in-Err-TooLarge.bytes-is c.in-Err-TooLarge.values-is c.in-Err-TooLarge.field-0-is c.in-Err-TooLarge.ensures.err c.refused-in-Err-TooLarge.ensures
