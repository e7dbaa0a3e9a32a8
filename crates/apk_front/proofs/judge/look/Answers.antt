use Rattle.std.proofs.Common.{refl, sym, ◌∙◌}
use Rattle.command_core.specs.declared.command.Applet.TheVariants.{Adbdump, Adbgen, Verify}
use Rattle.outcome.specs.Dump.{adbdump}
use Rattle.outcome.specs.Generate.{adbgen}
use Rattle.outcome.specs.Verify.{verify}
use Rattle.apk_front.proofs.Carried.{help_ran, nothing_ran, ran_by_words, version_ran}
use Rattle.apk_front.proofs.Judged.{ran_version}
use Rattle.apk_front.proofs.ReadingRuns.{looked, over_operands, ran}
use Rattle.apk_front.proofs.judge.look.Goals as goal

pub returns-in_ok-text-in-Help-clause-run : goal.returns-in_ok-text-in-Help-clause-run
returns-in_ok-text-in-Help-clause-run g c = ran _ _ c.args.command.now c.reported.result (help_ran c.args.command.now c.applet.result c.operands-in-Help.result.now c.in_ok-text-in-Help.text c.reported.result c.applet.ensures.value c.in-Help.is c.operands-in-Help.ensures.value c.in_ok-text-in-Help.ensures c.reported.ensures)

pub returns-in_ok-text-in-Help-clause-by_arguments : goal.returns-in_ok-text-in-Help-clause-by_arguments
returns-in_ok-text-in-Help-clause-by_arguments g c = λ rests. record { by_words = ran_by_words c.args.command.now c.reported.result (help_ran c.args.command.now c.applet.result c.operands-in-Help.result.now c.in_ok-text-in-Help.text c.reported.result c.applet.ensures.value c.in-Help.is c.operands-in-Help.ensures.value c.in_ok-text-in-Help.ensures c.reported.ensures); untouched = refl }

pub returns-in_ok-text-in-ProgramVersion-clause-run : goal.returns-in_ok-text-in-ProgramVersion-clause-run
returns-in_ok-text-in-ProgramVersion-clause-run g c = ran _ _ c.args.command.now c.reported-in-ProgramVersion.result (version_ran c.args.command.now c.applet.result c.in_ok-text-in-ProgramVersion.text c.reported-in-ProgramVersion.result c.applet.ensures.value c.in-ProgramVersion.is c.in_ok-text-in-ProgramVersion.ensures c.reported-in-ProgramVersion.ensures)

pub returns-in_ok-text-in-ProgramVersion-clause-by_arguments : goal.returns-in_ok-text-in-ProgramVersion-clause-by_arguments
returns-in_ok-text-in-ProgramVersion-clause-by_arguments g c = λ rests. record { by_words = ran_by_words c.args.command.now c.reported-in-ProgramVersion.result (version_ran c.args.command.now c.applet.result c.in_ok-text-in-ProgramVersion.text c.reported-in-ProgramVersion.result c.applet.ensures.value c.in-ProgramVersion.is c.in_ok-text-in-ProgramVersion.ensures c.reported-in-ProgramVersion.ensures); untouched = refl }

pub returns-in_default-clause-run : goal.returns-in_default-clause-run
returns-in_default-clause-run g c = ran _ _ c.args.command.now c.empty.result (nothing_ran c.args.command.now c.applet.result c.empty.result c.applet.ensures.value (c.in_default.not-Verify, c.in_default.not-Version, c.in_default.not-Help, c.in_default.not-ProgramVersion, c.in_default.not-Adbdump, c.in_default.not-Adbgen) c.requires c.empty.ensures)

pub returns-in_default-clause-by_arguments : goal.returns-in_default-clause-by_arguments
returns-in_default-clause-by_arguments g c = λ rests. record { by_words = ran_by_words c.args.command.now c.empty.result (nothing_ran c.args.command.now c.applet.result c.empty.result c.applet.ensures.value (c.in_default.not-Verify, c.in_default.not-Version, c.in_default.not-Help, c.in_default.not-ProgramVersion, c.in_default.not-Adbdump, c.in_default.not-Adbgen) c.requires c.empty.ensures); untouched = refl }

pub returns-in_ok-verdict-in-Version-clause-run : goal.returns-in_ok-verdict-in-Version-clause-run
returns-in_ok-verdict-in-Version-clause-run g c = ran _ _ c.args.command.now c.in_ok-verdict-in-Version.verdict (ran_version c.args.command.now _ _ _ c.in_ok-verdict-in-Version.verdict c.applet.ensures.value c.in-Version.is c.flags.ensures.value c.operands-in-Version.ensures.value c.in_ok-verdict-in-Version.ensures)

pub returns-in_ok-verdict-in-Version-clause-by_arguments : goal.returns-in_ok-verdict-in-Version-clause-by_arguments
returns-in_ok-verdict-in-Version-clause-by_arguments g c = λ rests. record { by_words = ran_by_words c.args.command.now c.in_ok-verdict-in-Version.verdict (ran_version c.args.command.now _ _ _ c.in_ok-verdict-in-Version.verdict c.applet.ensures.value c.in-Version.is c.flags.ensures.value c.operands-in-Version.ensures.value c.in_ok-verdict-in-Version.ensures); untouched = refl }

pub returns-in-Verify-clause-run : goal.returns-in-Verify-clause-run
returns-in-Verify-clause-run g c =
    looked c.args.command.now Verify _ _ _ _ c.verify.result (sym c.applet.ensures.value ∙ c.in-Verify.is)
    (over_operands (λ os read files. verify read files os) _ _ _ _ _ _ c.verify.result c.operands.ensures.value c.verify.ensures)

pub returns-in-Adbdump-clause-run : goal.returns-in-Adbdump-clause-run
returns-in-Adbdump-clause-run g c =
    looked c.args.command.now Adbdump _ _ _ _ c.adbdump.result (sym c.applet.ensures.value ∙ c.in-Adbdump.is)
    (over_operands (λ os read files. adbdump read files os) _ _ _ _ _ _ c.adbdump.result c.operands-in-Adbdump.ensures.value c.adbdump.ensures)

pub returns-in-Adbgen-clause-run : goal.returns-in-Adbgen-clause-run
returns-in-Adbgen-clause-run g c =
    looked c.args.command.now Adbgen _ _ _ _ c.adbgen.result (sym c.applet.ensures.value ∙ c.in-Adbgen.is)
    (over_operands (λ os read files. adbgen read files os) _ _ _ _ _ _ c.adbgen.result c.operands-in-Adbgen.ensures.value c.adbgen.ensures)
