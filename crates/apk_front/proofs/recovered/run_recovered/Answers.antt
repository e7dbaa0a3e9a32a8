use Rattle.std.proofs.Common.{◌∙◌, sym}
use Rattle.outcome.specs.Effect.{effect_of}
use Rattle.apk_front.proofs.Changing.{change_applet}
use Rattle.apk_front.proofs.Carried.{index_found_one, index_proper, index_read_one, index_run, package_found_one, package_proper, package_read_one, package_run, undone_anyway}
use Rattle.apk_front.proofs.OutcomeOfReport.{tell_applet}
use Rattle.apk_front.proofs.Promised.{changes_not_mkndx, changes_not_mkpkg, changes_not_told}
use Rattle.apk_front.proofs.recovered.run_recovered.Goals as goal

pub returns-in-Mkpkg-clause-run : goal.returns-in-Mkpkg-clause-run
returns-in-Mkpkg-clause-run g c =
    let is = sym c.in-Mkpkg.is ∙ c.applet.ensures.value in
    record {
      found = package_found_one c.args.command.now _ c.mkpkg.result is c.mkpkg.ensures.found;
      by_reads = package_read_one c.args.command.now c.mkpkg.result is c.mkpkg.ensures.by_reads;
      tree = package_run c.args.command.now c.mkpkg.result _ _ is c.mkpkg.ensures.run.tree;
      undone = undone_anyway _ _ c.mkpkg.ensures.run.undone;
      counts = c.mkpkg.ensures.counts;
      proper = package_proper c.args.command.now _ _ is c.mkpkg.ensures.proper;
    }

pub returns-in-Mkndx-clause-run : goal.returns-in-Mkndx-clause-run
returns-in-Mkndx-clause-run g c =
    let is = sym c.in-Mkndx.is ∙ c.applet.ensures.value in
    record {
      found = index_found_one c.args.command.now _ c.mkndx.result is c.mkndx.ensures.found;
      by_reads = index_read_one c.args.command.now c.mkndx.result is c.mkndx.ensures.by_reads;
      tree = index_run c.args.command.now c.mkndx.result _ _ is c.mkndx.ensures.run.tree;
      undone = undone_anyway _ _ c.mkndx.ensures.run.undone;
      counts = c.mkndx.ensures.counts;
      proper = index_proper c.args.command.now _ _ is c.mkndx.ensures.proper;
    }

pub report-requires : goal.report-requires
report-requires g c = tell_applet c.args.command.now c.applet.result c.applet.ensures.value c.in-Info.is

pub change_root-requires : goal.change_root-requires
change_root-requires g c = change_applet c.args.command.now c.applet.result c.applet.ensures.value c.in-Add.is

pub returns-in-Mkpkg-clause-promised : goal.returns-in-Mkpkg-clause-promised
returns-in-Mkpkg-clause-promised g c = λ changes. absurd (changes_not_mkpkg c.args.command.now.applet (sym c.applet.ensures.value ∙ c.in-Mkpkg.is) changes)

pub returns-in-Mkndx-clause-promised : goal.returns-in-Mkndx-clause-promised
returns-in-Mkndx-clause-promised g c = λ changes. absurd (changes_not_mkndx c.args.command.now.applet (sym c.applet.ensures.value ∙ c.in-Mkndx.is) changes)

pub returns-in-Info-clause-promised : goal.returns-in-Info-clause-promised
returns-in-Info-clause-promised g c = λ changes.
    absurd (changes_not_told (effect_of c.args.command.now.applet) (tell_applet c.args.command.now c.applet.result c.applet.ensures.value c.in-Info.is) changes)
