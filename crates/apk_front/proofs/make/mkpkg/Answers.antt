use Rattle.std.proofs.Common.{◌∙◌}
use Rattle.base_core.proofs.Counting.{no_fault_twice}
use Rattle.base_core.proofs.OneList.{names_one}
use Rattle.make_core.proofs.make_info.OutputFacts.{package_output_there}
use Rattle.apk_front.proofs.Containers.{package_outcomes, package_output, package_read, proper_by, runs, reports_one}
use Rattle.apk_front.proofs.NothingFailed.{counted_both}
use Rattle.apk_front.proofs.Runs.{refused_behind}
use Rattle.apk_front.proofs.make.mkpkg.Goals as goal

pub finish-requires-clause-output : goal.finish-requires-clause-output
finish-requires-clause-output g c = package_output c.args.command.now c.package-container.result c.package-container.ensures.found (package_output_there c.args.command.now c.requires.applet)

pub returns-clause-found : goal.returns-clause-found
returns-clause-found g c =
    reports_one _ _ _ _ (package_outcomes names_one c.args.command.now _ (c.from_vec-report.ensures ∙ c.new.ensures.items)) c.package-container.result c.finish.result _ c.package-container.ensures.made c.finish.ensures.done c.finish.ensures.reported

pub returns-clause-by_reads : goal.returns-clause-by_reads
returns-clause-by_reads g c =
    package_read c.args.command.now _ c.package-container.result c.finish.result (c.from_vec-report.ensures ∙ c.new.ensures.items) c.package-container.ensures.found c.finish.ensures.done c.finish.ensures.reported

pub returns-clause-run : goal.returns-clause-run
returns-clause-run g c = record {
  tree = runs _ _ _ _ (package_outcomes names_one c.args.command.now _ (c.from_vec-report.ensures ∙ c.new.ensures.items)) c.package-container.result c.finish.result _ _ _ c.package-container.ensures.tree.same c.package-container.ensures.made c.finish.ensures.done c.finish.ensures.cut c.finish.ensures.run.tree;
  refused = refused_behind c.finish.result _ _ _ c.package-container.ensures.tree.same c.finish.ensures.run.refused;
  undone = λ none. c.finish.ensures.run.undone none ∙ c.package-container.ensures.tree.same;
}

pub returns-clause-proper : goal.returns-clause-proper
returns-clause-proper g c =
    proper_by _ _ _ _ (package_outcomes names_one c.args.command.now _ (c.from_vec-report.ensures ∙ c.new.ensures.items)) c.package-container.result _ _ _ _ _ c.package-container.ensures.tree.same c.package-container.ensures.made c.package-container.ensures.tree.proper c.finish.ensures.proper

pub returns-clause-counts : goal.returns-clause-counts
returns-clause-counts g c =
    counted_both no_fault_twice c.package-container.result c.finish.result _ _ _ _ _ c.package-container.ensures.tree c.finish.ensures.done c.finish.ensures.lost c.finish.ensures.goes_on c.finish.ensures.disk c.finish.ensures.kept c.finish.ensures.memory
