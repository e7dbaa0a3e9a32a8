use Rattle.std.proofs.Common.{◌≡◌, ◌∙◌, true, Ok, Err, ap, sym}
use Rattle.change_outcome.specs.PackageFiles.{scripts_of_change, unless_script_needed}
use Rattle.package_changes.specs.Seen.{change_seen}
use Rattle.change_inputs.specs.candidate_core.Values.{candidate_value}
use Rattle.change_outcome.specs.Arrivals.{IsPackageRead}
use Rattle.change_outcome.specs.NameReads.{package_of_candidate_by_read, added_package_read}
use Rattle.package_verifier.specs.Tested.{tested_value}
use Rattle.change_outcome.proofs.NameAnswers.{answer_handed, part_refused, test_refused}
use Rattle.change_outcome.proofs.PackageAnswers.{passed_scripts, refused_before, refused_by_script}
use Rattle.change_outcome.proofs.package.read_added.Goals as goal

pub returns-in_err-pkg-clause-found : goal.returns-in_err-pkg-clause-found
returns-in_err-pkg-clause-found g c =
    let h = g.T.Tree.history c.args.tree.now in
    let whole = added_package_read c.args.repositories.now c.args.no_scripts c.args.name.now (change_seen c.args.change.now) (candidate_value c.args.c.now) in
    answer_handed (IsPackageRead h) h whole c.from_residual.result c.in_err-pkg.field-0.0 c.from_residual.ensures.1
    (part_refused (IsPackageRead h) (IsPackageRead h) h (package_of_candidate_by_read c.args.repositories.now (candidate_value c.args.c.now)) whole c.in_err-pkg.field-0.0
    (refused_before c.args.repositories.now c.args.no_scripts c.args.name.now (change_seen c.args.change.now) (candidate_value c.args.c.now))
    c.in_err-pkg.ensures.found)

pub returns-in_err-test_own_scripts-clause-found : goal.returns-in_err-test_own_scripts-clause-found
returns-in_err-test_own_scripts-clause-found g c =
    let h = g.T.Tree.history c.args.tree.now in
    let part = package_of_candidate_by_read c.args.repositories.now (candidate_value c.args.c.now) in
    let whole = added_package_read c.args.repositories.now c.args.no_scripts c.args.name.now (change_seen c.args.change.now) (candidate_value c.args.c.now) in
    let found = c.in_ok-pkg.ensures.found in
    test_refused {U = Unit {0}} (λ _. true) (IsPackageRead h) h part whole (Ok found.0) (unless_script_needed c.args.no_scripts c.args.name.now (tested_value c.in_ok-pkg.pkg) (scripts_of_change (change_seen c.args.change.now)) true)
    c.from_residual-in_err-test_own_scripts.result c.in_err-test_own_scripts.field-0.0 c.from_residual-in_err-test_own_scripts.ensures.1 found.1 c.in_err-test_own_scripts.ensures
    (refused_by_script c.args.repositories.now c.args.no_scripts c.args.name.now (change_seen c.args.change.now) (candidate_value c.args.c.now) h c.in_ok-pkg.pkg found.0 found.2)

pub returns-clause-found : goal.returns-clause-found
returns-clause-found g c =
    let h = g.T.Tree.history c.args.tree.now in
    let found = c.in_ok-pkg.ensures.found in (
      found.0,
      passed_scripts c.args.repositories.now c.args.no_scripts c.args.name.now (change_seen c.args.change.now) (candidate_value c.args.c.now) h c.in_ok-pkg.pkg found.0 found.2 c.in_ok-test_own_scripts.ensures found.1,
      found.2,
    )
