use Rattle.std.proofs.Common.{◌≡◌, ◌∙◌, [], Ok, Err, ap, sym}
use Rattle.change_inputs.specs.Faults.{IsRefusedOf}
use Rattle.change_outcome.specs.PackageFiles.{package_unless_other_than_candidate}
use Rattle.change_inputs.specs.candidate_core.Values.{candidate_value}
use Rattle.change_outcome.specs.Arrivals.{IsPackageRead}
use Rattle.change_outcome.specs.NameReads.{package_of_candidate_by_path}
use Rattle.change_outcome.proofs.NameAnswers.{failure_answers, test_refused, then_refused, told_answers, tree_failed}
use Rattle.change_outcome.proofs.PackageAnswers.{absent_read, bad_read, sound_answer, sound_read}
use Rattle.change_outcome.proofs.package.read_beside.Goals as goal

pub returns-in_err-read_package-clause-found : goal.returns-in_err-read_package-clause-found
returns-in_err-read_package-clause-found g c =
    let h = g.T.Tree.history c.args.tree.now in
    failure_answers (IsPackageRead h) h (package_of_candidate_by_path (candidate_value c.args.c.now) c.args.path.now) (IsRefusedOf c.in_err-read_package.field-0.0) c.from_residual.result (tree_failed c.in_err-read_package.field-0.0) c.from_residual.ensures.1

pub returns-in-Absent-clause-found : goal.returns-in-Absent-clause-found
returns-in-Absent-clause-found g c =
    let h = g.T.Tree.history c.args.tree.now in
    told_answers (IsPackageRead h) h (package_of_candidate_by_path (candidate_value c.args.c.now) c.args.path.now) _ c.missing.result c.missing.ensures
    (absent_read h c.args.path.now (candidate_value c.args.c.now) _ c.in-Absent.is c.in_ok-read_package.ensures.read)

pub returns-in-Bad-clause-found : goal.returns-in-Bad-clause-found
returns-in-Bad-clause-found g c =
    let h = g.T.Tree.history c.args.tree.now in
    told_answers (IsPackageRead h) h (package_of_candidate_by_path (candidate_value c.args.c.now) c.args.path.now) _ c.bad.result c.bad.ensures
    (bad_read h c.args.path.now (candidate_value c.args.c.now) _ c.in-Bad.cause c.in-Bad.is c.in_ok-read_package.ensures.read)

pub returns-in_err-test_as_indexed-in-Sound-clause-found : goal.returns-in_err-test_as_indexed-in-Sound-clause-found
returns-in_err-test_as_indexed-in-Sound-clause-found g c =
    let h = g.T.Tree.history c.args.tree.now in
    let s = sound_read h c.args.path.now (candidate_value c.args.c.now) _ c.in-Sound.pkg c.in-Sound.is c.in_ok-read_package.ensures.read in
    test_refused {U = Unit {0}} (λ _. s.coming) (IsPackageRead h) h (package_of_candidate_by_path (candidate_value c.args.c.now) c.args.path.now) (package_of_candidate_by_path (candidate_value c.args.c.now) c.args.path.now) _ (package_unless_other_than_candidate (candidate_value c.args.c.now) s.coming) c.from_residual-in_err-test_as_indexed-in-Sound.result _
    c.from_residual-in_err-test_as_indexed-in-Sound.ensures.1 s.by (c.in_err-test_as_indexed-in-Sound.ensures s.coming s.value s.id)
    (λ read n refusal is test. is ∙ test)

pub returns-in_err-test_as_indexed-in-Sound-clause-tree : goal.returns-in_err-test_as_indexed-in-Sound-clause-tree
returns-in_err-test_as_indexed-in-Sound-clause-tree g c =
    let s = sound_read (g.T.Tree.history c.args.tree.now) c.args.path.now (candidate_value c.args.c.now) _ c.in-Sound.pkg c.in-Sound.is c.in_ok-read_package.ensures.read in
    then_refused {U = Unit {0}} (λ _. s.coming) (package_unless_other_than_candidate (candidate_value c.args.c.now) s.coming) _ _ _ _ _ _ _ _ c.from_residual-in_err-test_as_indexed-in-Sound.ensures.1
    (c.in_err-test_as_indexed-in-Sound.ensures s.coming s.value s.id) c.in_ok-read_package.ensures.tree

pub returns-in_ok-test_as_indexed-in-Sound-clause-found : goal.returns-in_ok-test_as_indexed-in-Sound-clause-found
returns-in_ok-test_as_indexed-in-Sound-clause-found g c =
    let h = g.T.Tree.history c.args.tree.now in
    let s = sound_read h c.args.path.now (candidate_value c.args.c.now) _ c.in-Sound.pkg c.in-Sound.is c.in_ok-read_package.ensures.read in
    sound_answer h c.args.path.now (candidate_value c.args.c.now) c.in-Sound.pkg s (c.in_ok-test_as_indexed-in-Sound.ensures s.coming s.value s.id)
