use Rattle.std.proofs.Common.{◌≡◌, ◌∙◌, Some, None, Ok, Err, ap, sym}
use Rattle.change_outcome.specs.MembersAfter.{added_package_by_path}
use Rattle.change_inputs.specs.candidate_core.Values.{candidate_value}
use Rattle.change_outcome.specs.Arrivals.{IsPackageRead}
use Rattle.change_outcome.specs.NameReads.{package_of_candidate_by_read, package_of_candidate_by_path}
use Rattle.change_outcome.proofs.NameAnswers.{by_any_read, failure_answers, no_memory, same_answer, told_answers}
use Rattle.change_outcome.proofs.package.read_candidate.Goals as goal

pub returns-in_err-package_file_path_of_candidate-clause-found : goal.returns-in_err-package_file_path_of_candidate-clause-found
returns-in_err-package_file_path_of_candidate-clause-found g c =
    let h = g.T.Tree.history c.args.tree.now in
    failure_answers (IsPackageRead h) h (package_of_candidate_by_read c.args.repositories.now (candidate_value c.args.c.now)) _ c.from_residual.result no_memory c.from_residual.ensures.1

pub returns-in-None-clause-found : goal.returns-in-None-clause-found
returns-in-None-clause-found g c =
    let h = g.T.Tree.history c.args.tree.now in
    told_answers (IsPackageRead h) h (package_of_candidate_by_read c.args.repositories.now (candidate_value c.args.c.now)) _ c.missing.result c.missing.ensures
    (by_any_read h _ _ (λ read n. ap (added_package_by_path read n (candidate_value c.args.c.now)) (sym c.in_ok-package_file_path_of_candidate.ensures ∙ c.in-None.is)))

pub returns-in-Some-clause-found : goal.returns-in-Some-clause-found
returns-in-Some-clause-found g c =
    let h = g.T.Tree.history c.args.tree.now in
    same_answer (IsPackageRead h) h (package_of_candidate_by_path (candidate_value c.args.c.now) c.in-Some.path) (package_of_candidate_by_read c.args.repositories.now (candidate_value c.args.c.now)) c.read_beside.result
    (λ read n. ap (added_package_by_path read n (candidate_value c.args.c.now)) (sym c.in_ok-package_file_path_of_candidate.ensures ∙ c.in-Some.is))
    c.read_beside.ensures.found
