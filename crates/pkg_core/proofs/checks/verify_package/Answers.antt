-- By its values, and then by its files.
use Rattle.pkg_core.proofs.Steps.{files_good, files_refused, values_refused}
use Rattle.pkg_core.proofs.checks.verify_package.Goals as goal

pub returns-in_err-pkg-clause-bad : goal.returns-in_err-pkg-clause-bad
returns-in_err-pkg-clause-bad c = values_refused _ _ _ c.from_residual.ensures.1 c.in_err-pkg.ensures.bad

pub returns-in_err-check_files-clause-bad : goal.returns-in_err-check_files-clause-bad
returns-in_err-check_files-clause-bad c = files_refused _ c.in_err-check_files.field-0.0 _ _ c.from_residual-in_err-check_files.ensures.1 c.in_ok-pkg.ensures.sound c.in_ok-pkg.ensures.files c.in_err-check_files.ensures

pub returns-clause-sound : goal.returns-clause-sound
returns-clause-sound c = files_good _ _ c.in_ok-pkg.ensures.sound c.in_ok-pkg.ensures.files c.in_ok-check_files.ensures
