-- After the tests of its values.
use Rattle.pkg_core.proofs.Given.{package_true}
use Rattle.pkg_core.proofs.checks.a_package_has_the_contents_of_its_files.Goals as goal

pub returns : goal.returns
returns c = package_true c.the_first_bad_text_is_reported.ensures
