-- By the values, and by what follows them.
use Rattle.package_reader.specs.pkg_core.Values.{value_of_contents}
use Rattle.package_verifier.proofs.WholeTested.{whole_by_contents, whole_by_values}
use Rattle.package_verifier.proofs.read.test_values_and_files.Goals as goal

pub returns-in-Ok-clause-whole : goal.returns-in-Ok-clause-whole
returns-in-Ok-clause-whole g c = whole_by_contents _ _ c.args.front.now (value_of_contents c.in-Ok.contents) c.read_files.result c.in-Ok.ensures.sound c.in-Ok.ensures.value c.read_files.ensures.files

pub returns-in-Err-Bad-clause-whole : goal.returns-in-Err-Bad-clause-whole
returns-in-Err-Bad-clause-whole g c = whole_by_values _ _ c.args.front.now _ _ _ c.in-Err-Bad.cause-is c.in-Err-Bad.field-0-is c.args.front.now.within c.in-Err-Bad.ensures.bad
