use Rattle.std.proofs.Common.{sym}
use Rattle.outcome.specs.DemoLines.{mkpkg_words}
use Rattle.outcome.specs.Demo.{with_file_packed_in_demo_package}
use Rattle.apk_front.proofs.Demos.{after_refused, behind_run}
use Rattle.apk_front.proofs.demo.package_behind.Goals as goal

pub returns-then-is_some : goal.returns-then-is_some
returns-then-is_some c = after_refused (mkpkg_words c.args.i) (with_file_packed_in_demo_package c.args.i) c.args.last c.args.tree.now (sym c.if-is_some.ensures)

pub returns : goal.returns
returns c = behind_run (mkpkg_words c.args.i) (with_file_packed_in_demo_package c.args.i) c.args.last c.args.tree.now c.package.result c.package.new.tree (sym c.if-is_some.ensures) c.package.ensures
