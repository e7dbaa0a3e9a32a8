use Rattle.std.proofs.Common.{◌∙◌}
use Rattle.base_core.specs.Tree.{files_of}
use Rattle.outcome.specs.DemoLines.{demo_file, contents_of_demo_file, mkpkg_words}
use Rattle.outcome.specs.Demo.{with_file_packed_in_demo_package}
use Rattle.tree_memory.specs.Memory.{tree_state}
use Rattle.apk_front.proofs.Demos.{package_to, put_to}
use Rattle.apk_front.proofs.demo.package.Goals as goal

pub returns : goal.returns
returns c =
    let files = files_of (tree_state c.args.tree.now) in
    package_to c.in_ok-words.words (mkpkg_words c.args.i) (files_of (tree_state c.put.new.tree)) (with_file_packed_in_demo_package c.args.i files) c.run_words.new.tree c.run_words.result c.in_ok-words.ensures
    (put_to files (files_of (tree_state c.put.new.tree)) c.deref.result.now (demo_file c.args.i) c.deref-2.result.now (contents_of_demo_file c.args.i) c.in_ok-put.ensures (c.deref.ensures.value ∙ c.in_ok-name.ensures) (c.deref-2.ensures.value ∙ c.in_ok-text.ensures))
    c.run_words.ensures
