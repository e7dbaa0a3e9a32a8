use Rattle.apk_front.proofs.Demos.{install_to}
use Rattle.apk_front.proofs.demo.install.Goals as goal

pub returns : goal.returns
returns c =
    install_to c.args.n c.in_ok-packaged.packaged c.in_ok-indexed.indexed c.package_all.new.tree c.run_after.new.tree c.run_after-2.new.tree c.in_ok-words.words c.in_ok-words-2.words c.run_after-2.result
    c.in_ok-packaged.ensures c.in_ok-words.ensures c.in_ok-indexed.ensures c.in_ok-words-2.ensures c.run_after-2.ensures
