use Rattle.base_core.specs.Tree.{files_of}
use Rattle.tree_memory.specs.Memory.{tree_state}
use Rattle.apk_front.proofs.Demos.{next_to, start_files, start_to}
use Rattle.apk_front.proofs.demo.package_all.Goals as goal

pub loop-i-init : goal.loop-i-init
loop-i-init c =
    start_to c.put.new.tree c.empty-last.result c.empty-last.ensures
    (start_files (files_of (tree_state c.args.tree.now)) (files_of (tree_state c.put.new.tree)) c.demo_repositories.result.now c.in_ok-put.ensures c.requires c.demo_repositories.ensures)

pub loop-i-preserved : goal.loop-i-preserved
loop-i-preserved c = next_to c.loop-i.i c.loop-i.last c.in_ok-last.last c.loop-i.tree c.package_behind.new.tree c.loop-i.invariant c.in_ok-last.ensures
