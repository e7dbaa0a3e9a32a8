-- What is left gives the same files.
use Rattle.std.proofs.Common.{◌≡◌, length}
use Rattle.pkg_core.specs.Opened.{files_left}
use Rattle.pkg_core.proofs.walk.Rest.next.Given as goal

abbrev pub invariant-loop-block : goal.invariant-loop-block
invariant-loop-block l = files_left l.self ≡ files_left l.initial.self

abbrev pub decreases-loop-block : goal.decreases-loop-block
decreases-loop-block l = length l.self.blocks.left
