use Rattle.std.proofs.Common.{arith}
use Rattle.option_ranks.specs.candidate_core.Packages.{candidates_of_packages}
use Rattle.option_ranks.proofs.candidate_core.LoopTests.{unmarked_next}
use Rattle.pool_core.proofs.marks.no_marks.Goals as goal

pub loop-place-preserved : goal.loop-place-preserved
loop-place-preserved c =
    unmarked_next (candidates_of_packages c.args.packages.now) c.loop-place._place c.loop-place.marks.items c.push.new.self.items (omega arith) c.loop-place.invariant c.in_ok-push.ensures.items
