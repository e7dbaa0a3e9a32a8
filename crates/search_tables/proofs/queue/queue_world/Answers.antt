use Rattle.std.proofs.Common.{◌≡◌, ◌≤◌, List, length, subst, sym, arith, append-nil, ◌++◌}
use Rattle.std.specs.Prelude.{None}
use Rattle.std.proofs.lemmas.List.{take_all}
use Rattle.dep_core.specs.Dependency.{Dependency}
use Rattle.dep_core.specs.Meets.{dependency}
use Rattle.pool_core.proofs.candidate_core.Steps.{take_one_more}
use Rattle.search_tables.specs.Queue.{raised_deps}
use Rattle.search_tables.proofs.Queued.{front_length, queued_more}
use Rattle.search_tables.proofs.queue.queue_world.Goals as goal

pub loop-i-init : goal.loop-i-init
loop-i-init c = sym (append-nil c.args.queue.now.items)

pub loop-i-preserved : goal.loop-i-preserved
loop-i-preserved c =
    queued_more None c.args.queue.now.items c.loop-i.queue.items c.queue_one.new.queue.items _ _ (dependency c.entry.result) c.loop-i.i (front_length c.args.world.now c.loop-i.i (omega arith)) c.loop-i.invariant c.in_ok-queue_one.ensures
    (take_one_more c.args.world.now c.loop-i.i (dependency c.entry.result) c.entry.ensures)

pub returns : goal.returns
returns c =
    let past : length c.args.world.now ≤ c.loop-i.i = omega arith in
    subst (λ (z : List Dependency). c.loop-i.queue.items ≡ c.args.queue.now.items ++ raised_deps None z) (take_all c.loop-i.i c.args.world.now past) c.loop-i.invariant
