use Rattle.std.proofs.Common.{◌≤◌, ◌∙◌, length, map, ap, arith}
use Rattle.std.proofs.lemmas.List.{take_all}
use Rattle.dep_core.specs.Meets.{dependency}
use Rattle.pool_core.specs.World.{entries_of_kind, is_entry_of_kind}
use Rattle.option_ranks.proofs.candidate_core.Steps.{filter_step}
use Rattle.pool_core.proofs.world_marks.entries_of_kind.Goals as goal

pub loop-i-preserved : goal.loop-i-preserved
loop-i-preserved c = filter_step (is_entry_of_kind c.args.kind) c.args.world.now c.loop-i.i (dependency c.entry.result) (map dependency c.loop-i.deps.items) (map dependency c.push_if.new.deps.items) c.entry.ensures c.loop-i.invariant c.in_ok-push_if.ensures

pub returns : goal.returns
returns c =
    let past : length c.args.world.now ≤ c.loop-i.i = omega arith in
    c.loop-i.invariant ∙ ap (entries_of_kind c.args.kind) (take_all c.loop-i.i c.args.world.now past)
