use Rattle.std.proofs.Common.{arith, subst, sym, ◌+◌, ◌∙◌}
use Rattle.dep_core.specs.Meets.{dependency}
use Rattle.change_inputs.proofs.WorldRest.{IsRestSoFar, all_looked_at, entry_kept, entry_removed}
use Rattle.change_inputs.proofs.world.world_without.Goals.{then-not-has+in_ok-add, else-not-has}
use Rattle.change_inputs.proofs.world.world_without.Goals as goal

pub loop-i-preserved : goal.loop-i-preserved
loop-i-preserved c =
    let names = c.args.names.now in
    let world = c.args.world.now in
    let entry = dependency c.entry-entry.result in
    elim c.if-not-has.branch [
      | then-not-has+in_ok-add w ↦
          entry_kept names world c.loop-i.i c.loop-i.rest c.loop-i.invariant entry c.has.result c.if-not-has.rest c.len-i-end.ensures.world c.entry-entry.ensures c.has.ensures w.if-not-has.true (w.rest-is ∙ w.in_ok-add.ensures.ok)
      | else-not-has w ↦
          subst (IsRestSoFar names world (c.loop-i.i + 1)) (sym w.rest-is)
          (entry_removed names world c.loop-i.i c.loop-i.rest c.loop-i.invariant entry c.has.result c.entry-entry.ensures c.has.ensures w.if-not-has.false)
    ]

pub returns : goal.returns
returns c = all_looked_at c.args.names.now c.args.world.now c.loop-i.i c.loop-i.rest c.loop-i.invariant (omega (arith, c.loop-i-test.false, c.len-i-end.ensures.value))
