use Rattle.std.proofs.Common.{◌≡◌, ◌∙◌, ◌-◌, sym, arith}
use Rattle.unmet_world.proofs.AlmostSame.{ends}
use Rattle.unmet_world.proofs.similar.differ_by_one.Goals as goal

pub returns : goal.returns
returns c =
    let same : c.loop-i.i ≡ c.min-shared.result = omega (arith, c.loop-i-test.false, c.loop-i.auto.i-end) in
    ends c.args.text.now c.args.other.now c.loop-i.i (c.max.result - c.min-shared.result)
    (omega (arith, same, c.min-shared.ensures)) (omega (arith, same, c.min-shared.ensures))
    (λ less. omega (arith, less, same, c.min-shared.ensures)) (omega (arith, same, c.min-shared.ensures, c.max.ensures))
    ∙ sym c.loop-i.invariant
