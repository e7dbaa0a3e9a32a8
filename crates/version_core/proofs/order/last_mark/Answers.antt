-- No mark was found down to the least place.
use Rattle.std.proofs.Common.{◌≡◌, ◌-◌, true, drop, length, subst, arith}
use Rattle.version_core.specs.Reading.{is_unmarked}
use Rattle.version_core.proofs.order.last_mark.Goals as goal

pub returns-clause-none : goal.returns-clause-none
returns-clause-none c =
    let end : c.loop-at.at ≡ length c.args.text.now - 24 = omega (arith, c.loop-at.invariant.within, c.loop-at.invariant.behind, c.loop-at-test.false, c.saturating_sub-least.ensures) in
    subst (λ n. is_unmarked (drop n c.args.text.now) ≡ true) end c.loop-at.invariant.last
