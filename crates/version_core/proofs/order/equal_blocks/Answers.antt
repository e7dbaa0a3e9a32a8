use Rattle.std.proofs.Common.{◌+◌, ◌-◌, ◌≡◌, arith, drop, sym, ◌∙◌, take, ap}
use Rattle.std.proofs.lemmas.Slice.Eq.{bytes_eq-Decides}
use Rattle.version_core.proofs.EqualFront.{more_equal}
use Rattle.version_core.proofs.order.equal_blocks.Goals as goal

pub loop-len-preserved : goal.loop-len-preserved
loop-len-preserved c =
    let len = c.loop-len.len in
    let n : len + 128 - len ≡ 128 = omega arith in
    let known = c.loop-len.invariant in
    let block = (bytes_eq-Decides _ _).0 (sym c.eq.ensures ∙ c.if-eq.true) in
    more_equal c.args.left.now c.args.right.now len 128 known (omega (arith, c.min-most.ensures, c.loop-len-test.true, known.within)) (omega (arith, c.min-most.ensures, c.loop-len-test.true, known.within))
    (ap (λ k. take k (drop len c.args.left.now)) (sym n) ∙ block ∙ ap (λ k. take k (drop len c.args.right.now)) n)
