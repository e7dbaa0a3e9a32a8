use Rattle.std.proofs.Common.{arith, refl}
use Rattle.std.proofs.lemmas.List.{take_more_same}
use Rattle.path_clashes.proofs.Above.{folder_in_front}
use Rattle.path_clashes.proofs.clash.common_len.Goals as goal

pub loop-len-init : goal.loop-len-init
loop-len-init c = record { one = omega arith; other = omega arith; same = refl }

pub loop-len-preserved : goal.loop-len-preserved
loop-len-preserved c = record {
  one = omega arith;
  other = omega arith;
  same = take_more_same c.args.one.now c.args.other.now c.loop-len.len 0 c.loop-len-test.true c.if-len-other.true c.loop-len.invariant.same c.if-one-len.true;
}

pub returns-else-one-len-clause-one : goal.returns-else-one-len-clause-one
returns-else-one-len-clause-one c = c.loop-len.invariant.one

pub returns-else-one-len-clause-other : goal.returns-else-one-len-clause-other
returns-else-one-len-clause-other c = c.loop-len.invariant.other

pub returns-else-one-len-clause-same : goal.returns-else-one-len-clause-same
returns-else-one-len-clause-same c = c.loop-len.invariant.same

pub returns-else-one-len-clause-folders : goal.returns-else-one-len-clause-folders
returns-else-one-len-clause-folders c = λ folder above also. folder_in_front c.args.one.now c.args.other.now folder c.loop-len.len (λ inside also equal. c.if-one-len.false equal) above also

pub returns-else-len-other-clause-one : goal.returns-else-len-other-clause-one
returns-else-len-other-clause-one c = c.loop-len.invariant.one

pub returns-else-len-other-clause-other : goal.returns-else-len-other-clause-other
returns-else-len-other-clause-other c = c.loop-len.invariant.other

pub returns-else-len-other-clause-same : goal.returns-else-len-other-clause-same
returns-else-len-other-clause-same c = c.loop-len.invariant.same

pub returns-else-len-other-clause-folders : goal.returns-else-len-other-clause-folders
returns-else-len-other-clause-folders c = λ folder above also. folder_in_front c.args.one.now c.args.other.now folder c.loop-len.len (λ inside also equal. omega (arith, also, c.if-len-other.false)) above also

pub returns-after-loop-len-clause-one : goal.returns-after-loop-len-clause-one
returns-after-loop-len-clause-one c = c.loop-len.invariant.one

pub returns-after-loop-len-clause-other : goal.returns-after-loop-len-clause-other
returns-after-loop-len-clause-other c = c.loop-len.invariant.other

pub returns-after-loop-len-clause-same : goal.returns-after-loop-len-clause-same
returns-after-loop-len-clause-same c = c.loop-len.invariant.same

pub returns-after-loop-len-clause-folders : goal.returns-after-loop-len-clause-folders
returns-after-loop-len-clause-folders c = λ folder above also. folder_in_front c.args.one.now c.args.other.now folder c.loop-len.len (λ inside also equal. omega (arith, inside, c.loop-len-test.false)) above also
