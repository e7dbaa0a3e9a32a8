use Rattle.std.proofs.Common.{arith}
use Rattle.dep_core.specs.Meets.{dependency}
use Rattle.make_info.specs.Fields.{need}
use Rattle.make_info.specs.Information.{plain_value}
use Rattle.make_info.proofs.Mapped.{mapped_given, mapped_left}
use Rattle.v2_core.proofs.writing.write_needs.Goals as goal

pub loop-need-preserved : goal.loop-need-preserved
loop-need-preserved c =
    mapped_left (λ d. plain_value (need (dependency d))) c.args.needs.now c.loop-need.need-index _ _ _ _ _ c.loop-need-test.true c.need-item.is c.loop-need.invariant c.in_ok-write_need.ensures

pub returns : goal.returns
returns c = mapped_given (λ d. plain_value (need (dependency d))) c.args.needs.now c.loop-need.need-index _ _ (omega arith) c.loop-need.invariant
