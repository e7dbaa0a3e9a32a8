use Rattle.std.proofs.Common.{◌∙◌}
use Rattle.base_core.proofs.Added.{one_more, take-behind}
use Rattle.base_core.proofs.Counting.{goes_on_twice, no_fault_twice}
use Rattle.base_core.proofs.sink.write_all.Goals as goal

pub loop-rest-preserved : goal.loop-rest-preserved
loop-rest-preserved g c = record {
  written = rw take-behind (one_more _ _ _ _ _ _ c.loop-rest.invariant.written c.in_ok-taken.ensures.added);
  goes_on = goes_on_twice _ _ _ c.loop-rest.invariant.goes_on c.write.ensures.cause.goes_on;
  kept = no_fault_twice _ _ _ c.loop-rest.invariant.kept c.in_ok-taken.ensures.cause.kept;
  proper = c.write.ensures.cause.proper ∙ c.loop-rest.invariant.proper;
}
