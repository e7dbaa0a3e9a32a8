use Rattle.std.proofs.Common.{◌≡◌, length}
use Rattle.base_core.proofs.Added.{IsUnderWay}
use Rattle.base_core.specs.Faults.{CountsOnlyRise, CountsNoNewFaultOrLackOfMemory}
use Rattle.base_core.proofs.sink.write_all.Given as goal

abbrev pub invariant-loop-rest : goal.invariant-loop-rest
invariant-loop-rest g l = record {
  written : IsUnderWay (g.S.Sink.bytes l.initial.sink) (g.S.Sink.bytes l.sink) l.bytes l.rest;
  goes_on : CountsOnlyRise (g.S.Sink.counts l.initial.sink) (g.S.Sink.counts l.sink);
  kept : CountsNoNewFaultOrLackOfMemory (g.S.Sink.counts l.initial.sink) (g.S.Sink.counts l.sink);
  proper : (g.S.Sink.counts l.sink).misuses ≡ (g.S.Sink.counts l.initial.sink).misuses;
}

abbrev pub decreases-loop-rest : goal.decreases-loop-rest
decreases-loop-rest g l = length l.rest
