use Rattle.std.proofs.Common.{◌≡◌, take}
use Rattle.base_core.specs.Faults.{CountsOnlyRise, CountsNoNewFaultOrLackOfMemory}
use Rattle.base_core.specs.Sink.{AddsBytesToSink}
use Rattle.words_core.specs.Usage.{shown_bytes}
use Rattle.words_core.proofs.usage.write_shown.Given as goal

abbrev pub invariant-loop-byte : goal.invariant-loop-byte
invariant-loop-byte g l = record {
  written : AddsBytesToSink (g.S.Sink.bytes l.initial.sink) (g.S.Sink.bytes l.sink) (shown_bytes (take l.byte-index l.bytes));
  goes_on : CountsOnlyRise (g.S.Sink.counts l.initial.sink) (g.S.Sink.counts l.sink);
  kept : CountsNoNewFaultOrLackOfMemory (g.S.Sink.counts l.initial.sink) (g.S.Sink.counts l.sink);
  proper : (g.S.Sink.counts l.sink).misuses ≡ (g.S.Sink.counts l.initial.sink).misuses;
}
