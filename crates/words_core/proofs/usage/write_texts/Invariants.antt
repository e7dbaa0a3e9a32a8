use Rattle.std.proofs.Common.{◌≡◌, take}
use Rattle.base_core.specs.Faults.{CountsOnlyRise, CountsNoNewFaultOrLackOfMemory}
use Rattle.base_core.specs.Sink.{AddsBytesToSink}
use Rattle.words_core.proofs.Hints.{joined}
use Rattle.words_core.proofs.usage.write_texts.Given as goal

abbrev pub invariant-loop-text : goal.invariant-loop-text
invariant-loop-text g l = record {
  written : AddsBytesToSink (g.S.Sink.bytes l.initial.sink) (g.S.Sink.bytes l.sink) (joined (λ text. text.now) (take l.text-index l.texts));
  goes_on : CountsOnlyRise (g.S.Sink.counts l.initial.sink) (g.S.Sink.counts l.sink);
  kept : CountsNoNewFaultOrLackOfMemory (g.S.Sink.counts l.initial.sink) (g.S.Sink.counts l.sink);
  proper : (g.S.Sink.counts l.sink).misuses ≡ (g.S.Sink.counts l.initial.sink).misuses;
}
