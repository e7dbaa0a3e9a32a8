use Rattle.std.proofs.Common.{◌≡◌, take}
use Rattle.base_core.specs.Faults.{CountsOnlyRise, CountsNoNewFaultOrLackOfMemory}
use Rattle.base_core.specs.Sink.{AddsBytesToSink}
use Rattle.report_core.specs.Pieces.{pieces_text}
use Rattle.report_core.proofs.lines.write_pieces.Given as goal

abbrev pub invariant-loop-piece : goal.invariant-loop-piece
invariant-loop-piece g l = record {
  written : AddsBytesToSink (g.S.Sink.bytes l.initial.sink) (g.S.Sink.bytes l.sink) (pieces_text (take l.piece-index l.pieces));
  goes_on : CountsOnlyRise (g.S.Sink.counts l.initial.sink) (g.S.Sink.counts l.sink);
  kept : CountsNoNewFaultOrLackOfMemory (g.S.Sink.counts l.initial.sink) (g.S.Sink.counts l.sink);
  proper : (g.S.Sink.counts l.sink).misuses ≡ (g.S.Sink.counts l.initial.sink).misuses;
}
