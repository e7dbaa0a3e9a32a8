use Rattle.std.proofs.Common.{◌-◌, length, sym, ◌∙◌, arith}
use Rattle.adb_dump.specs.Dump.{is_printable}
use Rattle.adb_dump.proofs.Pieces.{window_last, window_next, window_stops, window_told}
use Rattle.adb_dump.proofs.line.is_long_printable.Goals as goal

pub returns-then-not-is_window_printable : goal.returns-then-not-is_window_printable
returns-then-not-is_window_printable c =
    sym (window_stops is_printable c.args.text.now c.loop-at.at 16 c.loop-at.invariant.printable
    (sym (window_told is_printable c.args.text.now c.loop-at.at 16) ∙ sym c.is_window_printable.ensures ∙ c.if-not-is_window_printable.true))

pub loop-at-preserved : goal.loop-at-preserved
loop-at-preserved c = record {
  within = omega (arith, c.loop-at-test.true);
  printable =
      window_next is_printable c.args.text.now c.loop-at.at 16 c.loop-at.invariant.printable
      ∙ (sym (window_told is_printable c.args.text.now c.loop-at.at 16) ∙ sym c.is_window_printable.ensures ∙ c.if-not-is_window_printable.false);
}

pub returns : goal.returns
returns c =
    let last = length c.args.text.now - 16 in
    c.is_window_printable-2.ensures ∙ window_told is_printable c.args.text.now last 16
    ∙ sym (window_last is_printable c.args.text.now c.loop-at.at last 16 (omega (arith, c.loop-at-test.false)) (omega (arith, c.requires)) c.loop-at.invariant.printable)
