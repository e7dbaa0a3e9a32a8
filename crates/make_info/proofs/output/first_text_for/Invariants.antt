use Rattle.std.proofs.Common.{◌≡◌, drop}
use Rattle.make_info.specs.FieldTexts.{first_text_for}
use Rattle.make_info.proofs.output.first_text_for.Given as goal

abbrev pub invariant-loop-i : goal.invariant-loop-i
invariant-loop-i l = first_text_for l.field (drop l.i l.values) ≡ first_text_for l.field l.values
