use Rattle.std.proofs.Common.{sym, arith}
use Rattle.std.proofs.lemmas.List.{length-take-le}
use Rattle.words_core.proofs.Hints.{take_within}
use Rattle.words_core.proofs.usage.shown_part.Goals as goal

pub slice_bounds-result-end : goal.slice_bounds-result-end
slice_bounds-result-end c = sym (length-take-le 64 c.args.word.now (omega (arith, c.if-word-gt-LONGEST_SHOWN.true)))

pub returns-else-word-gt-LONGEST_SHOWN : goal.returns-else-word-gt-LONGEST_SHOWN
returns-else-word-gt-LONGEST_SHOWN c = sym (take_within 64 c.args.word.now (omega (arith, c.if-word-gt-LONGEST_SHOWN.false)))
