use Rattle.std.proofs.Common.{sym, ◌∙◌, arith}
use Rattle.std.proofs.lemmas.Bool.{not-true}
use Rattle.words_core.proofs.WhatIsRead.{taken_sound}
use Rattle.words_core.proofs.read.first_wrong_place.Goals as goal

pub returns-clause-valid : goal.returns-clause-valid
returns-clause-valid c =
    taken_sound c.args.applet c.args.reading.now.state.flags c.args.reading.now.operands c.args.reading.now.state.values c.args.behind c.in-Some.rule c.requires.0 c.requires.1 (sym c.in-Some.ensures) (sym c.place_of_first_refused_operand.ensures ∙ c.in_default-place_of_first_refused_operand.is) (omega arith)
    (not-true _ (sym c.has_needed.ensures ∙ c.if-not-has_needed.false))
