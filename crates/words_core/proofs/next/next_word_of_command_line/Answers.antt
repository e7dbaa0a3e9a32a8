use Rattle.std.proofs.Common.{sym, ◌∙◌, take, arith}
use Rattle.std.proofs.lemmas.List.{length-take-le}
use Rattle.words_core.proofs.Asked.{next_done, next_step}
use Rattle.words_core.proofs.OneMore.{taken_at}
use Rattle.words_core.proofs.next.next_word_of_command_line.Goals as goal

pub loop-i-preserved : goal.loop-i-preserved
loop-i-preserved c =
    c.loop-i.invariant
    ∙ next_step c.loop-i.next _ (take c.args.count c.args.words.now) c.loop-i.i c.word.result.now (taken_at c.args.words.now c.args.count c.loop-i.i c.word.result.now (omega arith) c.word.ensures) c.after-next.ensures

pub returns : goal.returns
returns c =
    sym (c.loop-i.invariant ∙ next_done c.loop-i.next (take c.args.count c.args.words.now) c.loop-i.i (omega (arith, length-take-le c.args.count c.args.words.now c.requires)))
