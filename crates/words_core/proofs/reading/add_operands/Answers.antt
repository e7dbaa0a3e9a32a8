use Rattle.words_core.proofs.OneMore.{operands_push}
use Rattle.words_core.proofs.reading.add_operands.Goals as goal

pub loop-i-preserved : goal.loop-i-preserved
loop-i-preserved c =
    operands_push _ c.loop-i.operands _ c.args.words.now c.loop-i.i c.word.result.now c.place_after_word.result c.word.ensures c.place_after_word.ensures c.in_ok-push.ensures.ok c.loop-i.invariant
