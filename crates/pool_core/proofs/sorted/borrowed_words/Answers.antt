use Rattle.std.proofs.Common.{◌≤◌, ◌∙◌, length, arith}
use Rattle.std.proofs.lemmas.List.{take_all}
use Rattle.pool_core.proofs.SearchedWords.{one_word_more}
use Rattle.pool_core.proofs.sorted.borrowed_words.Goals as goal

pub loop-i-preserved : goal.loop-i-preserved
loop-i-preserved c = one_word_more c.loop-i.borrowed.items _ c.word.result c.args.words.now c.loop-i.i c.in_ok-push.ensures.items c.word.ensures c.loop-i.invariant

pub returns : goal.returns
returns c =
    let past : length c.args.words.now ≤ c.loop-i.i = omega arith in
    c.loop-i.invariant ∙ take_all c.loop-i.i c.args.words.now past
