use Rattle.std.proofs.Common.{sym, append-nil}
use Rattle.words_core.proofs.Hints.{joined, joined_chain}
use Rattle.hint_core.proofs.Steps.{more_text}
use Rattle.hint_core.proofs.printed.push_texts.Goals as goal

pub loop-text-preserved : goal.loop-text-preserved
loop-text-preserved c =
    more_text (joined (λ text. text.now)) (joined_chain (λ text. text.now)) _ _ _ _ c.loop-text.text-index _ _ (sym (append-nil _)) c.loop-text-test.true c.loop-text.invariant c.in_ok-extend_from_slice.ensures.items
