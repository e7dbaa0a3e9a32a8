use Rattle.std.proofs.Common.{◌≡◌, ◌++◌, take}
use Rattle.words_core.proofs.Hints.{joined}
use Rattle.hint_core.proofs.printed.push_texts.Given as goal

-- the texts so far are added
abbrev pub invariant-loop-text : goal.invariant-loop-text
invariant-loop-text l = l.line.items ≡ l.fn.line.items ++ joined (λ text. text.now) (take l.text-index l.texts)
