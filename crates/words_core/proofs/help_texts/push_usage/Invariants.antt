use Rattle.std.proofs.Common.{◌≡◌, ◌++◌, codes, drop, map}
use Rattle.words_core.specs.HelpTexts.{synopsis_text_with_first_prefix}
use Rattle.words_core.proofs.help_texts.push_usage.Given as goal

-- the lines so far, with those that are left
abbrev pub invariant-loop-i : goal.invariant-loop-i
invariant-loop-i l =
    l.initial.text.items ++ synopsis_text_with_first_prefix (codes "usage: ") (map (λ line. line.now) l.lines)
    ≡ l.text.items ++ synopsis_text_with_first_prefix l.front (map (λ line. line.now) (drop l.i l.lines))
