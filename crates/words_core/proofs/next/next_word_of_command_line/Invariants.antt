use Rattle.std.proofs.Common.{◌≡◌, drop, take}
use Rattle.words_core.specs.declared.next.NextWord.TheVariants.{OptionOrCommand}
use Rattle.words_core.specs.Grammar.{next_word_after_words}
use Rattle.words_core.proofs.next.next_word_of_command_line.Given as goal

-- what can follow the words is what can follow those that are left
abbrev pub invariant-loop-i : goal.invariant-loop-i
invariant-loop-i l =
    next_word_after_words OptionOrCommand (take l.count l.words) ≡ next_word_after_words l.next (drop l.i (take l.count l.words))
