use Rattle.std.proofs.Common.{◌≡◌, ◌+◌, drop}
use Rattle.words_core.specs.Grammar.{option_state_at_start, reading_of_words_from_place}
use Rattle.words_core.specs.Options.{options_of}
use Rattle.words_core.proofs.OneMore.{behind}
use Rattle.words_core.proofs.reading.read_options.Given as goal

-- the reading is that of the words that are left, with the operands so far before it
abbrev pub invariant-loop-i : goal.invariant-loop-i
invariant-loop-i l =
    reading_of_words_from_place (options_of l.start.applet) (option_state_at_start l.start.flags) (l.start.read + 1) (drop l.start.read l.words)
    ≡ behind l.operands (reading_of_words_from_place (options_of l.start.applet) l.state (l.i + 1) (drop l.i l.words))
