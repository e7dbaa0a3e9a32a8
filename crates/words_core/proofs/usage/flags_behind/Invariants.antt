use Rattle.std.proofs.Common.{◌≡◌, ◌+◌, [], None, drop}
use Rattle.words_core.specs.Grammar.{option_state_at_start, reading_of_words_from_place, option_state_from_parts}
use Rattle.words_core.specs.Options.{options_of}
use Rattle.words_core.proofs.usage.flags_behind.Given as goal

-- the flags so far, with those of the words that are left
abbrev pub invariant-loop-i : goal.invariant-loop-i
invariant-loop-i l =
    (reading_of_words_from_place (options_of l.start.applet) (option_state_at_start l.start.flags) (l.start.read + 1) (drop l.start.read l.words)).state.flags
    ≡ (reading_of_words_from_place (options_of l.start.applet) (option_state_from_parts l.flags [] None) (l.i + 1) (drop l.i l.words)).state.flags
