use Rattle.std.proofs.Common.{◌≡◌, ◌+◌, ◌-◌, drop, take}
use Rattle.command_core.specs.Flags.{no_flags}
use Rattle.words_core.specs.Grammar.{flags_with_options_before_applet}
use Rattle.words_core.specs.Options.{options_of}
use Rattle.words_core.proofs.reading.read_early.Given as goal

-- the flags are those so far, with those of the words that are left
abbrev pub invariant-loop-i : goal.invariant-loop-i
invariant-loop-i l =
    flags_with_options_before_applet (options_of l.site.applet) no_flags 1 (take (l.site.read - 1) l.words)
    ≡ flags_with_options_before_applet (options_of l.site.applet) l.flags (l.i + 1) (drop l.i (take (l.site.read - 1) l.words))
