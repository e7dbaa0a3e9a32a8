use Rattle.std.proofs.Common.{◌≡◌, ◌+◌, drop}
use Rattle.words_core.specs.Grammar.{applet_site}
use Rattle.words_core.proofs.reading.find_applet.Given as goal

-- the applet is the one of the words that are left
abbrev pub invariant-loop-i : goal.invariant-loop-i
invariant-loop-i l = applet_site 1 l.words ≡ applet_site (l.i + 1) (drop l.i l.words)
