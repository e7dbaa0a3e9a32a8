-- No applet so far has the word.
use Rattle.std.proofs.Common.{◌≡◌, drop}
use Rattle.std.specs.List.{find}
use Rattle.std.specs.Str.{bytes_eq}
use Rattle.command_core.specs.declared.command.Applet.{Applet}
use Rattle.words_core.specs.Options.{applet_word}
use Rattle.words_core.proofs.options.find_applet_named.Given as goal

abbrev pub invariant-loop-applet : goal.invariant-loop-applet
invariant-loop-applet l =
    find (λ (applet : Applet). bytes_eq (applet_word applet) l.word) l.applets
    ≡ find (λ (applet : Applet). bytes_eq (applet_word applet) l.word) (drop l.applet-index l.applets)
