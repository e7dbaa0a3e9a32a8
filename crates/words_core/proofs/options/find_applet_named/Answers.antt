use Rattle.std.proofs.Common.{◌∙◌, ap, sym, Bool}
use Rattle.std.specs.Str.{bytes_eq}
use Rattle.command_core.specs.declared.command.Applet.{Applet}
use Rattle.words_core.specs.Options.{applet_word}
use Rattle.words_core.proofs.Found.{found_at, found_later, not_found}
use Rattle.words_core.proofs.options.find_applet_named.Goals as goal

pub returns-then-eq : goal.returns-then-eq
returns-then-eq c =
    let named : Applet → Bool = λ (applet : Applet). bytes_eq (applet_word applet) c.args.word.now in
    sym (found_at named c.args.applets.now c.loop-applet.applet-index _ c.loop-applet-test.true (ap (λ word. bytes_eq word c.args.word.now) (sym c.applet_word.ensures) ∙ (sym c.eq.ensures ∙ c.if-eq.true)) c.loop-applet.invariant)

pub loop-applet-preserved : goal.loop-applet-preserved
loop-applet-preserved c =
    let named : Applet → Bool = λ (applet : Applet). bytes_eq (applet_word applet) c.args.word.now in
    found_later named c.args.applets.now c.loop-applet.applet-index _ c.loop-applet-test.true (ap (λ word. bytes_eq word c.args.word.now) (sym c.applet_word.ensures) ∙ (sym c.eq.ensures ∙ c.if-eq.false)) c.loop-applet.invariant

pub returns : goal.returns
returns c =
    let named : Applet → Bool = λ (applet : Applet). bytes_eq (applet_word applet) c.args.word.now in
    sym (not_found named c.args.applets.now c.loop-applet.applet-index c.loop-applet-test.false c.loop-applet.invariant)
