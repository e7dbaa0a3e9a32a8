use Rattle.std.proofs.Common.{◌∙◌, ap}
use Rattle.words_core.specs.Options.{common_options, option_of_word, own_options}
use Rattle.words_core.proofs.Found.{found_first, found_second}
use Rattle.words_core.proofs.options.common_or_own.Goals as goal

pub returns-in-Some : goal.returns-in-Some
returns-in-Some c = found_first common_options (own_options c.args.applet) c.args.word.now _ c.in-Some.ensures

pub returns-in-None : goal.returns-in-None
returns-in-None c =
    found_second common_options (own_options c.args.applet) c.args.word.now _ c.in-None.ensures
    (c.find_option.ensures ∙ ap (λ os. option_of_word os c.args.word.now) c.own_options.ensures)
