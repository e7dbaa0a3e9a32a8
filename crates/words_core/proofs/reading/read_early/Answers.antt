use Rattle.std.proofs.Common.{◌-◌, Err, None, Some, sym, ◌∙◌, ap, take, arith}
use Rattle.std.proofs.lemmas.List.{length-take-le}
use Rattle.words_core.specs.Options.{options_of}
use Rattle.words_core.proofs.OneMore.{early_done, early_ended, early_more, option_found, taken_at}
use Rattle.words_core.proofs.reading.read_early.Goals as goal

pub returns-then-is_double_dash : goal.returns-then-is_double_dash
returns-then-is_double_dash c =
    sym (c.loop-i.invariant ∙ early_ended (options_of c.args.site.now.applet) c.loop-i.flags (take (c.args.site.now.read - 1) c.args.words.now) c.loop-i.i c.word-word.result.now (taken_at c.args.words.now (c.args.site.now.read - 1) c.loop-i.i c.word-word.result.now (omega arith) c.word-word.ensures) (sym c.is_double_dash.ensures ∙ c.if-is_double_dash.true))

pub returns-in-None : goal.returns-in-None
returns-in-None c =
    ap Err c.place_after_word.ensures
    ∙ sym (c.loop-i.invariant ∙ early_more (options_of c.args.site.now.applet) c.loop-i.flags (take (c.args.site.now.read - 1) c.args.words.now) c.loop-i.i c.word-word.result.now None (taken_at c.args.words.now (c.args.site.now.read - 1) c.loop-i.i c.word-word.result.now (omega arith) c.word-word.ensures) (sym c.is_double_dash.ensures ∙ c.if-is_double_dash.false) (option_found (options_of c.args.site.now.applet) c.loop-i.flags c.word-word.result.now _ _ None c.option_of_word.ensures c.flags_with_option_word_if_one_command_kind.ensures c.in-None.is))

pub loop-i-preserved : goal.loop-i-preserved
loop-i-preserved c =
    c.loop-i.invariant
    ∙ early_more (options_of c.args.site.now.applet) c.loop-i.flags (take (c.args.site.now.read - 1) c.args.words.now) c.loop-i.i c.word-word.result.now (Some c.in-Some.more) (taken_at c.args.words.now (c.args.site.now.read - 1) c.loop-i.i c.word-word.result.now (omega arith) c.word-word.ensures) (sym c.is_double_dash.ensures ∙ c.if-is_double_dash.false) (option_found (options_of c.args.site.now.applet) c.loop-i.flags c.word-word.result.now _ _ (Some c.in-Some.more) c.option_of_word.ensures c.flags_with_option_word_if_one_command_kind.ensures c.in-Some.is)

pub returns : goal.returns
returns c =
    sym (c.loop-i.invariant ∙ early_done (options_of c.args.site.now.applet) c.loop-i.flags (take (c.args.site.now.read - 1) c.args.words.now) c.loop-i.i (omega (arith, length-take-le (c.args.site.now.read - 1) c.args.words.now (omega arith))))
