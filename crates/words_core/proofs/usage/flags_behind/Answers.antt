use Rattle.std.proofs.Common.{sym, ◌∙◌}
use Rattle.words_core.specs.Options.{options_of}
use Rattle.words_core.proofs.Hints.{flags_ended, flags_operand, flags_taken, flags_unread, plain_options}
use Rattle.words_core.proofs.usage.flags_behind.Goals as goal

pub returns-then-is_double_dash : goal.returns-then-is_double_dash
returns-then-is_double_dash c = sym (c.loop-i.invariant ∙ flags_ended (options_of c.args.start.now.applet) c.loop-i.flags c.args.words.now c.loop-i.i c.word-word.result.now c.word-word.ensures (sym c.is_double_dash.ensures ∙ c.if-is_double_dash.true))

pub loop-i-preserved-then-not-is_option_or_double_dash : goal.loop-i-preserved-then-not-is_option_or_double_dash
loop-i-preserved-then-not-is_option_or_double_dash c =
    c.loop-i.invariant
    ∙ flags_operand (options_of c.args.start.now.applet) c.loop-i.flags c.args.words.now c.loop-i.i c.word-word.result.now c.word-word.ensures (sym c.is_double_dash.ensures ∙ c.if-is_double_dash.false) (sym c.is_option_or_double_dash.ensures ∙ c.if-not-is_option_or_double_dash.true)

pub returns-in-None : goal.returns-in-None
returns-in-None c =
    sym (c.loop-i.invariant
    ∙ flags_unread (options_of c.args.start.now.applet) c.loop-i.flags c.args.words.now c.loop-i.i c.word-word.result.now c.word-word.ensures (plain_options c.args.start.now.applet c.requires.plain) (sym c.is_double_dash.ensures ∙ c.if-is_double_dash.false) (sym c.is_option_or_double_dash.ensures ∙ c.if-not-is_option_or_double_dash.false) (sym c.flags_with_held_meaning.ensures ∙ c.in-None.is))

pub loop-i-preserved : goal.loop-i-preserved
loop-i-preserved c =
    c.loop-i.invariant
    ∙ flags_taken (options_of c.args.start.now.applet) c.loop-i.flags c.args.words.now c.loop-i.i c.word-word.result.now c.word-word.ensures c.in-Some.more (plain_options c.args.start.now.applet c.requires.plain) (sym c.is_double_dash.ensures ∙ c.if-is_double_dash.false) (sym c.is_option_or_double_dash.ensures ∙ c.if-not-is_option_or_double_dash.false) (sym c.flags_with_held_meaning.ensures ∙ c.in-Some.is)
