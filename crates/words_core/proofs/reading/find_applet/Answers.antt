use Rattle.std.proofs.Common.{sym, ◌∙◌, ap, Err, arith}
use Rattle.words_core.proofs.OneMore.{site_ended, site_more, site_named, site_unread}
use Rattle.words_core.proofs.reading.find_applet.Goals as goal

pub returns-then-is_double_dash : goal.returns-then-is_double_dash
returns-then-is_double_dash c =
    record {
      site = c.applet_after_end.ensures
          ∙ sym (c.loop-i.invariant ∙ site_ended c.args.words.now c.loop-i.i c.word-word.result.now c.word-word.ensures (sym c.is_double_dash.ensures ∙ c.if-is_double_dash.true));
      few = omega arith;
    }

pub returns-then-not-is_option_or_double_dash : goal.returns-then-not-is_option_or_double_dash
returns-then-not-is_option_or_double_dash c =
    record {
      site = c.applet_at.ensures
          ∙ sym (c.loop-i.invariant ∙ site_named c.args.words.now c.loop-i.i c.word-word.result.now c.word-word.ensures (sym c.is_double_dash.ensures ∙ c.if-is_double_dash.false) (sym c.is_option_or_double_dash.ensures ∙ c.if-not-is_option_or_double_dash.true));
      few = omega arith;
    }

pub returns-then-not-is_option_word_that_may_precede_applet : goal.returns-then-not-is_option_word_that_may_precede_applet
returns-then-not-is_option_word_that_may_precede_applet c =
    record {
      site = ap Err c.place_after_word.ensures
          ∙ sym (c.loop-i.invariant ∙ site_unread c.args.words.now c.loop-i.i c.word-word.result.now c.word-word.ensures (sym c.is_double_dash.ensures ∙ c.if-is_double_dash.false) (sym c.is_option_or_double_dash.ensures ∙ c.if-not-is_option_or_double_dash.false) (sym c.is_option_word_that_may_precede_applet.ensures ∙ c.if-not-is_option_word_that_may_precede_applet.true));
      few = omega arith;
    }

pub loop-i-preserved : goal.loop-i-preserved
loop-i-preserved c =
    c.loop-i.invariant
    ∙ site_more c.args.words.now c.loop-i.i c.word-word.result.now c.word-word.ensures (sym c.is_double_dash.ensures ∙ c.if-is_double_dash.false) (sym c.is_option_or_double_dash.ensures ∙ c.if-not-is_option_or_double_dash.false) (sym c.is_option_word_that_may_precede_applet.ensures ∙ c.if-not-is_option_word_that_may_precede_applet.false)
