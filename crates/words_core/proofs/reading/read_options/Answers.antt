use Rattle.std.proofs.Common.{sym, ◌∙◌, ap, Some, None}
use Rattle.words_core.specs.Grammar.{words_reading_from_parts}
use Rattle.words_core.specs.Options.{options_of}
use Rattle.words_core.proofs.OneMore.{reading_push, reading_rest, reading_taken, reading_unread, refused_is, taken_is}
use Rattle.words_core.proofs.reading.read_options.Goals as goal

pub loop-i-preserved-then-branch : goal.loop-i-preserved-then-branch
loop-i-preserved-then-branch c =
    reading_taken _ (options_of c.args.start.now.applet) c.loop-i.state c.read_word.new.self c.loop-i.operands c.args.words.now c.loop-i.i c.word-word.result.now c.place_after_word.result c.word-word.ensures (sym c.expects.ensures ∙ c.if-expects.true) c.place_after_word.ensures
    (taken_is c.in_ok-read_word.field-0 c.loop-i.state c.read_word.new.self _ c.if-branch.true c.in_ok-read_word.ensures) c.loop-i.invariant

pub returns-then-expects : goal.returns-then-expects
returns-then-expects c =
    let refused = refused_is c.in_ok-read_word.field-0 c.loop-i.state c.read_word.new.self _ c.if-branch.false c.in_ok-read_word.ensures in
    c.up_to.ensures
    ∙ (ap (λ g. words_reading_from_parts g c.loop-i.operands (Some c.place_after_word-then-expects.result)) refused.1
    ∙ reading_unread _ (options_of c.args.start.now.applet) c.loop-i.state c.loop-i.operands c.args.words.now c.loop-i.i c.word-word.result.now c.place_after_word-then-expects.result c.place_after_word.result c.word-word.ensures (sym c.expects.ensures ∙ c.if-expects.true) c.place_after_word-then-expects.ensures c.place_after_word.ensures refused.0 c.loop-i.invariant)

pub returns-then-is_double_dash : goal.returns-then-is_double_dash
returns-then-is_double_dash c =
    c.whole.ensures
    ∙ (ap (λ os. words_reading_from_parts c.loop-i.state os None) c.in_ok-add_operands.ensures
    ∙ reading_rest _ (options_of c.args.start.now.applet) c.loop-i.state c.loop-i.operands c.args.words.now c.loop-i.i c.word-word.result.now c.word-word.ensures (sym c.expects.ensures ∙ c.if-expects.false) (sym c.is_double_dash.ensures ∙ c.if-is_double_dash.true) c.loop-i.invariant)

pub loop-i-preserved : goal.loop-i-preserved
loop-i-preserved c =
    reading_push _ (options_of c.args.start.now.applet) c.loop-i.state c.loop-i.operands c.push.new.self c.args.words.now c.loop-i.i c.word-word.result.now c.place_after_word-in-loop-i.result c.word-word.ensures (sym c.expects.ensures ∙ c.if-expects.false) (sym c.is_double_dash.ensures ∙ c.if-is_double_dash.false) c.place_after_word-in-loop-i.ensures c.in_ok-push.ensures.ok c.loop-i.invariant
