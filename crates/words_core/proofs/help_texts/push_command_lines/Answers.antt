use Rattle.std.proofs.Common.{sym, ◌∙◌}
use Rattle.words_core.specs.declared.help_texts.TheConstants.{COMMAND_COLUMN}
use Rattle.words_core.specs.HelpTexts.{command_help_line}
use Rattle.words_core.proofs.Helped.{command_pushed, lines_done, lines_left}
use Rattle.words_core.proofs.help_texts.push_command_lines.Goals as goal

pub loop-i-preserved : goal.loop-i-preserved
loop-i-preserved c =
    lines_left COMMAND_COLUMN command_help_line c.args.commands.now c.loop-i.i _ _ c.loop-i.text.items c.push_line.new.text.items c.loop-i-test.true
    (command_pushed COMMAND_COLUMN c.loop-i.text.items c.push_line.new.text.items c.applet_word.result.now c.purpose.result.now _ c.in_ok-push_line.ensures c.applet_word.ensures c.purpose.ensures)
    c.loop-i.invariant

pub returns : goal.returns
returns c = sym (c.loop-i.invariant ∙ lines_done COMMAND_COLUMN command_help_line c.args.commands.now c.loop-i.i c.loop-i.text.items c.loop-i-test.false)
