use Rattle.std.proofs.Common.{sym, ◌∙◌}
use Rattle.words_core.specs.declared.help_texts.TheConstants.{OPTION_COLUMN}
use Rattle.words_core.specs.Rows.{help_row_line}
use Rattle.words_core.proofs.Helped.{lines_done, lines_left}
use Rattle.words_core.proofs.help_texts.push_lines.Goals as goal

pub loop-i-preserved : goal.loop-i-preserved
loop-i-preserved c = lines_left OPTION_COLUMN help_row_line c.args.rows.now c.loop-i.i _ _ c.loop-i.text.items c.push_line.new.text.items c.loop-i-test.true c.in_ok-push_line.ensures c.loop-i.invariant

pub returns : goal.returns
returns c = sym (c.loop-i.invariant ∙ lines_done OPTION_COLUMN help_row_line c.args.rows.now c.loop-i.i c.loop-i.text.items c.loop-i-test.false)
