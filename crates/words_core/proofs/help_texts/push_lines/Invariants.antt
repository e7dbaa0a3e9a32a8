use Rattle.std.proofs.Common.{◌≡◌, ◌++◌, drop, map}
use Rattle.words_core.specs.declared.help_texts.TheConstants.{OPTION_COLUMN}
use Rattle.words_core.specs.HelpTexts.{help_lines_text}
use Rattle.words_core.specs.Rows.{help_row_line}
use Rattle.words_core.proofs.help_texts.push_lines.Given as goal

-- the lines so far, with those that are left
abbrev pub invariant-loop-i : goal.invariant-loop-i
invariant-loop-i l =
    l.initial.text.items ++ help_lines_text OPTION_COLUMN (map help_row_line l.rows)
    ≡ l.text.items ++ help_lines_text OPTION_COLUMN (map help_row_line (drop l.i l.rows))
