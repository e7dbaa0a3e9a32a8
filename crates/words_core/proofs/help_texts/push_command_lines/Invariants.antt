use Rattle.std.proofs.Common.{◌≡◌, ◌++◌, drop, map}
use Rattle.words_core.specs.declared.help_texts.TheConstants.{COMMAND_COLUMN}
use Rattle.words_core.specs.HelpTexts.{command_help_line, help_lines_text}
use Rattle.words_core.proofs.help_texts.push_command_lines.Given as goal

-- the lines so far, with those that are left
abbrev pub invariant-loop-i : goal.invariant-loop-i
invariant-loop-i l =
    l.initial.text.items ++ help_lines_text COMMAND_COLUMN (map command_help_line l.commands)
    ≡ l.text.items ++ help_lines_text COMMAND_COLUMN (map command_help_line (drop l.i l.commands))
