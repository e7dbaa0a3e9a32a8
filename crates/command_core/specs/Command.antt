-- What a command line asks for, and when it is a command. The rules are in `docs/commands.md`, "Words".
use Rattle.std.specs.Prelude.{ℕ, List}
use Rattle.command_core.specs.declared.command.Applet.{Applet}
use Rattle.command_core.specs.declared.command.Flags.{Flags}
use Rattle.command_core.specs.declared.operands.Operand.{Operand}
use Rattle.command_core.specs.declared.values.OptionValue.{OptionValue}

-- an applet, the flags given, the operands, each with its place and its text as given, the values of
-- options, and the place after the last word
pub record CommandLine : Type 0 where
  -- what the command does
  pub applet : Applet
  -- the options without a value that were given
  pub flags : Flags
  -- the operands after the name of the applet
  pub operands : List Operand
  -- the values that options were given
  pub values : List OptionValue
  -- the place after the last argument, counted from 1
  pub behind : ℕ

-- the command line with these parts; `behind` is the place after its last word, counted from 1
abbrev pub command_from_parts_and_end_place : Applet → Flags → List Operand → List OptionValue → ℕ
    → CommandLine
command_from_parts_and_end_place applet flags operands values behind =
    record { applet = applet; flags = flags; operands = operands; values = values; behind = behind }
