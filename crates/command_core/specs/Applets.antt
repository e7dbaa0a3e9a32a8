-- What each applet may have, after apk(8): flags, options with values, operands. The rules are in
-- `docs/commands.md`, "Words", and for each applet in the section with its name.
use Rattle.std.specs.Prelude.{ℕ, ◌||◌, Option, Some, None, if◌then◌else◌}
use Rattle.command_core.specs.declared.command.Applet.{Applet}
use Rattle.command_core.specs.declared.command.Applet.TheVariants.{Add, Del, Upgrade, Fix, Info, Verify, Adbdump, Mkpkg, Mkndx, Version, Demo, Adbgen, Audit, Manifest, List, Search, Policy, Help, ProgramVersion}
use Rattle.command_core.specs.declared.command.Flags.{Flags}
use Rattle.command_core.specs.declared.operands.OperandKind.TheVariants.{File, Any, Dependency, DependencyName, PackageName, Path, Number, Pattern}
use Rattle.command_core.specs.declared.operands.OperandRule.{OperandRule}
use Rattle.command_core.specs.declared.values.TheConstants.{OUTPUT}
use Rattle.command_core.specs.Operands.{at_least, at_most, exactly}

-- the letter of the option with a value that the applet requires, if there is such an option
abbrev pub required_option_letter : Applet → Option ℕ
required_option_letter Mkndx = Some OUTPUT
required_option_letter applet = None

-- ---- operands

-- the rule of the operands of `info`: one path with `--who-owns`, one or more names of packages with one of its other
-- flags, and any number of names without a flag of its own
abbrev pub info_operand_rule : Flags → OperandRule
info_operand_rule flags =
    if flags.who_owns then exactly 1 Path else
    if flags.installed || flags.contents || flags.depends then at_least 1 PackageName else
    at_least 0 PackageName

-- the rule of the operands of `version`: exactly two texts with `--test`, one text or more with `--check`; None if
-- neither flag is given
abbrev pub version_operand_rule : Flags → Option OperandRule
version_operand_rule flags =
    if flags.test then Some (exactly 2 Any) else
    if flags.check then Some (at_least 1 Any) else
    None

-- the rule of the operands that an applet takes under some flags. None if no flag selects the kind of the command,
-- which only `version` needs
abbrev pub operand_rule_if_needed_kind_flag_given : Applet → Flags → Option OperandRule
operand_rule_if_needed_kind_flag_given Add flags = Some (at_least 0 Dependency)
operand_rule_if_needed_kind_flag_given Del flags = Some (at_least 1 DependencyName)
operand_rule_if_needed_kind_flag_given Upgrade flags = Some (at_least 0 PackageName)
operand_rule_if_needed_kind_flag_given Fix flags = Some (at_least 1 PackageName)
operand_rule_if_needed_kind_flag_given Info flags = Some (info_operand_rule flags)
operand_rule_if_needed_kind_flag_given Verify flags = Some (at_least 1 File)
operand_rule_if_needed_kind_flag_given Adbdump flags = Some (exactly 1 File)
operand_rule_if_needed_kind_flag_given Mkpkg flags = Some (exactly 0 File)
operand_rule_if_needed_kind_flag_given Mkndx flags = Some (at_least 0 File)
operand_rule_if_needed_kind_flag_given Version flags = version_operand_rule flags
operand_rule_if_needed_kind_flag_given Demo flags = Some (exactly 1 Number)
operand_rule_if_needed_kind_flag_given Adbgen flags = Some (exactly 1 File)
operand_rule_if_needed_kind_flag_given Audit flags = Some (exactly 0 Any)
operand_rule_if_needed_kind_flag_given Manifest flags = Some (at_least 1 PackageName)
operand_rule_if_needed_kind_flag_given List flags = Some (at_least 0 Pattern)
operand_rule_if_needed_kind_flag_given Search flags = Some (at_least 1 Pattern)
operand_rule_if_needed_kind_flag_given Policy flags = Some (at_least 1 PackageName)
operand_rule_if_needed_kind_flag_given Help flags = Some (at_most 1 Any)
operand_rule_if_needed_kind_flag_given ProgramVersion flags = Some (exactly 0 Any)
