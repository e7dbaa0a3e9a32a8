-- When flags, operands and values form a command: each is allowed for its applet, and no required value is missing.
-- The rules are in `docs/commands.md`, "Words", the table of options and what follows it.
use Rattle.std.specs.Prelude.{ℕ, ◌==◌, nat_le, Bool, true, false, not, ◌&&◌, ◌||◌, List, [], ◌∷◌, length, Option, Some, None, IsTrue}
use Rattle.std.specs.List.{find, list_all, list_any}
use Rattle.command_core.specs.declared.command.Applet.{Applet}
use Rattle.command_core.specs.declared.command.Applet.TheVariants.{Add, Del, Upgrade, Fix, Info, Mkpkg, Mkndx, Version, List as ListApplet, Help, ProgramVersion}
use Rattle.command_core.specs.declared.command.Flag.{Flag}
use Rattle.command_core.specs.declared.command.Flag.TheVariants.{AllowUntrusted, NoScripts, Initdb, Simulate, Purge, Installed, Contents, Depends, WhoOwns, Test, Check}
use Rattle.command_core.specs.declared.command.Flags.{Flags}
use Rattle.command_core.specs.declared.operands.Operand.{Operand}
use Rattle.command_core.specs.declared.operands.OperandRule.{OperandRule}
use Rattle.command_core.specs.declared.values.OptionValue.{OptionValue}
use Rattle.command_core.specs.declared.values.ValueRule.{ValueRule}
use Rattle.command_core.specs.Applets.{required_option_letter, operand_rule_if_needed_kind_flag_given}
use Rattle.command_core.specs.Command.{CommandLine}
use Rattle.command_core.specs.Flags.{has_flag, command_kind_flags, no_flags, with_flag}
use Rattle.command_core.specs.Operands.{is_operand_of_kind}
use Rattle.command_core.specs.Values.{compression_rule, description_rule, excludes, files_rule, info_rule, is_value_of_kind, is_required_value_missing, output_rule, script_rule, repeatable_nonempty_trigger_rule}

-- ---- flags

-- all flags, each once
abbrev pub all_flags : List Flag
all_flags =
    AllowUntrusted ∷ (NoScripts ∷ (Initdb ∷ (Simulate ∷ (Purge ∷
    (Installed ∷ (Contents ∷ (Depends ∷ (WhoOwns ∷ (Test ∷ (Check ∷ []))))))))))

-- whether at most one flag of a list is among `flags`, the flags that were given
abbrev pub has_at_most_one : List Flag → Flags → Bool
has_at_most_one [] flags = true
has_at_most_one (flag ∷ others) flags =
    not (has_flag flag flags && list_any (λ other. has_flag other flags) others)
    && has_at_most_one others flags

-- whether each flag that was given is among those that are allowed
abbrev pub are_flags_allowed : Flags → Flags → Bool
are_flags_allowed allowed flags =
    list_all (λ flag. not (has_flag flag flags) || has_flag flag allowed) all_flags

-- the flags of every applet that a word of the command line can name; `Help` and `ProgramVersion` have none
abbrev pub common_flags : Flags
common_flags = with_flag AllowUntrusted (with_flag NoScripts no_flags)

-- the flags that an applet may have
abbrev pub allowed_flags : Applet → Flags
allowed_flags Add = with_flag Initdb (with_flag Simulate common_flags)
allowed_flags Del = with_flag Simulate (with_flag Purge common_flags)
allowed_flags Upgrade = with_flag Simulate common_flags
allowed_flags Fix = with_flag Simulate common_flags
allowed_flags Info =
    with_flag Installed (with_flag Contents (with_flag Depends (with_flag WhoOwns common_flags)))
allowed_flags Version = with_flag Test (with_flag Check common_flags)
allowed_flags ListApplet = with_flag Installed common_flags
allowed_flags Help = no_flags
allowed_flags ProgramVersion = no_flags
allowed_flags applet = common_flags

-- whether an applet may have the flags that were given: each is allowed for the applet, and at most one selects the
-- kind of the command
abbrev pub may_have_flags : Applet → Flags → Bool
may_have_flags applet flags =
    are_flags_allowed (allowed_flags applet) flags && has_at_most_one command_kind_flags flags

-- ---- operands

-- whether a number of operands is no more than the most that a rule takes (None: no limit)
abbrev pub is_count_within_limit : Option ℕ → ℕ → Bool
is_count_within_limit None count = true
is_count_within_limit (Some most) count = nat_le count most

-- whether a rule allows these operands: each is of the rule's kind, and their number is within its limits. None: the
-- command lacks the flag that selects its kind, and not even an empty list is allowed
abbrev pub are_allowed_operands : Option OperandRule → List Operand → Bool
are_allowed_operands None operands = false
are_allowed_operands (Some rule) operands =
    nat_le rule.least (length operands) && is_count_within_limit rule.most (length operands)
    && list_all (λ (o : Operand). is_operand_of_kind rule.kind o.text) operands

-- ---- options with values

-- the rules of the options of an applet that have values
abbrev pub value_rules : Applet → List ValueRule
value_rules Mkpkg =
    info_rule ∷ (script_rule ∷ (repeatable_nonempty_trigger_rule ∷
    (files_rule ∷ (output_rule ∷ (compression_rule ∷ [])))))
value_rules Mkndx = description_rule ∷ (output_rule ∷ (compression_rule ∷ []))
value_rules applet = []

-- the rule of the option with this letter, if it is among some rules
abbrev pub value_rule_of_letter : List ValueRule → ℕ → Option ValueRule
value_rule_of_letter rules letter = find (λ (rule : ValueRule). rule.letter == letter) rules

-- whether a text may be a value of an option with this rule; None: there is no such option
abbrev pub is_allowed_value : Option ValueRule → List ℕ → Bool
is_allowed_value None text = false
is_allowed_value (Some rule) text = is_value_of_kind rule.kind text

-- whether two values of one option exclude each other, by the option's rule: all values of an option that may be given
-- once do. None: there is no such option
abbrev pub are_exclusive_values : Option ValueRule → List ℕ → List ℕ → Bool
are_exclusive_values None a b = false
are_exclusive_values (Some rule) a b = rule.single || excludes rule.kind a b

-- whether two values may both be given: they are of different options, or neither excludes the
-- other
abbrev pub may_both_be_given : List ValueRule → OptionValue → OptionValue → Bool
may_both_be_given rules a b =
    not ((a.letter == b.letter) && are_exclusive_values (value_rule_of_letter rules a.letter) a.text b.text)

-- whether each value is allowed by the rule of its option, which is among these rules, and no two values exclude each
-- other
abbrev pub are_allowed_values : List ValueRule → List OptionValue → Bool
are_allowed_values rules [] = true
are_allowed_values rules (v ∷ vs) =
    is_allowed_value (value_rule_of_letter rules v.letter) v.text && list_all (may_both_be_given rules v) vs
    && are_allowed_values rules vs

-- ---- the command

-- whether the applet may have flags, operands and values together, and no required value is missing
abbrev pub is_valid_command : CommandLine → Bool
is_valid_command c =
    may_have_flags c.applet c.flags
    && are_allowed_operands (operand_rule_if_needed_kind_flag_given c.applet c.flags) c.operands
    && are_allowed_values (value_rules c.applet) c.values
    && not (is_required_value_missing (required_option_letter c.applet) c.values)

-- a command line is valid: its applet may have its flags, operands and values, and no required value is missing
abbrev pub IsValidCommand : CommandLine → Type 0
IsValidCommand command = IsTrue (is_valid_command command)
