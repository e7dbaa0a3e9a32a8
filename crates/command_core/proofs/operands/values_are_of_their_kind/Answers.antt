use Rattle.std.proofs.Common.{◌≡◌, true, subst}
use Rattle.command_core.specs.declared.values.TheConstants.{FILES, OUTPUT}
use Rattle.command_core.specs.Sound.{value_rules, is_allowed_value, value_rule_of_letter}
use Rattle.command_core.proofs.Parts.{folder_by, has_parts, output_by, script_by, value_at, value_found}
use Rattle.command_core.proofs.operands.values_are_of_their_kind.Goals as goal

pub returns-clause-each : goal.returns-clause-each
returns-clause-each _ c i v h at = value_at (value_rules c.applet) c.values i v (has_parts c h).values at

pub returns-clause-output : goal.returns-clause-output
returns-clause-output _ c v h f =
    output_by c.applet v.text (value_found (value_rules c.applet) c.values OUTPUT v (has_parts c h).values f)

pub returns-clause-folder : goal.returns-clause-folder
returns-clause-folder _ c v h f =
    folder_by c.applet v.text (value_found (value_rules c.applet) c.values FILES v (has_parts c h).values f)

pub returns-clause-script : goal.returns-clause-script
returns-clause-script _ c i v h at s =
    script_by c.applet v.text (subst (λ n. is_allowed_value (value_rule_of_letter (value_rules c.applet) n) v.text ≡ true) s (value_at (value_rules c.applet) c.values i v (has_parts c h).values at))
