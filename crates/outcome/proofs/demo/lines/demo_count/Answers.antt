use Rattle.std.proofs.Common.{sym, ap, ◌∙◌}
use Rattle.std.specs.Str.Parse.{digits_value}
use Rattle.command_core.specs.Operands.{is_demo_number}
use Rattle.outcome.proofs.DemoNumbers.{operand_number}
use Rattle.outcome.proofs.demo.lines.demo_count.Goals as goal

pub number_of-requires : goal.number_of-requires
number_of-requires c = ap is_demo_number c.as_bytes.ensures ∙ (operand_number c.args.operands.now c.get.result.now c.requires c.get.ensures).0

pub returns : goal.returns
returns c = c.number_of.ensures ∙ (ap (digits_value 10) c.as_bytes.ensures ∙ sym (operand_number c.args.operands.now c.get.result.now c.requires c.get.ensures).1)
