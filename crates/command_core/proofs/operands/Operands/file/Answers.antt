use Rattle.std.proofs.Common.{refl, sym, ◌∙◌, ap}
use Rattle.std.specs.Option.{option_map}
use Rattle.std.proofs.lemmas.Option.{none-some, slice_get_read}
use Rattle.command_core.specs.Named.{operand_file}
use Rattle.command_core.specs.declared.operands.OperandEntry.{OperandEntry}
use Rattle.command_core.proofs.Named.{inside, operand_named}
use Rattle.command_core.proofs.operands.Operands.file.Goals as goal

pub unreachable-requires : goal.unreachable-requires
unreachable-requires c =
    let is = operand_named c.self.inside.entries.items c.args.self.now c.args.i c.index.result.now c.self.view_is c.self.invariant (slice_get_read c.self.inside.entries.items _ c.args.i c.index.result.now refl (inside (λ (e : OperandEntry). e.operand) c.self.inside.entries.items c.args.self.now c.args.i c.self.view_is c.requires.here) c.index.ensures) c.requires.files in
    none-some _ (sym c.in-None.is ∙ is.file)

pub returns : goal.returns
returns c =
    let is = operand_named c.self.inside.entries.items c.args.self.now c.args.i c.index.result.now c.self.view_is c.self.invariant (slice_get_read c.self.inside.entries.items _ c.args.i c.index.result.now refl (inside (λ (e : OperandEntry). e.operand) c.self.inside.entries.items c.args.self.now c.args.i c.self.view_is c.requires.here) c.index.ensures) c.requires.files in
    ap (option_map operand_file) is.at ∙ (sym is.file ∙ c.in-Some.is)
