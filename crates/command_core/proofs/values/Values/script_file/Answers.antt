use Rattle.std.proofs.Common.{refl, sym, ◌∙◌, ap}
use Rattle.std.specs.Option.{option_map}
use Rattle.std.proofs.lemmas.Option.{none-some, slice_get_read}
use Rattle.command_core.specs.declared.values.OptionValue.{OptionValue}
use Rattle.command_core.specs.Files.{without_one_leading_dot_slash}
use Rattle.command_core.specs.Values.{script_file}
use Rattle.command_core.specs.declared.values.ValueEntry.{ValueEntry}
use Rattle.command_core.proofs.Named.{inside, script_named}
use Rattle.command_core.proofs.values.Values.script_file.Goals as goal

pub unreachable-requires : goal.unreachable-requires
unreachable-requires c =
    let is = script_named c.self.inside.entries.items c.args.self.now c.args.i c.index.result.now c.self.view_is c.self.invariant (slice_get_read c.self.inside.entries.items _ c.args.i c.index.result.now refl (inside (λ (e : ValueEntry). e.value) c.self.inside.entries.items c.args.self.now c.args.i c.self.view_is c.requires.here) c.index.ensures) c.requires.script in
    none-some _ (sym c.in-None.is ∙ is.file)

pub returns : goal.returns
returns c =
    let is = script_named c.self.inside.entries.items c.args.self.now c.args.i c.index.result.now c.self.view_is c.self.invariant (slice_get_read c.self.inside.entries.items _ c.args.i c.index.result.now refl (inside (λ (e : ValueEntry). e.value) c.self.inside.entries.items c.args.self.now c.args.i c.self.view_is c.requires.here) c.index.ensures) c.requires.script in
    ap (option_map (λ (v : OptionValue). without_one_leading_dot_slash (script_file v.text))) is.at ∙ (sym is.file ∙ c.in-Some.is)
