use denote.Enum.Bare.{differs_false, differs_true}
use Rattle.std.proofs.Common.{ap, rules, sym, ◌∙◌}
use Rattle.std.specs.Option.{option_map}
use Rattle.make_info.specs.contracts.field.Field.{the_type}
use Rattle.make_info.proofs.OptionTexts.{no_field, other_field, other_option, this_field}
use Rattle.make_info.proofs.output.option_text_for_field.Goals as goal

pub returns-then-value-ne-INFO : goal.returns-then-value-ne-INFO
returns-then-value-ne-INFO c = other_option c.args.field c.args.value.now c.if-value-ne-INFO.true

pub returns-in_err-given : goal.returns-in_err-given
returns-in_err-given c =
    ap (option_map (λ text. text.now)) c.from_residual.ensures
    ∙ no_field c.args.field c.args.value.now c.if-value-ne-INFO.false _ c.as_bytes.ensures _ c.of.ensures c.in_err-given.was

pub returns-then-ne : goal.returns-then-ne
returns-then-ne c =
    other_field c.args.field c.args.value.now c.if-value-ne-INFO.false _ c.as_bytes.ensures _ c.of.ensures c.in_ok-given.given c.in_ok-given.was
    (differs_true the_type _ _ (sym c.ne.ensures ∙ c.if-ne.true))

pub returns : goal.returns
returns c =
    this_field c.args.field c.args.value.now c.if-value-ne-INFO.false _ c.as_bytes.ensures _ c.of.ensures c.in_ok-given.given c.in_ok-given.was
    (differs_false the_type (search rules) _ _ (sym c.ne.ensures ∙ c.if-ne.false))
