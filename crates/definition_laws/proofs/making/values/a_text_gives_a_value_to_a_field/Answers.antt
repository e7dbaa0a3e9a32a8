use Rattle.std.proofs.Common.{ap, ◌∙◌}
use Rattle.make_core.specs.make_info.FieldTexts.{field_text_in}
use Rattle.definition_laws.proofs.making.OptionTexts.{given, text_is}
use Rattle.definition_laws.proofs.making.values.a_text_gives_a_value_to_a_field.Goals as goal

pub returns : goal.returns
returns c = λ t value f. (text_is t (record { field = f; value = value }), λ e. ap field_text_in e ∙ given f value)
