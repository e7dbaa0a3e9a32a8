-- The text that a value of an option gives for a field.
use Rattle.command_core.specs.declared.values.TheConstants.{INFO}
use Rattle.command_core.specs.declared.values.OptionValue.{OptionValue}
use Rattle.std.proofs.Common.{◌≡◌, ℕ, cond, List, Option, Some, None, sym, ap, ◌∙◌}
use Rattle.std.specs.Prelude.{option_map}
use Rattle.std.specs.Cmp.Lexicographic.{bytes_decides}
use Rattle.std.proofs.lemmas.Bool.{false_from_ne_true}
use Rattle.std.proofs.lemmas.Bool.Decides.{Decides-eqb}
use Rattle.make_info.specs.declared.field.Field.{Field}
use Rattle.make_info.specs.declared.information.FieldText.{FieldText as FieldSlices}
use Rattle.make_info.specs.Fields.{field_word}
use Rattle.make_info.specs.FieldTexts.{field_text_in, is_info_option, is_same_field, option_text_for_field, value_if_for_field}
use Rattle.make_info.specs.Views.{field_text_view}
use Rattle.make_info.proofs.Reading.{same_field}

-- an option that is not `-I` gives none
pub other_option : (f : Field) (v : OptionValue) → (v.letter ≡ INFO → ⊥) → None ≡ option_text_for_field f v
other_option f v differs =
    sym (ap (λ b. cond b (value_if_for_field f (field_text_in v.text)) None) (false_from_ne_true (is_info_option v) (λ e. differs ((Decides-eqb v.letter INFO).0 e))))

-- the text of `-I`, as it is read
module _ (f : Field) (v : OptionValue) (is_info : v.letter ≡ INFO) (text : List ℕ) (shown : text ≡ v.text) (read : Option FieldSlices) (told : option_map field_text_view read ≡ field_text_in text) where
  by_reading : option_text_for_field f v ≡ value_if_for_field f (option_map field_text_view read)
  by_reading =
      ap (λ b. cond b (value_if_for_field f (field_text_in v.text)) None) ((Decides-eqb v.letter INFO).1 is_info)
      ∙ ap (value_if_for_field f) (ap field_text_in (sym shown) ∙ sym told)

  -- a text that is no FIELD:VALUE gives none
  pub no_field : read ≡ None → None ≡ option_text_for_field f v
  no_field is = sym (by_reading ∙ ap (λ o. value_if_for_field f (option_map field_text_view o)) is)

  -- a text for another field gives none
  pub other_field : (given : FieldSlices) → read ≡ Some given → (given.field ≡ f → ⊥) → None ≡ option_text_for_field f v
  other_field given is differs =
      sym (by_reading ∙ (ap (λ o. value_if_for_field f (option_map field_text_view o)) is
      ∙ ap (λ b. cond b (Some given.value.now) None) (false_from_ne_true (is_same_field given.field f) (λ e. differs (same_field given.field f e)))))

  -- a text for this field gives its value
  pub this_field : (given : FieldSlices) → read ≡ Some given → given.field ≡ f → Some given.value.now ≡ option_text_for_field f v
  this_field given is same =
      sym (by_reading ∙ (ap (λ o. value_if_for_field f (option_map field_text_view o)) is
      ∙ ap (λ b. cond b (Some given.value.now) None) ((bytes_decides (field_word given.field) (field_word f)).1 (ap field_word same))))
