-- The words of an array represent its entries, and a text is written as it is.
use Rattle.std.proofs.Common.{◌≡◌, ◌∙◌, ℕ, ◌<◌, true, List, length, ap, sym, subst}
use Rattle.std.specs.Prelude.{slice_index}
use Rattle.adb_view.specs.Plain.{blob_or_null}
use Rattle.adb_view.specs.Shaped.{HasShape}
use Rattle.adb_view.specs.Schema.{shape_of}
use Rattle.adb_view.specs.Values.{count_of, entries_in, is_sound, nth, text_in, value_at}
use Rattle.adb_view.specs.declared.tables.Kind.{Kind}
use Rattle.adb_view.specs.declared.tables.Kind.TheVariants as Kinds
use Rattle.adb_fields.specs.Fields.{are_all_sound, array_at}
use Rattle.adb_fields.proofs.FieldReads.{entry_count, entry_sound, entry_value}
use Rattle.adb_copy.specs.Zeros.{without_zeros}
use Rattle.adb_copy.proofs.Shapes.{FoundShapes, value_shape}
use Rattle.adb_copy.proofs.Zeros.{zeros_text}

module _ (p : List ℕ) (k : Kind) (ws : List ℕ) (i word : ℕ) (sound : are_all_sound p k ws ≡ true) (within : i < length ws) (is : word ≡ slice_index ws i) where
  pub word_sound : is_sound p k word ≡ true
  word_sound = subst (λ (w : ℕ). is_sound p k w ≡ true) (sym is) (entry_sound p k ws i sound within)

  pub word_value : value_at p k word ≡ nth (entries_in (array_at p k ws)) i
  word_value = ap (value_at p k) is ∙ entry_value p k ws i sound within

  pub word_within : i < count_of (entries_in (array_at p k ws))
  word_within = subst (λ (n : ℕ). i < n) (entry_count p k ws sound) within

pub text_value : FoundShapes → (p : List ℕ) (w : ℕ) → without_zeros (value_at p Kinds.Text w) ≡ blob_or_null (text_in (value_at p Kinds.Text w))
unfolding shape_of HasShape
text_value law p w = zeros_text (value_at p Kinds.Text w) (value_shape law p Kinds.Text w)
