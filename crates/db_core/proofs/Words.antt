-- The words of an array stand for the elements of its list.
use Rattle.std.proofs.Common.{◌≡◌, ◌∙◌, ℕ, ◌<◌, true, List, length, Some, ap, sym}
use Rattle.std.specs.Prelude.{slice_get, slice_index}
use Rattle.adb_view.specs.Values.{entries_in, value_at}
use Rattle.adb_view.specs.declared.tables.Kind.{Kind}
use Rattle.adb_copy.specs.adb_fields.Fields.{are_all_sound, array_at}
use Rattle.adb_copy.specs.adb_fields.Repeated.{list_of}
use Rattle.adb_copy.proofs.adb_fields.FieldReads.{entry_count}
use Rattle.adb_copy.proofs.adb_fields.NameLists.{count-listed}
use Rattle.adb_copy.proofs.ReadWords.{word_value, word_within}
use Rattle.db_core.proofs.Places.{nth_listed}

module _ (p : List ℕ) (k : Kind) (ws : List ℕ) (sound : are_all_sound p k ws ≡ true) where
  pub word_listed : (i word : ℕ) → i < length ws → word ≡ slice_index ws i → slice_get (list_of (entries_in (array_at p k ws))) i ≡ Some (value_at p k word)
  word_listed i word within is =
      nth_listed (entries_in (array_at p k ws)) i (word_within p k ws i word sound within is) ∙ ap Some (sym (word_value p k ws i word sound within is))

  pub words_listed : length ws ≡ length (list_of (entries_in (array_at p k ws)))
  words_listed = entry_count p k ws sound ∙ count-listed (entries_in (array_at p k ws))
