-- The words of an array stand for its entries.
use Rattle.std.proofs.Common.{◌≡◌, ◌∙◌, ℕ, ◌<◌, true, List, length, ap, sym, subst}
use Rattle.std.specs.Prelude.{slice_index}
use Rattle.adb_view.specs.Values.{count_of, entries_in, is_sound, nth, value_at}
use Rattle.adb_view.specs.declared.tables.Kind.{Kind}
use Rattle.path_claims.specs.adb_fields.Fields.{are_all_sound, array_at}
use Rattle.path_claims.proofs.adb_fields.FieldReads.{entry_count, entry_sound, entry_value}

module _ (p : List ℕ) (k : Kind) (ws : List ℕ) (i word : ℕ) (sound : are_all_sound p k ws ≡ true) (within : i < length ws) (is : word ≡ slice_index ws i) where
  pub word_sound : is_sound p k word ≡ true
  word_sound = subst (λ (w : ℕ). is_sound p k w ≡ true) (sym is) (entry_sound p k ws i sound within)

  pub word_value : value_at p k word ≡ nth (entries_in (array_at p k ws)) i
  word_value = ap (value_at p k) is ∙ entry_value p k ws i sound within

  pub word_within : i < count_of (entries_in (array_at p k ws))
  word_within = subst (λ (n : ℕ). i < n) (entry_count p k ws sound) within
