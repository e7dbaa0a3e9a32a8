-- A walk over a payload that was written visits its root and every entry of its lists.
use Rattle.std.proofs.Common.{◌≡◌, ℕ, suc, ◌+◌, ◌≤◌, List, [], ◌∷◌, length, Result, refl, ap, ◌∙◌, arith}
use Rattle.std.proofs.lemmas.List.{length-append}
use Rattle.adb_view.specs.Plain.{Plain, null, int, blob, arr, obj, Plains, none, more, Shape, number, text, hash, array, object, Fields, no_fields, field, IsNormal, count_of}
use Rattle.adb_view.specs.Readers.{run_entries_of_kind_in_payload_at_word, ARRAY, OBJECT}
use Rattle.adb_view.specs.Head.{root_word_of_payload}
use Rattle.adb_view.specs.Visits.{Visit, visits, field_visits, visits_of_all_words, or_empty}
use Rattle.adb_write.specs.Canonical.{empty_layout_counting_root, write, canonical, MOST_BYTES}
use Rattle.adb_write.specs.Size.{payload_size_of, entries_of, entries_of_all, value_count}
use Rattle.base_core.specs.declared.cause.Cause.{Cause}
use Rattle.adb_view.specs.Shaped.{Each, HasShape, HaveShapes}
use Rattle.adb_write.specs.Denotes.{Holds, HoldAll}
use Rattle.adb_write.proofs.RoundTrip.{write-made, root_again}

null_run : (kind : ℕ) (p : List ℕ) (w : ℕ) → w ≡ 0 → or_empty (run_entries_of_kind_in_payload_at_word kind p w) ≡ []
unfolding run_entries_of_kind_in_payload_at_word
null_run kind p w e = rw e refl

each_visited : (p : List ℕ) (f : ℕ → List Visit) (P : Plain → Type 0) → ((v : Plain) (w : ℕ) → P v → Holds p v w → length (f w) ≡ suc (entries_of v)) → (vs : Plains) (ws : List ℕ) → Each P vs → HoldAll p vs ws → length (visits_of_all_words f ws) ≡ count_of vs + entries_of_all vs
unfolding entries_of Holds
each_visited p f P h none [] s a = refl
each_visited p f P h none (w ∷ ws) s a = absurd a
each_visited p f P h (more v vs) [] s a = absurd a
each_visited p f P h (more v vs) (w ∷ ws) s a = omega (arith, length-append (f w) (visits_of_all_words f ws), h v w s.0 a.0, each_visited p f P h vs ws s.1 a.1)

mutual
  unfolding visits HasShape Holds entries_of

  pub visited : (p : List ℕ) (s : Shape) (v : Plain) (w : ℕ) → HasShape s v → Holds p v w → length (visits p s w) ≡ suc (entries_of v)
  visited p number null w s h = refl
  visited p number (int n) w s h = refl
  visited p number (blob b) w s h = absurd s
  visited p number (arr vs) w s h = absurd s
  visited p number (obj vs) w s h = absurd s
  visited p text null w s h = refl
  visited p text (int n) w s h = absurd s
  visited p text (blob b) w s h = refl
  visited p text (arr vs) w s h = absurd s
  visited p text (obj vs) w s h = absurd s
  visited p hash null w s h = refl
  visited p hash (int n) w s h = absurd s
  visited p hash (blob b) w s h = refl
  visited p hash (arr vs) w s h = absurd s
  visited p hash (obj vs) w s h = absurd s
  visited p (array t) null w s h = ap (λ (ws : List ℕ). suc (length (visits_of_all_words (visits p t) ws))) (null_run ARRAY p w h)
  visited p (array t) (int n) w s h = absurd s
  visited p (array t) (blob b) w s h = absurd s
  visited p (array t) (arr vs) w s (ne, ws, is, all) =
      ap (λ (r : Result (List ℕ) Cause). suc (length (visits_of_all_words (visits p t) (or_empty r)))) is ∙ ap suc (each_visited p (visits p t) (HasShape t) (visited p t) vs ws s all)
  visited p (array t) (obj vs) w s h = absurd s
  visited p (object schema fs) null w s h = ap (λ (ws : List ℕ). suc (length (field_visits p fs ws))) (null_run OBJECT p w h) ∙ ap suc (nothing fs)
    where
      nothing : (fs : Fields) → length (field_visits p fs []) ≡ 0
      nothing no_fields = refl
      nothing (field name t fs) = refl
  visited p (object schema fs) (int n) w s h = absurd s
  visited p (object schema fs) (blob b) w s h = absurd s
  visited p (object schema fs) (arr vs) w s h = absurd s
  visited p (object schema fs) (obj vs) w s (ne, ws, is, all) =
      ap (λ (r : Result (List ℕ) Cause). suc (length (field_visits p fs (or_empty r)))) is ∙ ap suc (fields_visited p fs vs ws s all)

  fields_visited : (p : List ℕ) (fs : Fields) (vs : Plains) (ws : List ℕ) → HaveShapes fs vs → HoldAll p vs ws → length (field_visits p fs ws) ≡ count_of vs + entries_of_all vs
  fields_visited p no_fields none [] s a = refl
  fields_visited p no_fields none (w ∷ ws) s a = absurd a
  fields_visited p no_fields (more v vs) ws s a = absurd s
  fields_visited p (field name t fs) none [] s a = refl
  fields_visited p (field name t fs) none (w ∷ ws) s a = absurd a
  fields_visited p (field name t fs) (more v vs) [] s a = absurd a
  fields_visited p (field name t fs) (more v vs) (w ∷ ws) s a =
      omega (arith, length-append (visits p t w) (field_visits p fs ws), visited p t v w s.0 a.0, fields_visited p fs vs ws s.1 a.1)

pub canonical_visited : (s : Shape) (v : Plain) → IsNormal v → HasShape s v → payload_size_of v ≤ MOST_BYTES → length (visits (canonical v) s (root_word_of_payload (canonical v))) ≡ value_count v
canonical_visited s v n h fits =
    let r = write v empty_layout_counting_root in
    let made = write-made v empty_layout_counting_root n (omega arith) in
    ap (λ (w : ℕ). length (visits (canonical v) s w)) (root_again r.0 r.1 made.small) ∙ visited (canonical v) s v r.0 h (made.holds r.0) ∙ omega arith
