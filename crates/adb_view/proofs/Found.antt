-- A plain value is found exactly if each visit is sound.
use Rattle.std.proofs.Common.{◌≡◌, ℕ, Bool, true, false, cond, eqb, ◌&&◌, List, [], ◌∷◌, ◌++◌, Option, Some, None, option_map, Result, Ok, Err, refl, sym, ap, ◌∙◌}
use Rattle.std.specs.Prelude.{is_some, is_none}
use Rattle.std.specs.Result.{result_err}
use Rattle.std.specs.List.{list_all}
use Rattle.std.proofs.lemmas.Bool.{eqb-true}
use Rattle.std.proofs.lemmas.List.Folds.{list_all-append}
use Rattle.adb_view.specs.Plain.{Plain, null, int, Plains, none, more, Shape, number, text, hash, array, object, Fields, no_fields, field, blob_or_null, array_or_null, trimmed_object_or_null, null_plain_if_null_word, option_of_ok_value, plains_if_first_and_rest, plains_of_all_words, plain_of, plains_of}
use Rattle.adb_view.specs.Readers.{int_of, blob_of, run_entries_of_kind_in_payload_at_word, ARRAY, OBJECT}
use Rattle.adb_view.specs.Visits.{Visit, or_empty, visits_of_all_words, visits, field_visits, is_sound_visit}
use Rattle.base_core.specs.declared.cause.Cause.{Cause}

abbrev all_sound : List ℕ → List Visit → Bool
all_sound p vs = list_all (is_sound_visit p) vs

all_sound-append : (p : List ℕ) (us vs : List Visit) → all_sound p (us ++ vs) ≡ (all_sound p us && all_sound p vs)
all_sound-append p us vs = list_all-append (is_sound_visit p) us vs

-- NULL is read by each reader, so it changes nothing
null_plain_if_null_word-is_some : (w : ℕ) (v : Option Plain) → (w ≡ 0 → is_some v ≡ true) → is_some (null_plain_if_null_word w v) ≡ is_some v
null_plain_if_null_word-is_some w v h = by_test (eqb w 0) refl
  where
    by_test : (b : Bool) → eqb w 0 ≡ b → is_some (cond b (Some null) v) ≡ is_some v
    by_test true e = sym (h (eqb-true _ _ e))
    by_test false e = refl

pub int_of-null : (p : List ℕ) → int_of p 0 ≡ Ok 0
unfolding int_of
int_of-null p = refl

pub blob_of-null : (p : List ℕ) → blob_of p 0 ≡ Ok []
unfolding blob_of
blob_of-null p = refl

pub run_entries_of_kind_in_payload_at_word-null : (tag : ℕ) (p : List ℕ) → run_entries_of_kind_in_payload_at_word tag p 0 ≡ Ok []
unfolding run_entries_of_kind_in_payload_at_word
run_entries_of_kind_in_payload_at_word-null tag p = refl

found-one : {A : Type 0} (f : A → Plain) (r : Result A Cause) → is_some (option_of_ok_value (λ x. Some (f x)) r) ≡ (is_none (result_err r) && true)
found-one f (Ok x) = refl
found-one f (Err c) = refl

is_some-map : {A B : Type 0} (f : A → B) (o : Option A) → is_some (option_map f o) ≡ is_some o
is_some-map f (Some x) = refl
is_some-map f None = refl

is_some-plains_if_first_and_rest : (v : Option Plain) (vs : Option Plains) → is_some (plains_if_first_and_rest v vs) ≡ (is_some v && is_some vs)
is_some-plains_if_first_and_rest (Some v) vs = is_some-map (more v) vs
is_some-plains_if_first_and_rest None vs = refl

found-each : (p : List ℕ) (f : ℕ → Option Plain) (g : ℕ → List Visit) → ((w : ℕ) → is_some (f w) ≡ all_sound p (g w)) → (ws : List ℕ) → is_some (plains_of_all_words f ws) ≡ all_sound p (visits_of_all_words g ws)
found-each p f g h [] = refl
found-each p f g h (w ∷ ws) =
    is_some-plains_if_first_and_rest (f w) (plains_of_all_words f ws) ∙ ap (λ b. b && is_some (plains_of_all_words f ws)) (h w) ∙ ap (λ b. all_sound p (g w) && b) (found-each p f g h ws) ∙ sym (all_sound-append p (g w) (visits_of_all_words g ws))

found-entries : (p : List ℕ) (f : Plains → Plain) (g : List ℕ → Option Plains) (h : List ℕ → List Visit) → ((ws : List ℕ) → is_some (g ws) ≡ all_sound p (h ws)) → h [] ≡ [] → (r : Result (List ℕ) Cause) → is_some (option_of_ok_value (λ ws. option_map f (g ws)) r) ≡ (is_none (result_err r) && all_sound p (h (or_empty r)))
found-entries p f g h e z (Ok ws) = is_some-map f (g ws) ∙ e ws
found-entries p f g h e z (Err c) = refl

no_field_visits : (p : List ℕ) (fs : Fields) → field_visits p fs [] ≡ []
unfolding field_visits
no_field_visits p no_fields = refl
no_field_visits p (field name s fs) = refl

no_fields_found : (p : List ℕ) (fs : Fields) → plains_of p fs [] ≡ Some none
unfolding plains_of
no_fields_found p no_fields = refl
no_fields_found p (field name s fs) = refl

mutual
  unfolding plain_of visits

  pub plain_of-found : (p : List ℕ) (s : Shape) (w : ℕ) → is_some (plain_of p s w) ≡ all_sound p (visits p s w)
  plain_of-found p number w = null_plain_if_null_word-is_some w _ (λ e. rw (e, int_of-null p) refl) ∙ found-one int (int_of p w)
  plain_of-found p text w = null_plain_if_null_word-is_some w _ (λ e. rw (e, blob_of-null p) refl) ∙ found-one blob_or_null (blob_of p w)
  plain_of-found p hash w = null_plain_if_null_word-is_some w _ (λ e. rw (e, blob_of-null p) refl) ∙ found-one blob_or_null (blob_of p w)
  plain_of-found p (array s) w =
      null_plain_if_null_word-is_some w _ (λ e. rw (e, run_entries_of_kind_in_payload_at_word-null ARRAY p) refl)
      ∙ found-entries p array_or_null (plains_of_all_words (plain_of p s)) (visits_of_all_words (visits p s)) (found-each p (plain_of p s) (visits p s) (plain_of-found p s)) refl (run_entries_of_kind_in_payload_at_word ARRAY p w)
  plain_of-found p (object schema fs) w =
      null_plain_if_null_word-is_some w _ (λ e. rw (e, run_entries_of_kind_in_payload_at_word-null OBJECT p, no_fields_found p fs) refl)
      ∙ found-entries p trimmed_object_or_null (plains_of p fs) (field_visits p fs) (plains_of-found p fs) (no_field_visits p fs) (run_entries_of_kind_in_payload_at_word OBJECT p w)

  pub plains_of-found : (p : List ℕ) (fs : Fields) (ws : List ℕ) → is_some (plains_of p fs ws) ≡ all_sound p (field_visits p fs ws)
  plains_of-found p no_fields ws = refl
  plains_of-found p (field name s fs) [] = refl
  plains_of-found p (field name s fs) (w ∷ ws) =
      is_some-plains_if_first_and_rest (plain_of p s w) (plains_of p fs ws) ∙ ap (λ b. b && is_some (plains_of p fs ws)) (plain_of-found p s w) ∙ ap (λ b. all_sound p (visits p s w) && b) (plains_of-found p fs ws)
      ∙ sym (all_sound-append p (visits p s w) (field_visits p fs ws))
