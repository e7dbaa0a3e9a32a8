-- Rules that do not look at what stands around a value.
use Rattle.std.proofs.Common.{◌≡◌, ℕ, zero, suc, ◌+◌, ◌*◌, List, [], ◌∷◌, Some, None, refl, ap, sym, subst, ◌∙◌, arith, add-zero}
use Rattle.adb_view.specs.Plain.{Plain, null, Plains, none, more, Shape, number, text, hash, array, object, Fields, no_fields, field}
use Rattle.pkg_core.specs.adb_schema.Texts.{Surroundings, Leaf, text_leaf, leaves, field_leaves, leaves_of_all_values, surroundings_of_fields, first_bad_leaf, is_allowed_text_of_field}
use Rattle.adb_view.specs.Values.{nth, entries_in, text_in}
use Rattle.base_core.specs.declared.cause.Cause.TheVariants.{BadText}
use Rattle.std.specs.Prelude.{Bool, if◌then◌else◌}
use Rattle.make_core.proofs.ValueParts.{shape_at}
use Rattle.make_core.proofs.GoodValues.{good_append, good_back, good_front}

unfoldable mutual
  pub IsBlind : Shape → ℕ → Type 0
  IsBlind number place = Unit {0}
  IsBlind text place = (a b : Surroundings) (x : List ℕ) → is_allowed_text_of_field place a x ≡ is_allowed_text_of_field place b x
  IsBlind hash place = (a b : Surroundings) (x : List ℕ) → is_allowed_text_of_field place a x ≡ is_allowed_text_of_field place b x
  IsBlind (array s) place = IsBlind s place
  IsBlind (object schema fs) place = AreBlind fs (100 * schema + 1)

  pub AreBlind : Fields → ℕ → Type 0
  AreBlind no_fields place = Unit {0}
  AreBlind (field name s fs) place = IsBlind s place × AreBlind fs (place + 1)

-- but for the field with this number
abbrev pub AreBlindBut : ℕ → Fields → ℕ → Type 0
AreBlindBut i no_fields place = Unit {0}
AreBlindBut zero (field name s fs) place = AreBlind fs (place + 1)
AreBlindBut (suc i) (field name s fs) place = IsBlind s place × AreBlindBut i fs (place + 1)

one_turned : (place : ℕ) (a b : Surroundings) (x : List ℕ) → is_allowed_text_of_field place a x ≡ is_allowed_text_of_field place b x → first_bad_leaf (text_leaf place a x ∷ []) ≡ None → first_bad_leaf (text_leaf place b x ∷ []) ≡ None
one_turned place a b x e h = ap (λ (t : Bool). if t then None else Some (BadText place)) (sym e) ∙ h

each_turned : (f g : Plain → List Leaf) → ((v : Plain) → first_bad_leaf (f v) ≡ None → first_bad_leaf (g v) ≡ None) → (vs : Plains) → first_bad_leaf (leaves_of_all_values f vs) ≡ None → first_bad_leaf (leaves_of_all_values g vs) ≡ None
each_turned f g t none h = refl
each_turned f g t (more v vs) h = good_append (g v) (leaves_of_all_values g vs) (t v (good_front (f v) (leaves_of_all_values f vs) h)) (each_turned f g t vs (good_back (f v) (leaves_of_all_values f vs) h))

mutual
  unfolding leaves field_leaves IsBlind AreBlind

  pub turned : (s : Shape) (place : ℕ) (a b : Surroundings) (v : Plain) → IsBlind s place → first_bad_leaf (leaves s place a v) ≡ None → first_bad_leaf (leaves s place b v) ≡ None
  turned number place a b v blind h = h
  turned text place a b v blind h = one_turned place a b (text_in v) (blind a b (text_in v)) h
  turned hash place a b v blind h = one_turned place a b (text_in v) (blind a b (text_in v)) h
  turned (array s) place a b v blind h = each_turned (leaves s place a) (leaves s place b) (λ u. turned s place a b u blind) (entries_in v) h
  turned (object schema fs) place a b v blind h = all_turned fs (100 * schema + 1) (surroundings_of_fields schema a v) (surroundings_of_fields schema b v) (entries_in v) blind h

  pub all_turned : (fs : Fields) (place : ℕ) (a b : Surroundings) (vs : Plains) → AreBlind fs place → first_bad_leaf (field_leaves fs place a vs) ≡ None → first_bad_leaf (field_leaves fs place b vs) ≡ None
  all_turned no_fields place a b vs blind h = refl
  all_turned (field name s fs) place a b none blind h =
      good_append (leaves s place b null) (field_leaves fs (place + 1) b none) (turned s place a b null blind.0 (good_front (leaves s place a null) (field_leaves fs (place + 1) a none) h))
      (all_turned fs (place + 1) a b none blind.1 (good_back (leaves s place a null) (field_leaves fs (place + 1) a none) h))
  all_turned (field name s fs) place a b (more v vs) blind h =
      good_append (leaves s place b v) (field_leaves fs (place + 1) b vs) (turned s place a b v blind.0 (good_front (leaves s place a v) (field_leaves fs (place + 1) a vs) h))
      (all_turned fs (place + 1) a b vs blind.1 (good_back (leaves s place a v) (field_leaves fs (place + 1) a vs) h))

pub turned_but : (i : ℕ) (fs : Fields) (s : Shape) (place : ℕ) (a b : Surroundings) (vs : Plains) → shape_at fs i ≡ Some s → AreBlindBut i fs place
    → first_bad_leaf (leaves s (place + i) b (nth vs i)) ≡ None → first_bad_leaf (field_leaves fs place a vs) ≡ None → first_bad_leaf (field_leaves fs place b vs) ≡ None
unfolding field_leaves
turned_but i no_fields s place a b vs e blind good h = refl
turned_but zero (field name t fs) s place a b none e blind good h =
    let same : s ≡ t = cc in
    let here = subst (λ (u : Shape). first_bad_leaf (leaves u place b null) ≡ None) same (subst (λ n. first_bad_leaf (leaves s n b null) ≡ None) (add-zero place) good) in
    good_append (leaves t place b null) (field_leaves fs (place + 1) b none) here (all_turned fs (place + 1) a b none blind (good_back (leaves t place a null) (field_leaves fs (place + 1) a none) h))
turned_but zero (field name t fs) s place a b (more v vs) e blind good h =
    let same : s ≡ t = cc in
    let here = subst (λ (u : Shape). first_bad_leaf (leaves u place b v) ≡ None) same (subst (λ n. first_bad_leaf (leaves s n b v) ≡ None) (add-zero place) good) in
    good_append (leaves t place b v) (field_leaves fs (place + 1) b vs) here (all_turned fs (place + 1) a b vs blind (good_back (leaves t place a v) (field_leaves fs (place + 1) a vs) h))
turned_but (suc i) (field name t fs) s place a b none e blind good h =
    let n : place + suc i ≡ place + 1 + i = omega arith in
    good_append (leaves t place b null) (field_leaves fs (place + 1) b none) (turned t place a b null blind.0 (good_front (leaves t place a null) (field_leaves fs (place + 1) a none) h))
    (turned_but i fs s (place + 1) a b none e blind.1 (subst (λ m. first_bad_leaf (leaves s m b null) ≡ None) n good) (good_back (leaves t place a null) (field_leaves fs (place + 1) a none) h))
turned_but (suc i) (field name t fs) s place a b (more v vs) e blind good h =
    let n : place + suc i ≡ place + 1 + i = omega arith in
    good_append (leaves t place b v) (field_leaves fs (place + 1) b vs) (turned t place a b v blind.0 (good_front (leaves t place a v) (field_leaves fs (place + 1) a vs) h))
    (turned_but i fs s (place + 1) a b vs e blind.1 (subst (λ m. first_bad_leaf (leaves s m b (nth vs i)) ≡ None) n good) (good_back (leaves t place a v) (field_leaves fs (place + 1) a vs) h))
