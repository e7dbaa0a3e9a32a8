-- The parts of a value that has its shape and keeps its rules.
use Rattle.std.proofs.Common.{◌≡◌, ℕ, zero, suc, ◌+◌, ◌<◌, Option, Some, None, refl, sym, subst, arith, add-zero}
use Rattle.adb_view.specs.Plain.{Plain, null, Plains, none, more, Shape, Fields, no_fields, field}
use Rattle.adb_view.specs.Shaped.{HasShape, HaveShapes}
use Rattle.pkg_core.specs.adb_schema.Texts.{Surroundings, leaves, field_leaves, first_bad_leaf}
use Rattle.adb_view.specs.Values.{nth}
use Rattle.adb_view.proofs.FoundShapes.{shape_null, shapes_none}
use Rattle.adb_copy.specs.Zeros.{with_value_set_at_index}
use Rattle.make_core.proofs.GoodValues.{good_append, good_back, good_front}

abbrev pub shape_at : Fields → ℕ → Option Shape
shape_at no_fields i = None
shape_at (field name s fs) zero = Some s
shape_at (field name s fs) (suc i) = shape_at fs i

pub part_shaped : (fs : Fields) (i : ℕ) (s : Shape) (vs : Plains) → shape_at fs i ≡ Some s → HaveShapes fs vs → HasShape s (nth vs i)
unfolding HaveShapes
part_shaped no_fields i s vs e h = absurd cc
part_shaped (field name t fs) i s none e h = shape_null s
part_shaped (field name t fs) zero s (more v vs) e h = let same : t ≡ s = cc in subst (λ (u : Shape). HasShape u v) same h.0
part_shaped (field name t fs) (suc i) s (more v vs) e h = part_shaped fs i s vs e h.1

pub part_kept : (fs : Fields) (i : ℕ) (s : Shape) (place : ℕ) (around : Surroundings) (vs : Plains) → shape_at fs i ≡ Some s → first_bad_leaf (field_leaves fs place around vs) ≡ None → first_bad_leaf (leaves s (place + i) around (nth vs i)) ≡ None
unfolding field_leaves
part_kept no_fields i s place around vs e h = absurd cc
part_kept (field name t fs) zero s place around none e h =
    let same : t ≡ s = cc in
    subst (λ (u : Shape). first_bad_leaf (leaves u (place + 0) around null) ≡ None) same (subst (λ n. first_bad_leaf (leaves t n around null) ≡ None) (sym (add-zero place)) (good_front (leaves t place around null) (field_leaves fs (place + 1) around none) h))
part_kept (field name t fs) zero s place around (more v vs) e h =
    let same : t ≡ s = cc in
    subst (λ (u : Shape). first_bad_leaf (leaves u (place + 0) around v) ≡ None) same (subst (λ n. first_bad_leaf (leaves t n around v) ≡ None) (sym (add-zero place)) (good_front (leaves t place around v) (field_leaves fs (place + 1) around vs) h))
part_kept (field name t fs) (suc i) s place around none e h =
    let n : place + 1 + i ≡ place + suc i = omega arith in
    subst (λ m. first_bad_leaf (leaves s m around null) ≡ None) n (part_kept fs i s (place + 1) around none e (good_back (leaves t place around null) (field_leaves fs (place + 1) around none) h))
part_kept (field name t fs) (suc i) s place around (more v vs) e h =
    let n : place + 1 + i ≡ place + suc i = omega arith in
    subst (λ m. first_bad_leaf (leaves s m around (nth vs i)) ≡ None) n (part_kept fs i s (place + 1) around vs e (good_back (leaves t place around v) (field_leaves fs (place + 1) around vs) h))

-- ---- another value at a place

pub placed_shaped : (fs : Fields) (i : ℕ) (s : Shape) (v : Plain) (vs : Plains) → shape_at fs i ≡ Some s → HasShape s v → HaveShapes fs vs → HaveShapes fs (with_value_set_at_index i v vs)
unfolding HaveShapes
placed_shaped no_fields i s v vs e a h = absurd cc
placed_shaped (field name t fs) zero s v none e a h = let same : s ≡ t = cc in (subst (λ (u : Shape). HasShape u v) same a, shapes_none fs)
placed_shaped (field name t fs) zero s v (more u us) e a h = let same : s ≡ t = cc in (subst (λ (u : Shape). HasShape u v) same a, h.1)
placed_shaped (field name t fs) (suc i) s v none e a h = (shape_null t, placed_shaped fs i s v none e a (shapes_none fs))
placed_shaped (field name t fs) (suc i) s v (more u us) e a h = (h.0, placed_shaped fs i s v us e a h.1)

pub placed_kept : (fs : Fields) (i : ℕ) (s : Shape) (place : ℕ) (around : Surroundings) (v : Plain) (vs : Plains) → shape_at fs i ≡ Some s
    → first_bad_leaf (leaves s (place + i) around v) ≡ None → first_bad_leaf (field_leaves fs place around vs) ≡ None → first_bad_leaf (field_leaves fs place around (with_value_set_at_index i v vs)) ≡ None
unfolding field_leaves
placed_kept no_fields i s place around v vs e a h = absurd cc
placed_kept (field name t fs) zero s place around v none e a h =
    let same : s ≡ t = cc in
    let here = subst (λ (u : Shape). first_bad_leaf (leaves u place around v) ≡ None) same (subst (λ n. first_bad_leaf (leaves s n around v) ≡ None) (add-zero place) a) in
    good_append (leaves t place around v) (field_leaves fs (place + 1) around none) here (good_back (leaves t place around null) (field_leaves fs (place + 1) around none) h)
placed_kept (field name t fs) zero s place around v (more u us) e a h =
    let same : s ≡ t = cc in
    let here = subst (λ (u : Shape). first_bad_leaf (leaves u place around v) ≡ None) same (subst (λ n. first_bad_leaf (leaves s n around v) ≡ None) (add-zero place) a) in
    good_append (leaves t place around v) (field_leaves fs (place + 1) around us) here (good_back (leaves t place around u) (field_leaves fs (place + 1) around us) h)
placed_kept (field name t fs) (suc i) s place around v none e a h =
    let n : place + suc i ≡ place + 1 + i = omega arith in
    let further = placed_kept fs i s (place + 1) around v none e (subst (λ m. first_bad_leaf (leaves s m around v) ≡ None) n a) (good_back (leaves t place around null) (field_leaves fs (place + 1) around none) h) in
    good_append (leaves t place around null) (field_leaves fs (place + 1) around (with_value_set_at_index i v none)) (good_front (leaves t place around null) (field_leaves fs (place + 1) around none) h) further
placed_kept (field name t fs) (suc i) s place around v (more u us) e a h =
    let n : place + suc i ≡ place + 1 + i = omega arith in
    let further = placed_kept fs i s (place + 1) around v us e (subst (λ m. first_bad_leaf (leaves s m around v) ≡ None) n a) (good_back (leaves t place around u) (field_leaves fs (place + 1) around us) h) in
    good_append (leaves t place around u) (field_leaves fs (place + 1) around (with_value_set_at_index i v us)) (good_front (leaves t place around u) (field_leaves fs (place + 1) around us) h) further

pub placed_later : (i j : ℕ) (v : Plain) (vs : Plains) → i < j → nth (with_value_set_at_index j v vs) i ≡ nth vs i
placed_later zero zero v vs lt = absurd (omega arith)
placed_later zero (suc j) v none lt = refl
placed_later zero (suc j) v (more u us) lt = refl
placed_later (suc i) zero v vs lt = absurd (omega arith)
placed_later (suc i) (suc j) v none lt = placed_later i j v none (omega arith)
placed_later (suc i) (suc j) v (more u us) lt = placed_later i j v us (omega arith)
