-- The first words of an object that have nothing below them, counted at once.
use Rattle.std.proofs.Common.{◌≡◌, ℕ, suc, ◌+◌, ◌<◌, ◌≤◌, Bool, true, false, List, [], ◌∷◌, length, get_or, drop, min, Ok, refl, arith, inl, inr}
use Rattle.std.proofs.lemmas.Bool.Decides.{leb_tells}
use Rattle.std.proofs.lemmas.List.{drop_more, drop_all}
use Rattle.adb_view.specs.Visits.{MOST_VALUES}
use Rattle.adb_view.specs.CountedWalk.{fields_walk, walk}
use Rattle.adb_view.specs.Leaves.{is_sound_leaf, leading_leaves}
use Rattle.adb_view.specs.Schema.{shape_of, shapes_of}
use Rattle.adb_view.specs.declared.tables.Field.{Field}
use Rattle.adb_view.proofs.WalkSteps.{leaf_walk}

pub leaves_more : (p : List ℕ) (fs : List Field) (ws : List ℕ) (i : ℕ) (d : Field) → i < length fs → i < length ws → is_sound_leaf p (get_or fs i d).kind (get_or ws i 0) ≡ true
    → leading_leaves p (drop i fs) (drop i ws) ≡ 1 + leading_leaves p (drop (i + 1) fs) (drop (i + 1) ws)
leaves_more p fs ws i d lt lt' e = rw (drop_more ws i 0 lt', drop_more fs i d lt, e) refl

pub leaves_stop : (p : List ℕ) (fs : List Field) (ws : List ℕ) (i : ℕ) (d : Field) → i < length fs → i < length ws → is_sound_leaf p (get_or fs i d).kind (get_or ws i 0) ≡ false
    → leading_leaves p (drop i fs) (drop i ws) ≡ 0
leaves_stop p fs ws i d lt lt' e = rw (drop_more ws i 0 lt', drop_more fs i d lt, e) refl

no_leaves : (p : List ℕ) (fs : List Field) → leading_leaves p fs [] ≡ 0
no_leaves p [] = refl
no_leaves p (f ∷ fs) = refl

leaves_past : (p : List ℕ) (fs : List Field) (ws : List ℕ) (i : ℕ) → length fs ≤ i → leading_leaves p (drop i fs) (drop i ws) ≡ 0
leaves_past p fs ws i le = rw (drop_all i fs le) refl

leaves_past_words : (p : List ℕ) (fs : List Field) (ws : List ℕ) (i : ℕ) → length ws ≤ i → leading_leaves p (drop i fs) (drop i ws) ≡ 0
leaves_past_words p fs ws i le = rw (drop_all i ws le) (no_leaves p (drop i fs))

pub leaves_end : (p : List ℕ) (fs : List Field) (ws : List ℕ) (i : ℕ) → min (length fs) (length ws) ≤ i → leading_leaves p (drop i fs) (drop i ws) ≡ 0
leaves_end p fs ws i le = elim (leb_tells (length fs) (length ws)) [
  | inl few ↦ leaves_past p fs ws i (omega (arith, few.1, le))
  | inr more ↦ leaves_past_words p fs ws i (omega (arith, more.1, le))
]

fit_by : (p : List ℕ) (f : Field) (fs : List Field) (w : ℕ) (ws : List ℕ) (b : Bool) → is_sound_leaf p f.kind w ≡ b → leading_leaves p fs ws ≤ min (length fs) (length ws) → leading_leaves p (f ∷ fs) (w ∷ ws) ≤ min (length (f ∷ fs)) (length (w ∷ ws))
fit_by p f fs w ws true e le = rw e (omega (arith, le))
fit_by p f fs w ws false e le = rw e (omega arith)

pub leaves_fit : (p : List ℕ) (fs : List Field) (ws : List ℕ) → leading_leaves p fs ws ≤ min (length fs) (length ws)
leaves_fit p [] ws = omega arith
leaves_fit p (f ∷ fs) [] = omega arith
leaves_fit p (f ∷ fs) (w ∷ ws) = fit_by p f fs w ws (is_sound_leaf p f.kind w) refl (leaves_fit p fs ws)

walk_by : (p : List ℕ) (f : Field) (fs : List Field) (n w : ℕ) (ws : List ℕ) (b : Bool) → is_sound_leaf p f.kind w ≡ b → n + leading_leaves p (f ∷ fs) (w ∷ ws) ≤ MOST_VALUES
    → (n + 1 + leading_leaves p fs ws ≤ MOST_VALUES → fields_walk p (shapes_of fs) (n + 1) ws ≡ fields_walk p (shapes_of (drop (leading_leaves p fs ws) fs)) (n + 1 + leading_leaves p fs ws) (drop (leading_leaves p fs ws) ws))
    → fields_walk p (shapes_of (f ∷ fs)) n (w ∷ ws) ≡ fields_walk p (shapes_of (drop (leading_leaves p (f ∷ fs) (w ∷ ws)) (f ∷ fs))) (n + leading_leaves p (f ∷ fs) (w ∷ ws)) (drop (leading_leaves p (f ∷ fs) (w ∷ ws)) (w ∷ ws))
unfolding fields_walk
walk_by p f fs n w ws false e le h =
    let none : leading_leaves p (f ∷ fs) (w ∷ ws) ≡ 0 = rw e refl in
    let same : n + 0 ≡ n = omega arith in
    rw (none, same) refl
walk_by p f fs n w ws true e le h =
    let k : ℕ = leading_leaves p fs ws in
    let more : leading_leaves p (f ∷ fs) (w ∷ ws) ≡ suc k = rw e (omega arith) in
    let few : n + 1 + k ≤ MOST_VALUES = omega (arith, le, more) in
    let here : walk p (shape_of f.kind) n w ≡ Ok (n + 1) = leaf_walk p f.kind n w (omega (arith, few)) e in
    let sum : n + suc k ≡ n + 1 + k = omega arith in
    rw (more, here, sum) (h few)

pub leaves_walk : (p : List ℕ) (fs : List Field) (n : ℕ) (ws : List ℕ) → n + leading_leaves p fs ws ≤ MOST_VALUES
    → fields_walk p (shapes_of fs) n ws ≡ fields_walk p (shapes_of (drop (leading_leaves p fs ws) fs)) (n + leading_leaves p fs ws) (drop (leading_leaves p fs ws) ws)
unfolding fields_walk
leaves_walk p [] n ws le = let same : n + 0 ≡ n = omega arith in rw same refl
leaves_walk p (f ∷ fs) n [] le = let same : n + 0 ≡ n = omega arith in rw same refl
leaves_walk p (f ∷ fs) n (w ∷ ws) le = walk_by p f fs n w ws (is_sound_leaf p f.kind w) refl le (λ few. leaves_walk p fs (n + 1) ws few)
