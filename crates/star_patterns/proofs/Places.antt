-- A piece is taken at its first place in a text: at a later one it leaves less for what follows it.
use Rattle.std.proofs.Common.{◌≡◌, ℕ, ◌+◌, ◌-◌, ◌≤◌, Bool, true, false, List, Option, Some, None, subst, ◌∷◌, ◌++◌, length, take, drop, refl, sym, ◌∙◌, ap, arith}
use Rattle.std.specs.Prelude.{nat_lt}
use Rattle.std.specs.Cmp.{both_ways}
use Rattle.std.proofs.Math.Seq.{drop-append_seam, take-append_seam}
use Rattle.std.proofs.lemmas.Bool.{false_from_ne_true, ltb-false, ltb-true}
use Rattle.std.proofs.lemmas.List.{drop-drop, length-append, take-append-drop}
use Rattle.memchr.specs.Find.{FindsNeedle, NoneBefore, Nowhere, OccursAt}
use Rattle.memchr.proofs.lemmas.MatchLemmas.{OccursAt-from_part, OccursAt-split}
use Rattle.star_patterns.specs.Ends.{has_star, matches_some_suffix}
use Rattle.star_patterns.proofs.Pieces.{after_piece, end_found, end_matched, in_front, whole_end}

-- a piece is at the place after the bytes in front of it
at_front : (piece front rest : List ℕ) → OccursAt (front ++ (piece ++ rest)) piece (length front)
at_front piece front rest =
    OccursAt-from_part (front ++ (piece ++ rest)) piece (length front)
    (omega (arith, length-append front (piece ++ rest), length-append piece rest))
    (ap (take (length piece)) (drop-append_seam front (piece ++ rest)) ∙ take-append_seam piece rest)

-- a place where the text has the piece, and an end after it that the rest of the pattern matches
record IsFound (piece pattern text : List ℕ) : Type 0 where
  place : ℕ
  occurs : OccursAt text piece place
  matched : matches_some_suffix pattern (drop (place + length piece) text) ≡ true

found : (piece pattern text : List ℕ) → has_star piece ≡ false → matches_some_suffix (piece ++ 42 ∷ pattern) text ≡ true → IsFound piece pattern text
found piece pattern text none m =
    let e = end_found (piece ++ 42 ∷ pattern) text m in
    let f = in_front piece (42 ∷ pattern) e.rest none e.matched in
    let is : text ≡ e.front ++ (piece ++ f.rest) = e.is ∙ ap (λ z. e.front ++ z) f.is in
    let occurs : OccursAt text piece (length e.front) = subst (λ z. OccursAt z piece (length e.front)) (sym is) (at_front piece e.front f.rest) in
    let after : drop (length e.front + length piece) text ≡ f.rest =
    sym (drop-drop (length piece) (length e.front) text)
    ∙ (ap (λ z. drop (length piece) (drop (length e.front) z)) is
    ∙ (ap (drop (length piece)) (drop-append_seam e.front (piece ++ f.rest)) ∙ drop-append_seam piece f.rest)) in
    record { place = length e.front; occurs = occurs; matched = ap (matches_some_suffix pattern) after ∙ f.matched }

-- what an end after a later place has, an end after an earlier one has too
sooner : (pattern text : List ℕ) (i j : ℕ) → i ≤ j → matches_some_suffix pattern (drop j text) ≡ true → matches_some_suffix pattern (drop i text) ≡ true
sooner pattern text i j low m =
    let whole : i + (j - i) ≡ j = omega arith in
    let same : drop (j - i) (drop i text) ≡ drop j text = drop-drop (j - i) i text ∙ ap (λ n. drop n text) whole in
    ap (matches_some_suffix pattern) (sym (take-append-drop (j - i) (drop i text)))
    ∙ end_matched pattern (take (j - i) (drop i text)) (drop (j - i) (drop i text)) (ap (matches_some_suffix pattern) same ∙ m)

-- a piece that occurs first at a place
first_place : (piece pattern text : List ℕ) (k : ℕ) → NoneBefore (OccursAt text piece) 0 (length text + 1) k → OccursAt text piece k → has_star piece ≡ false
    → matches_some_suffix (piece ++ 42 ∷ pattern) text ≡ matches_some_suffix pattern (drop (k + length piece) text)
first_place piece pattern text k first occurs none = both_ways _ _ after before
  where
    after : matches_some_suffix (piece ++ 42 ∷ pattern) text ≡ true → matches_some_suffix pattern (drop (k + length piece) text) ≡ true
    after m = let f = found piece pattern text none m in go f (nat_lt f.place k) refl
      where
        go : (f : IsFound piece pattern text) (t : Bool) → nat_lt f.place k ≡ t → matches_some_suffix pattern (drop (k + length piece) text) ≡ true
        go f true e = absurd (first.before f.place (omega arith) (ltb-true f.place k e) f.occurs)
        go f false e =
            let low : k ≤ f.place = ltb-false f.place k e in
            sooner pattern text (k + length piece) (f.place + length piece) (omega arith) f.matched

    before : matches_some_suffix pattern (drop (k + length piece) text) ≡ true → matches_some_suffix (piece ++ 42 ∷ pattern) text ≡ true
    before m =
        let rest = drop (k + length piece) text in
        let is : take k text ++ (piece ++ rest) ≡ text =
        ap (λ z. take k text ++ z) (sym (OccursAt-split text piece k occurs)) ∙ take-append-drop k text in
        ap (matches_some_suffix (piece ++ 42 ∷ pattern)) (sym is)
        ∙ end_matched (piece ++ 42 ∷ pattern) (take k text) (piece ++ rest)
        (whole_end (piece ++ 42 ∷ pattern) (piece ++ rest) (after_piece piece (42 ∷ pattern) rest none ∙ m))

-- a piece that occurs nowhere
no_place : (piece pattern text : List ℕ) → Nowhere (OccursAt text piece) 0 (length text + 1) → has_star piece ≡ false
    → matches_some_suffix (piece ++ 42 ∷ pattern) text ≡ false
no_place piece pattern text nowhere none =
    false_from_ne_true (matches_some_suffix (piece ++ 42 ∷ pattern) text) (λ m.
    let f = found piece pattern text none m in
    nowhere f.place (omega arith) (omega (arith, f.occurs.fits)) f.occurs)

-- the same of the place that a search found
pub place_found : (piece pattern text : List ℕ) (o : Option ℕ) (k : ℕ) → FindsNeedle text piece 0 o → o ≡ Some k → has_star piece ≡ false
    → matches_some_suffix (piece ++ 42 ∷ pattern) text ≡ matches_some_suffix pattern (drop (k + length piece) text)
place_found piece pattern text o k finds is none =
    let f = subst (FindsNeedle text piece 0) is finds in first_place piece pattern text k f.0 f.1 none

pub none_found : (piece pattern text : List ℕ) (o : Option ℕ) → FindsNeedle text piece 0 o → o ≡ None → has_star piece ≡ false
    → matches_some_suffix (piece ++ 42 ∷ pattern) text ≡ false
none_found piece pattern text o finds is none =
    no_place piece pattern text (subst (FindsNeedle text piece 0) is finds) none
