-- A pattern matches what it reads with its stars replaced, and nothing else.
use Rattle.std.proofs.Common.{◌≡◌, ℕ, suc, ◌+◌, ◌↔◌, Bool, true, false, List, [], ◌∷◌, ◌++◌, length, cond, refl, sym, ◌∙◌, ap, arith, true≢false}
use Rattle.std.specs.Prelude.{◌==◌, ◌&&◌, if◌then◌else◌}
use Rattle.std.specs.List.{list_any}
use Rattle.std.proofs.lemmas.Bool.{and_parts}
use Rattle.std.proofs.lemmas.Bool.Decides.{Decides-eqb}
use Rattle.std.proofs.lemmas.List.Sums.{sum_by-cons}
use Rattle.star_patterns.specs.Patterns.{starts_with_byte_then, is_whole_text_matched, suffixes_of}
use Rattle.star_patterns.specs.Ends.{matches_some_suffix}
use Rattle.star_patterns.specs.Fills.{MatchesByFillingStars, filled_pattern, star_count}
use Rattle.star_patterns.proofs.Pieces.{IsEnd, end_found, end_matched, literal_byte, nothing_left, same_number, whole_end}

-- ---- a star, and a byte that is none

star_byte : (p : ℕ) (q text : List ℕ) → (p == 42) ≡ true → is_whole_text_matched (p ∷ q) text ≡ matches_some_suffix q text
star_byte p q text e = ap (λ t. if t then list_any (is_whole_text_matched q) (suffixes_of text) else starts_with_byte_then p (is_whole_text_matched q) text) e

count_star : (p : ℕ) (q : List ℕ) → (p == 42) ≡ true → star_count (p ∷ q) ≡ suc (star_count q)
count_star p q e =
    let one : star_count (p ∷ q) ≡ 1 + star_count q = sum_by-cons (λ b. cond (b == 42) 1 0) p q ∙ ap (λ t. cond t 1 0 + star_count q) e in omega (arith, one)

count_other : (p : ℕ) (q : List ℕ) → (p == 42) ≡ false → star_count (p ∷ q) ≡ star_count q
count_other p q e =
    let none : star_count (p ∷ q) ≡ 0 + star_count q = sum_by-cons (λ b. cond (b == 42) 1 0) p q ∙ ap (λ t. cond t 1 0 + star_count q) e in omega (arith, none)

filled_star : (p : ℕ) (q fill : List ℕ) (fills : List (List ℕ)) → (p == 42) ≡ true → filled_pattern (p ∷ q) (fill ∷ fills) ≡ fill ++ filled_pattern q fills
filled_star p q fill fills e = ap (λ t. if t then fill ++ filled_pattern q fills else p ∷ filled_pattern q (fill ∷ fills)) e

filled_none : (q : List ℕ) → filled_pattern q [] ≡ q
filled_none [] = refl
filled_none (p ∷ q) = refl

filled_other : (p : ℕ) (q : List ℕ) (fills : List (List ℕ)) → (p == 42) ≡ false → filled_pattern (p ∷ q) fills ≡ p ∷ filled_pattern q fills
filled_other p q [] e = ap (λ z. p ∷ z) (sym (filled_none q))
filled_other p q (fill ∷ fills) e = ap (λ t. if t then fill ++ filled_pattern q fills else p ∷ filled_pattern q (fill ∷ fills)) e

-- ---- what a pattern matches

filled_after_star : (p : ℕ) (q text : List ℕ) (end : IsEnd q text) → (p == 42) ≡ true → MatchesByFillingStars q end.rest → MatchesByFillingStars (p ∷ q) text
filled_after_star p q text end e later =
    record {
      fills = end.front ∷ later.fills;
      count = ap suc later.count ∙ sym (count_star p q e);
      text_is = filled_star p q end.front later.fills e ∙ (ap (λ z. end.front ++ z) later.text_is ∙ sym end.is);
    }

filled_after_byte : (p : ℕ) (q : List ℕ) (b : ℕ) (rest : List ℕ) → (p == 42) ≡ false → (p == b) ≡ true → MatchesByFillingStars q rest → MatchesByFillingStars (p ∷ q) (b ∷ rest)
filled_after_byte p q b rest e same later =
    record {
      fills = later.fills;
      count = later.count ∙ sym (count_other p q e);
      text_is =
          filled_other p q later.fills e
          ∙ (ap (λ z. z ∷ filled_pattern q later.fills) ((Decides-eqb p b).0 same)
          ∙ ap (λ z. b ∷ z) later.text_is);
    }

matched_is_filled : (pattern text : List ℕ) → is_whole_text_matched pattern text ≡ true → MatchesByFillingStars pattern text
matched_is_filled [] text m = record { fills = []; count = refl; text_is = sym (nothing_left text m) }
matched_is_filled (p ∷ q) text m = go (λ rest later. matched_is_filled q rest later) (p == 42) refl
  where
    go : ((rest : List ℕ) → is_whole_text_matched q rest ≡ true → MatchesByFillingStars q rest) → (t : Bool) → (p == 42) ≡ t → MatchesByFillingStars (p ∷ q) text
    go further true e =
        let end = end_found q text (sym (star_byte p q text e) ∙ m) in
        filled_after_star p q text end e (further end.rest end.matched)
    go further false e = other text m
      where
        other : (text : List ℕ) → is_whole_text_matched (p ∷ q) text ≡ true → MatchesByFillingStars (p ∷ q) text
        other [] m = absurd (true≢false (sym m ∙ literal_byte p q [] e))
        other (b ∷ rest) m =
            let both = and_parts (p == b) (is_whole_text_matched q rest) (sym (literal_byte p q (b ∷ rest) e) ∙ m) in
            filled_after_byte p q b rest e both.0 (further rest both.1)

filled_is_matched : (pattern : List ℕ) (fills : List (List ℕ)) → length fills ≡ star_count pattern → is_whole_text_matched pattern (filled_pattern pattern fills) ≡ true
filled_is_matched [] fills count = refl
filled_is_matched (p ∷ q) fills count = go (λ others same. filled_is_matched q others same) (p == 42) refl
  where
    go : ((others : List (List ℕ)) → length others ≡ star_count q → is_whole_text_matched q (filled_pattern q others) ≡ true)
        → (t : Bool) → (p == 42) ≡ t → is_whole_text_matched (p ∷ q) (filled_pattern (p ∷ q) fills) ≡ true
    go further true e = star fills count
      where
        star : (fills : List (List ℕ)) → length fills ≡ star_count (p ∷ q) → is_whole_text_matched (p ∷ q) (filled_pattern (p ∷ q) fills) ≡ true
        star [] count = absurd (omega (arith, count_star p q e))
        star (fill ∷ fills) count =
            let fewer : length fills ≡ star_count q = omega (arith, count_star p q e) in
            let rest = filled_pattern q fills in
            ap (is_whole_text_matched (p ∷ q)) (filled_star p q fill fills e)
            ∙ (star_byte p q (fill ++ rest) e
            ∙ end_matched q fill rest (whole_end q rest (further fills fewer)))
    go further false e =
        let rest = filled_pattern q fills in
        ap (is_whole_text_matched (p ∷ q)) (filled_other p q fills e)
        ∙ (literal_byte p q (p ∷ rest) e
        ∙ (ap (λ t. t && is_whole_text_matched q rest) (same_number p)
        ∙ further fills (count ∙ count_other p q e)))

pub matched_if_filled : (pattern text : List ℕ) → (is_whole_text_matched pattern text ≡ true) ↔ MatchesByFillingStars pattern text
matched_if_filled pattern text =
    (matched_is_filled pattern text, λ f. ap (is_whole_text_matched pattern) (sym f.text_is) ∙ filled_is_matched pattern f.fills f.count)
