-- What a pattern that begins with a piece, which has no star, matches.
use Rattle.std.proofs.Common.{◌≡◌, ◌≢◌, ℕ, suc, Bool, true, false, List, [], ◌∷◌, ◌++◌, length, take, refl, sym, ◌∙◌, ap, true≢false, arith, ◌-◌}
use Rattle.std.specs.Prelude.{◌==◌, ◌&&◌, ◌||◌, if◌then◌else◌}
use Rattle.std.specs.List.{list_any}
use Rattle.std.specs.Str.{bytes_eq}
use Rattle.std.specs.Cmp.{both_ways}
use Rattle.std.proofs.lemmas.Bool.{and_parts, false_from_ne_true, or_parts, or_right}
use Rattle.std.proofs.lemmas.Bool.Decides.{Decides-eqb}
use Rattle.std.proofs.lemmas.List.{append-nil}
use Rattle.std.proofs.lemmas.Slice.Eq.{bytes_eq-Decides}
use Rattle.star_patterns.specs.Patterns.{starts_with_byte_then, is_whole_text_matched, suffixes_of}
use Rattle.star_patterns.specs.Ends.{has_star, matches_some_suffix}

-- ---- a piece without a star

pub same_number : (n : ℕ) → (n == n) ≡ true
same_number n = (Decides-eqb n n).1 refl

-- a byte that is no star
pub literal_byte : (p : ℕ) (q b : List ℕ) → (p == 42) ≡ false → is_whole_text_matched (p ∷ q) b ≡ starts_with_byte_then p (is_whole_text_matched q) b
literal_byte p q b e =
    ap (λ t. if t then list_any (is_whole_text_matched q) (suffixes_of b) else starts_with_byte_then p (is_whole_text_matched q) b) e

-- a text that begins with the piece
pub after_piece : (l r x : List ℕ) → has_star l ≡ false → is_whole_text_matched (l ++ r) (l ++ x) ≡ is_whole_text_matched r x
after_piece [] r x none = refl
after_piece (p ∷ l) r x none =
    let parts = or_parts (p == 42) (has_star l) none in
    literal_byte p (l ++ r) (p ∷ (l ++ x)) parts.0
    ∙ (ap (λ t. t && is_whole_text_matched (l ++ r) (l ++ x)) (same_number p) ∙ after_piece l r x parts.1)

-- a text is the piece and a rest that the other pattern matches
pub record IsAfter (l r b : List ℕ) : Type 0 where
  pub rest : List ℕ
  pub is : b ≡ l ++ rest
  pub matched : is_whole_text_matched r rest ≡ true

pub in_front : (l r b : List ℕ) → has_star l ≡ false → is_whole_text_matched (l ++ r) b ≡ true → IsAfter l r b
in_front [] r b none m = record { rest = b; is = refl; matched = m }
in_front (p ∷ l) r [] none m =
    let parts = or_parts (p == 42) (has_star l) none in
    absurd (true≢false (sym m ∙ literal_byte p (l ++ r) [] parts.0))
in_front (p ∷ l) r (b ∷ bs) none m =
    let parts = or_parts (p == 42) (has_star l) none in
    let both = and_parts (p == b) (is_whole_text_matched (l ++ r) bs) (sym (literal_byte p (l ++ r) (b ∷ bs) parts.0) ∙ m) in
    let further = in_front l r bs parts.1 both.1 in
    record {
      rest = further.rest;
      is = ap (λ z. b ∷ z) further.is ∙ ap (λ z. z ∷ (l ++ further.rest)) (sym ((Decides-eqb p b).0 both.0));
      matched = further.matched;
    }

pub not_in_front : (l r b : List ℕ) → has_star l ≡ false → ((rest : List ℕ) → b ≢ l ++ rest) → is_whole_text_matched (l ++ r) b ≡ false
not_in_front l r b none absent = false_from_ne_true (is_whole_text_matched (l ++ r) b) (λ m. let found = in_front l r b none m in absent found.rest found.is)

-- a pattern without a star matches itself alone
pub nothing_left : (b : List ℕ) → is_whole_text_matched [] b ≡ true → b ≡ []
nothing_left [] m = refl
nothing_left (x ∷ b) m =
    let none : suc (length b) ≡ 0 = (Decides-eqb (suc (length b)) 0).0 m in absurd (omega arith)

whole : (l : List ℕ) → has_star l ≡ false → is_whole_text_matched l l ≡ true
whole l none =
    ap (λ z. is_whole_text_matched z z) (sym (append-nil l)) ∙ after_piece l [] [] none

exact : (l b : List ℕ) → has_star l ≡ false → is_whole_text_matched l b ≡ true → b ≡ l
exact l b none m =
    let found = in_front l [] b none (ap (λ z. is_whole_text_matched z b) (append-nil l) ∙ m) in
    found.is ∙ (ap (λ z. l ++ z) (nothing_left found.rest found.matched) ∙ append-nil l)

pub literal : (l b : List ℕ) → has_star l ≡ false → is_whole_text_matched l b ≡ bytes_eq l b
literal l b none = both_ways (is_whole_text_matched l b) (bytes_eq l b)
    (λ m. (bytes_eq-Decides l b).1 (sym (exact l b none m)))
    (λ e. ap (is_whole_text_matched l) (sym ((bytes_eq-Decides l b).0 e)) ∙ whole l none)

-- ---- an end of the text

-- some end of a text that a pattern matches
pub record IsEnd (q b : List ℕ) : Type 0 where
  pub front : List ℕ
  pub rest : List ℕ
  pub is : b ≡ front ++ rest
  pub matched : is_whole_text_matched q rest ≡ true

pub end_found : (q b : List ℕ) → matches_some_suffix q b ≡ true → IsEnd q b
end_found q [] m = go (is_whole_text_matched q []) refl m
  where
    go : (t : Bool) → is_whole_text_matched q [] ≡ t → (t || false) ≡ true → IsEnd q []
    go true e m = record { front = []; rest = []; is = refl; matched = e }
    go false e m = absurd (true≢false (sym m))
end_found q (c ∷ b) m = go (is_whole_text_matched q (c ∷ b)) refl m (λ further. end_found q b further)
  where
    go : (t : Bool) → is_whole_text_matched q (c ∷ b) ≡ t → (t || matches_some_suffix q b) ≡ true → (matches_some_suffix q b ≡ true → IsEnd q b) → IsEnd q (c ∷ b)
    go true e m find = record { front = []; rest = c ∷ b; is = refl; matched = e }
    go false e m find =
        let further = find m in
        record { front = c ∷ further.front; rest = further.rest; is = ap (λ z. c ∷ z) further.is; matched = further.matched }

pub whole_end : (q b : List ℕ) → is_whole_text_matched q b ≡ true → matches_some_suffix q b ≡ true
whole_end q [] m = ap (λ t. t || false) m
whole_end q (c ∷ b) m = ap (λ t. t || matches_some_suffix q b) m

pub end_matched : (q front rest : List ℕ) → matches_some_suffix q rest ≡ true → matches_some_suffix q (front ++ rest) ≡ true
end_matched q [] rest m = m
end_matched q (c ∷ front) rest m =
    or_right (is_whole_text_matched q (c ∷ (front ++ rest))) (matches_some_suffix q (front ++ rest)) (end_matched q front rest m)

-- the last piece is at the end of the text
pub last_piece : (l b : List ℕ) (t : Bool) → has_star l ≡ false → (t ≡ true → b ≡ take (length b - length l) b ++ l) × ((front : List ℕ) → b ≡ front ++ l → t ≡ true) → t ≡ matches_some_suffix l b
last_piece l b t none ends = both_ways t (matches_some_suffix l b)
    (λ e. ap (matches_some_suffix l) (ends.0 e) ∙ end_matched l (take (length b - length l) b) l (whole_end l l (whole l none)))
    (λ m. let e = end_found l b m in ends.1 e.front (e.is ∙ ap (λ z. e.front ++ z) (exact l e.rest none e.matched)))

-- the empty pattern matches the empty end of any text
pub empty_end : (text : List ℕ) → matches_some_suffix [] text ≡ true
empty_end [] = refl
empty_end (b ∷ text) = or_right (is_whole_text_matched [] (b ∷ text)) (matches_some_suffix [] text) (empty_end text)
