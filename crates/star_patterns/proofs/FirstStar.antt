-- A pattern by its first star: a piece without one, the star, and what follows.
use Rattle.std.proofs.Common.{◌≡◌, ◌≢◌, ℕ, suc, ◌+◌, Bool, true, false, List, [], ◌∷◌, ◌++◌, length, take, drop, Option, Some, None, cond, ◌<◌, ◌≤◌, refl, sym, ◌∙◌, ap, subst, arith}
use Rattle.std.specs.Prelude.{◌==◌, ◌||◌, MatchOption, nat_lt, not, position}
use Rattle.std.specs.List.{prefix_len}
use Rattle.std.proofs.lemmas.Bool.{ltb-true, ltb-false}
use Rattle.std.proofs.lemmas.Bool.Decides.{Decides-eqb}
use Rattle.std.proofs.lemmas.List.{append_assoc}
use Rattle.star_patterns.specs.Patterns.{is_whole_text_matched}
use Rattle.star_patterns.specs.Ends.{has_star, matches_some_suffix}
use Rattle.star_patterns.proofs.Pieces.{after_piece, not_in_front}

-- ---- the first star

pub record IsInTreeAt (pattern : List ℕ) (at : ℕ) : Type 0 where
  pub parts : pattern ≡ take at pattern ++ 42 ∷ drop (at + 1) pattern
  pub front : has_star (take at pattern) ≡ false

stands_later : (x : ℕ) (xs : List ℕ) (k : ℕ) → (x == 42) ≡ false → IsInTreeAt xs k → IsInTreeAt (x ∷ xs) (suc k)
stands_later x xs k other later =
    let next : suc (k + 1) ≡ suc k + 1 = omega arith in
    record {
      parts = ap (λ z. x ∷ z) later.parts ∙ ap (λ n. x ∷ (take k xs ++ 42 ∷ drop n (x ∷ xs))) next;
      front = ap (λ t. t || has_star (take k xs)) other ∙ later.front;
    }

stands_here : (x : ℕ) (xs : List ℕ) → x ≡ 42 → IsInTreeAt (x ∷ xs) 0
stands_here x xs is = record { parts = ap (λ z. z ∷ xs) is; front = refl }

located : (xs : List ℕ) (k : ℕ) → prefix_len (λ b. not (b == 42)) xs ≡ k → k < length xs → IsInTreeAt xs k
located [] k e l = absurd (omega arith)
located (x ∷ xs) k e l = go (x == 42) refl e (λ n same less. located xs n same less)
  where
    go : (t : Bool) → (x == 42) ≡ t → cond (not t) (1 + prefix_len (λ b. not (b == 42)) xs) 0 ≡ k
        → ((n : ℕ) → prefix_len (λ b. not (b == 42)) xs ≡ n → n < length xs → IsInTreeAt xs n) → IsInTreeAt (x ∷ xs) k
    go true is e later = subst (IsInTreeAt (x ∷ xs)) e (stands_here x xs ((Decides-eqb x 42).0 is))
    go false is e later =
        let n = prefix_len (λ b. not (b == 42)) xs in
        let same : suc n ≡ k = omega arith in
        let less : n < length xs = omega arith in
        subst (IsInTreeAt (x ∷ xs)) same (stands_later x xs n is (later n refl less))

no_star : (xs : List ℕ) → length xs ≤ prefix_len (λ b. not (b == 42)) xs → has_star xs ≡ false
no_star [] l = refl
no_star (x ∷ xs) l = go (x == 42) l (λ less. no_star xs less)
  where
    go : (t : Bool) → suc (length xs) ≤ cond (not t) (1 + prefix_len (λ b. not (b == 42)) xs) 0
        → (length xs ≤ prefix_len (λ b. not (b == 42)) xs → has_star xs ≡ false) → (t || has_star xs) ≡ false
    go true l later = absurd (omega arith)
    go false l later = later (omega arith)

pub first_star : (pattern : List ℕ) (o : Option ℕ) → o ≡ position (λ b. b == 42) pattern → MatchOption o (has_star pattern ≡ false) (IsInTreeAt pattern)
first_star pattern o is = subst (λ z. MatchOption z (has_star pattern ≡ false) (IsInTreeAt pattern)) (sym is) (go (nat_lt n (length pattern)) refl)
  where
    n : ℕ
    n = prefix_len (λ b. not (b == 42)) pattern

    go : (t : Bool) → nat_lt n (length pattern) ≡ t → MatchOption (cond t (Some n) None) (has_star pattern ≡ false) (IsInTreeAt pattern)
    go true e = located pattern n refl (ltb-true n (length pattern) e)
    go false e = no_star pattern (ltb-false n (length pattern) e)

-- ---- a pattern by its first star: a piece, the star, and what follows

parts_joined : (pattern piece later : List ℕ) (at : ℕ) → IsInTreeAt pattern at → piece ≡ take at pattern → later ≡ drop (at + 1) pattern → pattern ≡ piece ++ 42 ∷ later
parts_joined pattern piece later at star front back =
    star.parts ∙ (ap (λ z. z ++ 42 ∷ drop (at + 1) pattern) (sym front) ∙ ap (λ z. piece ++ 42 ∷ z) (sym back))

no_star_in : (pattern piece : List ℕ) (at : ℕ) → IsInTreeAt pattern at → piece ≡ take at pattern → has_star piece ≡ false
no_star_in pattern piece at star front = ap has_star front ∙ star.front

pub front_taken : (pattern part left piece later : List ℕ) (at : ℕ) → IsInTreeAt pattern at → piece ≡ take at pattern → later ≡ drop (at + 1) pattern → part ≡ piece ++ left → matches_some_suffix later left ≡ is_whole_text_matched pattern part
front_taken pattern part left piece later at star front back is =
    sym (ap (λ z. is_whole_text_matched z part) (parts_joined pattern piece later at star front back)
    ∙ (ap (is_whole_text_matched (piece ++ 42 ∷ later)) is
    ∙ after_piece piece (42 ∷ later) left (no_star_in pattern piece at star front)))

pub front_missing : (pattern part piece : List ℕ) (at : ℕ) → IsInTreeAt pattern at → piece ≡ take at pattern → ((rest : List ℕ) → part ≢ piece ++ rest) → false ≡ is_whole_text_matched pattern part
front_missing pattern part piece at star front absent =
    sym (ap (λ z. is_whole_text_matched z part) (parts_joined pattern piece (drop (at + 1) pattern) at star front refl)
    ∙ not_in_front piece (42 ∷ drop (at + 1) pattern) part (no_star_in pattern piece at star front) absent)

-- the same with a tail after the pattern, which is no part of the piece
with_tail : (pattern piece later tail : List ℕ) (at : ℕ) → IsInTreeAt pattern at → piece ≡ take at pattern → later ≡ drop (at + 1) pattern → pattern ++ tail ≡ piece ++ 42 ∷ (later ++ tail)
with_tail pattern piece later tail at star front back =
    ap (λ z. z ++ tail) (parts_joined pattern piece later at star front back) ∙ append_assoc piece (42 ∷ later) tail

pub piece_taken : (pattern left piece later rest tail : List ℕ) (at : ℕ) → IsInTreeAt pattern at → piece ≡ take at pattern → later ≡ drop (at + 1) pattern
    → ((others : List ℕ) → has_star piece ≡ false → matches_some_suffix (piece ++ 42 ∷ others) left ≡ matches_some_suffix others rest)
    → matches_some_suffix (pattern ++ tail) left ≡ matches_some_suffix (later ++ tail) rest
piece_taken pattern left piece later rest tail at star front back found =
    ap (λ z. matches_some_suffix z left) (with_tail pattern piece later tail at star front back)
    ∙ found (later ++ tail) (no_star_in pattern piece at star front)

pub piece_missing : (pattern left piece tail : List ℕ) (at : ℕ) → IsInTreeAt pattern at → piece ≡ take at pattern
    → ((others : List ℕ) → has_star piece ≡ false → matches_some_suffix (piece ++ 42 ∷ others) left ≡ false)
    → matches_some_suffix (pattern ++ tail) left ≡ false
piece_missing pattern left piece tail at star front absent =
    ap (λ z. matches_some_suffix z left) (with_tail pattern piece (drop (at + 1) pattern) tail at star front refl)
    ∙ absent (drop (at + 1) pattern ++ tail) (no_star_in pattern piece at star front)
