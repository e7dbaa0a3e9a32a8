-- The steps of the loops over the words of a line and over the lines of a text.
use Rattle.std.proofs.Common.{◌≡◌, ℕ, ◌+◌, ◌<◌, ◌≤◌, Bool, true, false, not, cond, eqb, List, ◌∷◌, length, get_or, drop, Option, Some, None, Result, Ok, Err, ap, sym, ◌∙◌}
use Rattle.std.specs.List.{filter}
use Rattle.std.specs.Option.{option_and_then}
use Rattle.std.proofs.lemmas.List.{at_drop_more, at_drop_all}
use Rattle.dep_core.specs.Dependency.{Dependency}
use Rattle.dep_core.specs.Reading.{dependency_of}
use Rattle.dep_core.specs.World.{or_bad_line, world_with_lines, world_with_new_dependency, world_with_words, words_between_blanks}

abbrev pub is_word : List ℕ → Bool
is_word word = not (eqb (length word) 0)

-- the words that are left once n parts are read
abbrev pub words_left : ℕ → List (List ℕ) → List (List ℕ)
words_left n parts = filter is_word (drop n parts)

words_left-more : (parts : List (List ℕ)) (n : ℕ) (x : List ℕ) → (n < length parts) × (x ≡ get_or parts n x) → words_left n parts ≡ cond (is_word x) (x ∷ words_left (n + 1) parts) (words_left (n + 1) parts)
words_left-more parts n x h =
    at_drop_more (filter is_word) parts n x h.0
    ∙ ap (λ y. cond (is_word y) (y ∷ words_left (n + 1) parts) (words_left (n + 1) parts)) (sym h.1)

pub no_word : (w : List Dependency) (parts : List (List ℕ)) (n m : ℕ) (x : List ℕ) (r : Option (List Dependency)) → (n < length parts) × (x ≡ get_or parts n x) → eqb (length x) 0 ≡ true → m ≡ n + 1 → world_with_words w (words_left n parts) ≡ r → world_with_words w (words_left m parts) ≡ r
no_word w parts n m x r h e p q =
    let step : words_left n parts ≡ words_left (n + 1) parts =
    words_left-more parts n x h ∙ ap (λ b. cond (not b) (x ∷ words_left (n + 1) parts) (words_left (n + 1) parts)) e in
    ap (λ k. world_with_words w (words_left k parts)) p ∙ (ap (world_with_words w) (sym step) ∙ q)

pub one_word : (w : List Dependency) (parts : List (List ℕ)) (n : ℕ) (x : List ℕ) (more : Option (List Dependency)) → (n < length parts) × (x ≡ get_or parts n x) → eqb (length x) 0 ≡ false → option_and_then (world_with_new_dependency w) (dependency_of x) ≡ more → world_with_words w (words_left n parts) ≡ option_and_then (λ v. world_with_words v (words_left (n + 1) parts)) more
one_word w parts n x more h e d =
    let step : words_left n parts ≡ x ∷ words_left (n + 1) parts =
    words_left-more parts n x h ∙ ap (λ b. cond (not b) (x ∷ words_left (n + 1) parts) (words_left (n + 1) parts)) e in
    ap (world_with_words w) step ∙ ap (option_and_then (λ v. world_with_words v (words_left (n + 1) parts))) d

pub no_words_left : (w : List Dependency) (parts : List (List ℕ)) (n : ℕ) → length parts ≤ n → world_with_words w (words_left n parts) ≡ Some w
no_words_left w parts n h = at_drop_all (λ ps. world_with_words w (filter is_word ps)) parts n h

-- ---- the lines of a text

pub line_more : (w : List Dependency) (k : ℕ) (lines : List (List ℕ)) (n : ℕ) (x : List ℕ) → (n < length lines) × (x ≡ get_or lines n x) → world_with_lines w k (drop n lines) ≡ or_bad_line k (λ more. world_with_lines more (k + 1) (drop (n + 1) lines)) (world_with_words w (words_between_blanks x))
line_more w k lines n x h =
    at_drop_more (world_with_lines w k) lines n x h.0
    ∙ ap (λ y. or_bad_line k (λ more. world_with_lines more (k + 1) (drop (n + 1) lines)) (world_with_words w (words_between_blanks y))) (sym h.1)

pub bad_line : (w : List Dependency) (k : ℕ) (lines : List (List ℕ)) (n : ℕ) (x : List ℕ) (r : Result (List Dependency) ℕ) → (n < length lines) × (x ≡ get_or lines n x) → world_with_words w (words_between_blanks x) ≡ None → world_with_lines w k (drop n lines) ≡ r → r ≡ Err k
bad_line w k lines n x r h b q =
    sym q ∙ (line_more w k lines n x h ∙ ap (or_bad_line k (λ more. world_with_lines more (k + 1) (drop (n + 1) lines))) b)

pub good_line : (w more : List Dependency) (k m : ℕ) (lines : List (List ℕ)) (n : ℕ) (x : List ℕ) (r : Result (List Dependency) ℕ) → (n < length lines) × (x ≡ get_or lines n x) → world_with_words w (words_between_blanks x) ≡ Some more → m ≡ n + 1 → world_with_lines w k (drop n lines) ≡ r → world_with_lines more (k + 1) (drop m lines) ≡ r
good_line w more k m lines n x r h b p q =
    ap (λ i. world_with_lines more (k + 1) (drop i lines)) p
    ∙ (sym (line_more w k lines n x h ∙ ap (or_bad_line k (λ v. world_with_lines v (k + 1) (drop (n + 1) lines))) b) ∙ q)

pub no_line : (w : List Dependency) (k : ℕ) (lines : List (List ℕ)) (n : ℕ) (r : Result (List Dependency) ℕ) → length lines ≤ n → world_with_lines w k (drop n lines) ≡ r → r ≡ Ok w
no_line w k lines n r h q = sym q ∙ at_drop_all (world_with_lines w k) lines n h
