-- The words of a byte list, by their places.
use Rattle.std.proofs.Common.{◌≡◌, ℕ, zero, suc, ◌*◌, ◌<◌, List, [], ◌∷◌, length, get_or, take, drop, refl, sym, ap, ◌∙◌, arith, lit<}
use Rattle.std.specs.Int.{w32, from_le_bytes}
use Rattle.std.proofs.lemmas.List.{drop-drop, get_or-take}
use Rattle.adb_view.specs.Bytes.{words}

pub word_count : (n : ℕ) (bytes : List ℕ) → length (words n bytes) ≡ n
unfolding words
word_count zero bytes = refl
word_count (suc n) bytes = ap suc (word_count n (drop 4 bytes))

pub word_found : (n : ℕ) (bytes : List ℕ) (i : ℕ) → i < n → get_or (words n bytes) i 0 ≡ from_le_bytes w32 (take 4 (drop (4 * i) bytes))
unfolding words
word_found zero bytes i lt = absurd (omega arith)
word_found (suc n) bytes zero lt = refl
word_found (suc n) bytes (suc i) lt =
    word_found n (drop 4 bytes) i (omega arith) ∙ ap (λ (x : List ℕ). from_le_bytes w32 (take 4 x)) (drop-drop (4 * i) 4 bytes ∙ ap (λ (k : ℕ). drop k bytes) (omega arith))

four_bytes : (xs : List ℕ) → from_le_bytes w32 (take 4 xs) ≡ from_le_bytes w32 (get_or xs 0 0 ∷ get_or xs 1 0 ∷ get_or xs 2 0 ∷ get_or xs 3 0 ∷ [])
four_bytes xs = rw (get_or-take 4 xs 0 0 (lit< tt), get_or-take 4 xs 1 0 (lit< tt), get_or-take 4 xs 2 0 (lit< tt), get_or-take 4 xs 3 0 (lit< tt)) refl

pub word_read : (n : ℕ) (bytes : List ℕ) (i : ℕ) (x y z u : ℕ) → i < n → x ≡ get_or (drop (4 * i) bytes) 0 0 → y ≡ get_or (drop (4 * i) bytes) 1 0 → z ≡ get_or (drop (4 * i) bytes) 2 0 → u ≡ get_or (drop (4 * i) bytes) 3 0
    → from_le_bytes w32 (x ∷ y ∷ z ∷ u ∷ []) ≡ get_or (words n bytes) i 0
word_read n bytes i x y z u lt a b c d = rw (a, b, c, d) (sym (four_bytes (drop (4 * i) bytes)) ∙ sym (word_found n bytes i lt))
