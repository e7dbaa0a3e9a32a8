-- Words and entries, compared one by one from the last on.
use Rattle.std.proofs.Common.{◌≡◌, ◌≢◌, ℕ, zero, suc, false, eqb, true≢false, ◌+◌, ◌-◌, ◌%◌, ◌^◌, ◌<◌, ◌≤◌, List, [], ◌∷◌, length, get_or, drop, refl, sym, ap, ◌∙◌, arith, inl, inr, ◌⊎◌}
use Rattle.std.specs.Prelude.{reverse}
use Rattle.std.specs.Ordering.{nat_cmp, ordering_then, ordering_reverse}
use Rattle.std.specs.declared.cmp.Ordering.{Ordering}
use Rattle.std.specs.declared.cmp.Ordering.TheVariants.{Less, Equal, Greater}
use Rattle.std.proofs.lemmas.List.{drop_more, get_or_default, get_or-reverse, length-drop, length-map, length-reverse, get_or-map}
use Rattle.std.proofs.lemmas.Cmp.{nat_cmp_total, tied_itself, ranked, by_ranked}
use Rattle.adb_write.specs.Keys.{list_fingerprint, low_words}
use Rattle.adb_write.proofs.Rising.{cmp}

-- the first elements decide, and else the others
one_step : (xs ys : List ℕ) (i x y : ℕ) → i < length xs → i < length ys → x ≡ get_or xs i x → y ≡ get_or ys i y
    → cmp (drop i xs) (drop i ys) ≡ ordering_then (nat_cmp x y) (cmp (drop (i + 1) xs) (drop (i + 1) ys))
one_step xs ys i x y in_xs in_ys is has =
    let a : drop i xs ≡ x ∷ drop (i + 1) xs = drop_more xs i x in_xs ∙ ap (λ k. k ∷ drop (i + 1) xs) (sym is) in
    let b : drop i ys ≡ y ∷ drop (i + 1) ys = drop_more ys i y in_ys ∙ ap (λ k. k ∷ drop (i + 1) ys) (sym has) in
    rw (a, b) refl

pub equal_step : (xs ys : List ℕ) (i x y : ℕ) → i < length xs → i < length ys → x ≡ get_or xs i x → y ≡ get_or ys i y → nat_cmp x y ≡ Equal
    → cmp (drop (i + 1) xs) (drop (i + 1) ys) ≡ cmp (drop i xs) (drop i ys)
equal_step xs ys i x y in_xs in_ys is has same = sym (one_step xs ys i x y in_xs in_ys is has ∙ rw same refl)

pub other_step : (xs ys : List ℕ) (i x y : ℕ) → i < length xs → i < length ys → x ≡ get_or xs i x → y ≡ get_or ys i y → nat_cmp x y ≢ Equal
    → nat_cmp x y ≡ cmp (drop i xs) (drop i ys)
other_step xs ys i x y in_xs in_ys is has differ =
    sym (one_step xs ys i x y in_xs in_ys is has ∙ decided (nat_cmp x y) _ differ)
  where
    decided : (o r : Ordering) → o ≢ Equal → ordering_then o r ≡ o
    decided Less r ne = refl
    decided Equal r ne = absurd (ne refl)
    decided Greater r ne = refl

pub lower : (x y : ℕ) → x < y → nat_cmp x y ≡ Less
lower x y less = by_ranked (x < y) (x ≡ y) (y < x) (nat_cmp x y) (ranked x y (nat_cmp x y) refl) (λ e l. e) (λ e l. absurd (omega arith)) (λ e l. absurd (omega arith))

-- where one list ends, the lengths decide
by_length : (xs ys : List ℕ) (n : ℕ) → (length xs ≡ 0) ⊎ (length ys ≡ 0) → nat_cmp (n + length xs) (n + length ys) ≡ cmp xs ys
by_length [] [] n h = tied_itself nat_cmp_total (n + 0)
by_length [] (y ∷ ys) n h = lower (n + 0) (n + suc (length ys)) (omega arith)
by_length (x ∷ xs) [] n h = nat_cmp_total.antisymm (n + suc (length xs)) (n + 0) ∙ ap ordering_reverse (lower (n + 0) (n + suc (length xs)) (omega arith))
by_length (x ∷ xs) (y ∷ ys) n (inl h) = absurd (omega arith)
by_length (x ∷ xs) (y ∷ ys) n (inr h) = absurd (omega arith)

-- ---- words and entries, the last first

pub words_len : (ws : List ℕ) → length (reverse (low_words ws)) ≡ length ws
words_len ws = length-reverse (low_words ws) ∙ length-map ws (λ x. x % 2 ^ 32)

pub by_none : (ws : List ℕ) → nat_cmp (length ws) 0 ≡ cmp (reverse (low_words ws)) []
by_none ws = ap (λ n. nat_cmp n 0) (sym (words_len ws)) ∙ none (reverse (low_words ws))
  where
    none : (xs : List ℕ) → nat_cmp (length xs) 0 ≡ cmp xs []
    none [] = refl
    none (x ∷ xs) = nat_cmp_total.antisymm (suc (length xs)) 0 ∙ ap ordering_reverse (lower 0 (suc (length xs)) (omega arith))

-- the last word, and 0 if there is none
pub none_low : (ws : List ℕ) → length ws ≡ 0 → 0 ≡ list_fingerprint (low_words ws)
none_low [] e = refl
none_low (w ∷ ws) e = absurd (omega (arith, e))

pub some : (n : ℕ) → eqb n 0 ≡ false → 0 < n
some zero e = absurd (true≢false e)
some (suc n) e = omega arith

pub last_low : (ws : List ℕ) (w : ℕ) → 0 < length ws → w < 2 ^ 32 → w ≡ get_or ws (length ws - 1) w → w ≡ list_fingerprint (low_words ws)
last_low ws w filled small is =
    let n : length (low_words ws) ≡ length ws = length-map ws (λ x. x % 2 ^ 32) in
    let low : get_or (low_words ws) (length ws - 1) w ≡ w = get_or-map (λ x. x % 2 ^ 32) ws (length ws - 1) w w (omega (arith, filled)) ∙ ap (λ x. x % 2 ^ 32) (sym is) ∙ omega arith in
    sym (ap (λ k. get_or (low_words ws) (k - 1) 0) n ∙ get_or_default (low_words ws) (length ws - 1) 0 w (omega (arith, n, filled)) ∙ low)

pub word_at : (ws : List ℕ) (i last w : ℕ) → i < length ws → last ≡ length ws - 1 - i → w < 2 ^ 32 → w ≡ get_or ws last w → w ≡ get_or (reverse (low_words ws)) i w
word_at ws i last w within place small is =
    let n : length (low_words ws) ≡ length ws = length-map ws (λ x. x % 2 ^ 32) in
    let there : length (low_words ws) - 1 - i ≡ last = omega (arith, n, place) in
    let low : get_or (low_words ws) last w ≡ w = get_or-map (λ x. x % 2 ^ 32) ws last w w (omega (arith, place)) ∙ ap (λ x. x % 2 ^ 32) (sym is) ∙ omega arith in
    sym (get_or-reverse (low_words ws) i w (omega (arith, n)) ∙ ap (λ k. get_or (low_words ws) k w) there ∙ low)

pub entry_at : (es : List ℕ) (i e : ℕ) → i < length es → e ≡ get_or es (length es - 1 - i) e → e ≡ get_or (reverse es) i e
entry_at es i e within is = is ∙ sym (get_or-reverse es i e within)

pub last_step : (ws es : List ℕ) (i : ℕ) → i ≤ length ws → i ≤ length es → (length ws ≡ i) ⊎ (length es ≡ i)
    → nat_cmp (length ws) (length es) ≡ cmp (drop i (reverse (low_words ws))) (drop i (reverse es))
last_step ws es i in_words in_entries h =
    let xs : List ℕ = reverse (low_words ws) in
    let ys : List ℕ = reverse es in
    let a : length (drop i xs) ≡ length ws - i = length-drop i xs ∙ ap (λ n. n - i) (words_len ws) in
    let b : length (drop i ys) ≡ length es - i = length-drop i ys ∙ ap (λ n. n - i) (length-reverse es) in
    let c : length ws ≡ i + length (drop i xs) = omega arith in
    let d : length es ≡ i + length (drop i ys) = omega arith in
    rw (c, d) (by_length (drop i xs) (drop i ys) i (elim h [ inl e ↦ inl (omega arith) | inr e ↦ inr (omega arith) ]))

-- an element that was read, whatever would represent one past the end
pub read_at : (xs : List ℕ) (i x y d : ℕ) → x ≡ y → i < length xs → y ≡ get_or xs i d → x ≡ get_or xs i x
read_at xs i x y d same within is = same ∙ is ∙ get_or_default xs i d x within
