-- Bytes that are due, in two parts, and bytes that come.
use Rattle.std.proofs.Common.{◌≡◌, ◌⊎◌, inl, inr, ℕ, suc, ◌==◌, ◌≤◌, min, Bool, true, false, List, [], ◌∷◌, ◌++◌, length, take, drop, refl, ap, sym, ◌∙◌, append_assoc, arith}
use Rattle.std.specs.Str.{bytes_eq}
use Rattle.std.proofs.Math.Seq.{take-append_seam}
use Rattle.std.proofs.lemmas.Bool.Decides.{Decides-like, nat_tests, same_from_decides}
use Rattle.std.proofs.lemmas.List.{append-nil, append_cancel_left, length-drop, length-take, length-take-le, take-append-drop, take-append-le}
use Rattle.std.proofs.lemmas.Slice.Eq.{bytes_eq-Decides}
use Rattle.base_core.proofs.NameParts.{other_bytes}
use Rattle.base_core.proofs.Booleans.{not_both}

-- ---- comparisons

alike : (xs ys zs ws : List ℕ) → (xs ≡ ys → zs ≡ ws) → (zs ≡ ws → xs ≡ ys) → bytes_eq xs ys ≡ bytes_eq zs ws
alike xs ys zs ws f g =
    same_from_decides {P = zs ≡ ws} (bytes_eq xs ys) (bytes_eq zs ws)
    (Decides-like {P = xs ≡ ys} {Q = zs ≡ ws} (bytes_eq xs ys) f g (bytes_eq-Decides xs ys))
    (bytes_eq-Decides zs ws)

behind : (xs ys zs : List ℕ) → bytes_eq (xs ++ ys) (xs ++ zs) ≡ bytes_eq ys zs
behind xs ys zs = alike (xs ++ ys) (xs ++ zs) ys zs (append_cancel_left xs ys zs) (λ e. ap (λ (ws : List ℕ). xs ++ ws) e)

-- ---- where the bytes that come are those that are due

pub due_further : (test : List ℕ → Bool) (so_far bytes due left : List ℕ) → due ≡ bytes ++ left → ((further : List ℕ) → test (so_far ++ further) ≡ bytes_eq further due) → (further : List ℕ) → test ((so_far ++ bytes) ++ further) ≡ bytes_eq further left
due_further test so_far bytes due left is h further =
    ap test (append_assoc so_far bytes further)
    ∙ (h (bytes ++ further)
    ∙ (ap (bytes_eq (bytes ++ further)) is
    ∙ behind bytes further left))

two_parts : (p q f s : List ℕ) → (length q ≡ 0) ⊎ (length f ≡ 0) → (p ++ f) ++ (q ++ s) ≡ (p ++ q) ++ (f ++ s)
two_parts p [] f s e = append_assoc p f s ∙ ap (λ (xs : List ℕ). xs ++ (f ++ s)) (sym (append-nil p))
two_parts p (y ∷ q) [] s e = ap (λ (xs : List ℕ). xs ++ ((y ∷ q) ++ s)) (append-nil p) ∙ sym (append_assoc p (y ∷ q) s)
two_parts p (y ∷ q) (x ∷ f) s e = absurd (elim e [ inl none ↦ omega arith | inr none ↦ omega arith ])

front_and_rest : (n : ℕ) (xs front rest : List ℕ) → take n xs ≡ front → rest ≡ drop n xs → xs ≡ front ++ rest
front_and_rest n xs front rest is left =
    sym (take-append-drop n xs) ∙ (ap (λ (ys : List ℕ). ys ++ drop n xs) is ∙ ap (λ (ys : List ℕ). front ++ ys) (sym left))

pub due_left : (bytes first second first_left second_left : List ℕ) (n : ℕ) → n ≡ min (length bytes) (length first)
    → bytes_eq (take (length (take n bytes)) first) (take n bytes) ≡ true → first_left ≡ drop (length (take n bytes)) first
    → bytes_eq (take (length (drop n bytes)) second) (drop n bytes) ≡ true → second_left ≡ drop (length (drop n bytes)) second
    → first ++ second ≡ bytes ++ (first_left ++ second_left)
due_left bytes first second first_left second_left n is same_first left_first same_second left_second =
    let front : List ℕ = take n bytes in
    let rest : List ℕ = drop n bytes in
    let front_len = length-take n bytes in
    let rest_len = length-drop n bytes in
    let left_len = length-drop (length front) first in
    let left_is = ap length left_first in
    let first_is : first ≡ front ++ first_left = front_and_rest (length front) first front first_left ((bytes_eq-Decides (take (length front) first) front).0 same_first) left_first in
    let second_is : second ≡ rest ++ second_left = front_and_rest (length rest) second rest second_left ((bytes_eq-Decides (take (length rest) second) rest).0 same_second) left_second in
    let one_ends : (length rest ≡ 0) ⊎ (length first_left ≡ 0) = grind arith in
    ap (λ (xs : List ℕ). xs ++ second) first_is
    ∙ (ap (λ (xs : List ℕ). (front ++ first_left) ++ xs) second_is
    ∙ (two_parts front rest first_left second_left one_ends
    ∙ ap (λ (xs : List ℕ). xs ++ (first_left ++ second_left)) (take-append-drop n bytes)))

-- ---- where they differ

pub due_missed : (test : List ℕ → Bool) (so_far bytes due : List ℕ) → ((further : List ℕ) → bytes ++ further ≡ due → ⊥) → ((further : List ℕ) → test (so_far ++ further) ≡ bytes_eq further due) → (further : List ℕ) → test ((so_far ++ bytes) ++ further) ≡ false
due_missed test so_far bytes due apart h further =
    ap test (append_assoc so_far bytes further) ∙ (h (bytes ++ further) ∙ other_bytes (bytes ++ further) due (apart further))

pub first_differs : (bytes first second : List ℕ) (n : ℕ) → n ≡ min (length bytes) (length first) → bytes_eq (take (length (take n bytes)) first) (take n bytes) ≡ false → (further : List ℕ) → bytes ++ further ≡ first ++ second → ⊥
first_differs bytes first second n is differs further same =
    let within : n ≤ length bytes = omega arith in
    let short : n ≤ length first = omega arith in
    let long : length (take n bytes) ≡ n = length-take-le n bytes within in
    let fronts : take (length (take n bytes)) first ≡ take n bytes =
    ap (λ (k : ℕ). take k first) long
    ∙ (sym (take-append-le n first second short)
    ∙ (ap (take n) (sym same) ∙ take-append-le n bytes further within)) in
    not_both _ ((bytes_eq-Decides (take (length (take n bytes)) first) (take n bytes)).1 fronts) differs

rest_differs : (bytes first second : List ℕ) (n : ℕ) → n ≡ min (length bytes) (length first)
    → bytes_eq (take (length (take n bytes)) first) (take n bytes) ≡ true
    → bytes_eq (take (length (drop n bytes)) second) (drop n bytes) ≡ false
    → length (drop n bytes) ≡ 0 → ⊥
rest_differs bytes first second n is same differs none =
    let rest_is : drop n bytes ≡ [] = no_bytes (drop n bytes) none in
    let found : bytes_eq (take (length (drop n bytes)) second) (drop n bytes) ≡ true =
    (bytes_eq-Decides (take (length (drop n bytes)) second) (drop n bytes)).1
    (ap (λ (xs : List ℕ). take (length xs) second) rest_is ∙ (take_nothing second ∙ sym rest_is)) in
    not_both _ found differs
  where
    no_bytes : (xs : List ℕ) → length xs ≡ 0 → xs ≡ []
    no_bytes [] e = refl
    no_bytes (x ∷ xs) e = absurd (omega arith)

    take_nothing : (xs : List ℕ) → take 0 xs ≡ []
    take_nothing [] = refl
    take_nothing (x ∷ xs) = refl

pub second_differs : (bytes first second : List ℕ) (n : ℕ) → n ≡ min (length bytes) (length first)
    → bytes_eq (take (length (take n bytes)) first) (take n bytes) ≡ true
    → bytes_eq (take (length (drop n bytes)) second) (drop n bytes) ≡ false
    → (further : List ℕ) → bytes ++ further ≡ first ++ second → ⊥
second_differs bytes first second n is same_first differs further same =
    elim ends [
      | inl none ↦ rest_differs bytes first second n is same_first differs none
      | inr none ↦ not_both _ (behind_first none) differs
    ]
  where
    ends : (length (drop n bytes) ≡ 0) ⊎ (length (drop (length (take n bytes)) first) ≡ 0)
    ends =
        let front_len = length-take n bytes in
        let rest_len = length-drop n bytes in
        let left_len = length-drop (length (take n bytes)) first in
        grind arith

    first_is : first ≡ take n bytes ++ drop (length (take n bytes)) first
    first_is = front_and_rest (length (take n bytes)) first (take n bytes) (drop (length (take n bytes)) first) ((bytes_eq-Decides (take (length (take n bytes)) first) (take n bytes)).0 same_first) refl

    nothing_after : (front left : List ℕ) → length left ≡ 0 → front ++ left ≡ front
    nothing_after front [] e = append-nil front
    nothing_after front (x ∷ left) e = absurd (omega arith)

    behind_first : length (drop (length (take n bytes)) first) ≡ 0 → bytes_eq (take (length (drop n bytes)) second) (drop n bytes) ≡ true
    behind_first none =
        let all : first ≡ take n bytes = first_is ∙ nothing_after (take n bytes) (drop (length (take n bytes)) first) none in
        let split : take n bytes ++ (drop n bytes ++ further) ≡ take n bytes ++ second =
        sym (append_assoc (take n bytes) (drop n bytes) further)
        ∙ (ap (λ (xs : List ℕ). xs ++ further) (take-append-drop n bytes)
        ∙ (same ∙ ap (λ (xs : List ℕ). xs ++ second) all)) in
        let second_is : drop n bytes ++ further ≡ second = append_cancel_left (take n bytes) (drop n bytes ++ further) second split in
        (bytes_eq-Decides (take (length (drop n bytes)) second) (drop n bytes)).1
        (ap (take (length (drop n bytes))) (sym second_is) ∙ take-append_seam (drop n bytes) further)

-- ---- where nothing more comes

pub never_met : (test : List ℕ → Bool) (bytes : List ℕ) → ((further : List ℕ) → test (bytes ++ further) ≡ false) → false ≡ test bytes
never_met test bytes h = sym (h []) ∙ ap test (append-nil bytes)

nothing_due : (test : List ℕ → Bool) (bytes due : List ℕ) → ((further : List ℕ) → test (bytes ++ further) ≡ bytes_eq further due) → bytes_eq [] due ≡ test bytes
nothing_due test bytes due h = sym (h []) ∙ ap test (append-nil bytes)

pub not_zero : (n : ℕ) → (suc n == 0) ≡ false
not_zero n = grind (arith, nat_tests)

empty_second : (first second : List ℕ) → (length first == 0) ≡ true → (length second == 0) ≡ bytes_eq [] (first ++ second)
empty_second [] [] e = refl
empty_second [] (x ∷ second) e = not_zero (length second)
empty_second (x ∷ first) second e = absurd (not_both _ e (not_zero (length first)))

some_first : (first second : List ℕ) → (length first == 0) ≡ false → false ≡ bytes_eq [] (first ++ second)
some_first [] second e = absurd (not_both true refl e)
some_first (x ∷ first) second e = refl

pub second_due : (test : List ℕ → Bool) (bytes first second : List ℕ) → ((further : List ℕ) → test (bytes ++ further) ≡ bytes_eq further (first ++ second)) → (length first == 0) ≡ true → (length second == 0) ≡ test bytes
second_due test bytes first second h e = empty_second first second e ∙ nothing_due test bytes (first ++ second) h

pub first_due : (test : List ℕ → Bool) (bytes first second : List ℕ) → ((further : List ℕ) → test (bytes ++ further) ≡ bytes_eq further (first ++ second)) → (length first == 0) ≡ false → false ≡ test bytes
first_due test bytes first second h e = some_first first second e ∙ nothing_due test bytes (first ++ second) h
