-- Texts that are pushed one behind another.
use Rattle.std.proofs.Common.{◌≡◌, ℕ, zero, suc, ◌+◌, ◌<◌, get_or, Bool, true, false, cond, List, [], ◌∷◌, ◌++◌, map, length, drop, Option, Some, None, Bor, refl, ◌∙◌, ap, arith}
use Rattle.std.specs.Prelude.{fold, if◌then◌else◌, option_to_list, slice_get}
use Rattle.std.specs.List.{cons_option, filter, flat_map, position_from, list_any}
use Rattle.std.specs.Option.{option_map_or}
use Rattle.std.specs.Prelude.{is_some, ◌||◌}
use Rattle.base_core.proofs.Texts.{joined}
use Rattle.solve_core.specs.candidate_core.Candidates.{Candidate}
use Rattle.package_changes.proofs.Lists.{item_at}

pub four : (r r1 r2 r3 r4 a b c d : List ℕ) → r1 ≡ r ++ a → r2 ≡ r1 ++ b → r3 ≡ r2 ++ c → r4 ≡ r3 ++ d → r4 ≡ r ++ (a ++ b ++ c ++ d)
four r r1 r2 r3 r4 a b c d e1 e2 e3 e4 =
    joined r r3 r4 (a ++ b ++ c) d (joined r r2 r3 (a ++ b) c (joined r r1 r2 a b e1 e2) e3) e4

pub five : (r r1 r2 r3 r4 r5 a b c d e : List ℕ) → r1 ≡ r ++ a → r2 ≡ r1 ++ b → r3 ≡ r2 ++ c → r4 ≡ r3 ++ d → r5 ≡ r4 ++ e → r5 ≡ r ++ (a ++ b ++ c ++ d ++ e)
five r r1 r2 r3 r4 r5 a b c d e e1 e2 e3 e4 e5 =
    joined r r4 r5 (a ++ b ++ c ++ d) e (four r r1 r2 r3 r4 a b c d e1 e2 e3 e4) e5

pub six : (r r1 r2 r3 r4 r5 r6 a b c d e f : List ℕ) → r1 ≡ r ++ a → r2 ≡ r1 ++ b → r3 ≡ r2 ++ c → r4 ≡ r3 ++ d → r5 ≡ r4 ++ e → r6 ≡ r5 ++ f → r6 ≡ r ++ (a ++ b ++ c ++ d ++ e ++ f)
six r r1 r2 r3 r4 r5 r6 a b c d e f e1 e2 e3 e4 e5 e6 =
    joined r r5 r6 (a ++ b ++ c ++ d ++ e) f (five r r1 r2 r3 r4 r5 a b c d e e1 e2 e3 e4 e5) e6

-- a report that was empty
pub three_parts : (r0 r1 r2 r3 a b s : List ℕ) → r0 ≡ [] → r1 ≡ r0 ++ a → r2 ≡ r1 ++ b → r3 ≡ r2 ++ s → r3 ≡ a ++ b ++ s
three_parts r0 r1 r2 r3 a b s e0 e1 e2 e3 =
    e3 ∙ ap (λ z. z ++ s) (e2 ∙ ap (λ z. z ++ b) (e1 ∙ ap (λ z. z ++ a) e0))

pub get_mapped : {X Y : Type 0} (f : X → Y) (xs : List X) (i : ℕ) (x : X) → slice_get xs i ≡ Some x → slice_get (map f xs) i ≡ Some (f x)
get_mapped f [] i x e = cc
get_mapped f (y ∷ xs) zero x e = let is : y ≡ x = cc in ap (λ z. Some (f z)) is
get_mapped f (y ∷ xs) (suc i) x e = get_mapped f xs i x e

-- ---- sums

pub summed : (f : Candidate → ℕ) (s : ℕ) (o : Option Candidate) (rest : List Candidate) → fold (λ a x. a + f x) s (cons_option o rest) ≡ fold (λ a x. a + f x) (s + option_map_or f o 0) rest
summed f s None rest = let same : s ≡ s + 0 = omega arith in ap (λ n. fold (λ a x. a + f x) n rest) same
summed f s (Some c) rest = refl

pub counted : (o : Option Candidate) (rest : List Candidate) → length (cons_option o rest) ≡ option_map_or (λ _. 1) o 0 + length rest
counted None rest = omega arith
counted (Some c) rest = omega arith

-- ---- what stays

lines_here : {X : Type 0} (f : X → List ℕ) (p : X → Bool) (x : X) (xs : List X) → flat_map f (filter p (x ∷ xs)) ≡ (if p x then f x else []) ++ flat_map f (filter p xs)
lines_here f p x xs = go (p x)
  where
    go : (t : Bool) → flat_map f (cond t (x ∷ filter p xs) (filter p xs)) ≡ (if t then f x else []) ++ flat_map f (filter p xs)
    go true = refl
    go false = refl

pub lines_at : (f : List ℕ → List ℕ) (p : List ℕ → Bool) (names : List (Bor (List ℕ))) (i : ℕ) (d : Bor (List ℕ)) → i < length names → flat_map f (filter p (map (λ n. n.now) (drop i names))) ≡ (if p (get_or names i d).now then f (get_or names i d).now else []) ++ flat_map f (filter p (map (λ n. n.now) (drop (i + 1) names)))
lines_at f p names i d l =
    ap (λ z. flat_map f (filter p (map (λ n. n.now) z))) (item_at names i d l)
    ∙ lines_here f p (get_or names i d).now (map (λ n. n.now) (drop (i + 1) names))

pub lines_of_option : {X : Type 0} (f : X → List ℕ) (p : X → Bool) (o : Option X) (xs : List X) → flat_map f (filter p (cons_option o xs)) ≡ flat_map f (filter p (option_to_list o)) ++ flat_map f (filter p xs)
lines_of_option f p None xs = refl
lines_of_option f p (Some x) xs = go (p x)
  where
    go : (t : Bool) → flat_map f (cond t (x ∷ filter p xs) (filter p xs)) ≡ flat_map f (cond t (x ∷ []) []) ++ flat_map f (filter p xs)
    go true = append_front (f x) (flat_map f (filter p xs))
      where
        append_front : (a b : List ℕ) → a ++ b ≡ (a ++ []) ++ b
        append_front [] b = refl
        append_front (n ∷ a) b = ap (λ z. n ∷ z) (append_front a b)
    go false = refl

pub names_of_option : {X : Type 0} (f : X → List ℕ) (p : X → Bool) (o : Option X) (xs : List X) → map f (filter p (cons_option o xs)) ≡ map f (filter p (option_to_list o)) ++ map f (filter p xs)
names_of_option f p None xs = refl
names_of_option f p (Some x) xs = go (p x)
  where
    go : (t : Bool) → map f (cond t (x ∷ filter p xs) (filter p xs)) ≡ map f (cond t (x ∷ []) []) ++ map f (filter p xs)
    go true = refl
    go false = refl

pub is_found : {X : Type 0} (p : X → Bool) (n : ℕ) (xs : List X) → is_some (position_from p n xs) ≡ list_any p xs
is_found p n [] = refl
is_found p n (x ∷ xs) = go (p x) (is_found p (n + 1) xs)
  where
    go : (t : Bool) → is_some (position_from p (n + 1) xs) ≡ list_any p xs → is_some (cond t (Some n) (position_from p (n + 1) xs)) ≡ (t || list_any p xs)
    go true r = refl
    go false r = r
