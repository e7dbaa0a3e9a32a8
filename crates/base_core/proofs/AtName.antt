-- Lemmas that several crates need.
use Rattle.std.proofs.Common.{List, ℕ, ◌≡◌, true, [], refl, ◌∷◌, eqb, eq-eqb, ◌≢◌, false, Bool, ◌&&◌, ◌⊎◌, inl, inr, true≢false, sym, ◌∙◌}
use Rattle.std.specs.Prelude.{bytes_eq}
use Rattle.std.proofs.lemmas.Bool.{and_parts, eqb-true}
use Rattle.std.proofs.lemmas.Slice.Eq.{bytes_eq-Decides}
use Rattle.std.specs.Cmp.Lexicographic.{bytes_decides}

pub is_name : (x y : List ℕ) → bytes_eq x y ≡ true → x ≡ y
is_name [] [] e = refl
is_name [] (d ∷ ds) e = absurd cc
is_name (c ∷ cs) [] e = absurd cc
is_name (c ∷ cs) (d ∷ ds) e =
    let a = and_parts (eqb c d) (bytes_eq cs ds) e in
    let head : c ≡ d = eqb-true _ _ a.0 in
    let tail : cs ≡ ds = is_name cs ds a.1 in
    cc

pub own_name : (x : List ℕ) → bytes_eq x x ≡ true
own_name [] = refl
own_name (c ∷ cs) = let t : eqb c c ≡ true = eq-eqb c c refl in rw (t, own_name cs) refl

pub other_name : (x y : List ℕ) → x ≢ y → bytes_eq x y ≡ false
other_name [] [] ne = absurd (ne refl)
other_name [] (d ∷ ds) ne = refl
other_name (c ∷ cs) [] ne = refl
other_name (c ∷ cs) (d ∷ ds) ne = go (eqb c d) refl (λ f. other_name cs ds f)
  where
    go : (b : Bool) → eqb c d ≡ b → (cs ≢ ds → bytes_eq cs ds ≡ false) → (b && bytes_eq cs ds) ≡ false
    go true e h = let same : c ≡ d = eqb-true _ _ e in h (λ f. ne cc)
    go false e h = refl

pub same_name : (q name : List ℕ) → q ≡ name → bytes_eq q name ≡ true
same_name q name = (bytes_eq-Decides q name).1

by_test : (b : Bool) (P : Type 0) → (b ≡ true → P) × (P → b ≡ true) → P ⊎ (b ≡ false)
by_test true P d = inl (d.0 refl)
by_test false P d = inr refl

pub name_cases : (q name : List ℕ) → (q ≡ name) ⊎ (bytes_eq q name ≡ false)
name_cases q name = by_test (bytes_eq q name) (q ≡ name) (bytes_eq-Decides q name)

pub off_name : (q name : List ℕ) → bytes_eq q name ≡ false → q ≢ name
off_name q name off is = let same = same_name q name is in absurd (cc (same, off))

pub either_way : (a b : List ℕ) → bytes_eq a b ≡ bytes_eq b a
either_way a b = go (bytes_eq a b) (bytes_eq b a) refl refl
  where
    go : (s t : Bool) → bytes_eq a b ≡ s → bytes_eq b a ≡ t → s ≡ t
    go true true e f = refl
    go true false e f = absurd (true≢false (sym ((bytes_decides b a).1 (sym ((bytes_decides a b).0 e))) ∙ f))
    go false true e f = absurd (true≢false (sym ((bytes_decides a b).1 (sym ((bytes_decides b a).0 f))) ∙ e))
    go false false e f = refl
