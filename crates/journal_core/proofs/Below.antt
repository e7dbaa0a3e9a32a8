-- A name below a folder begins with it and a slash.
use Rattle.std.proofs.Common.{◌≡◌, ℕ, true, List, [], ◌∷◌, ◌++◌, codes, refl, sym, ap, ◌∙◌}
use Rattle.std.specs.Prelude.{nat_eq}
use Rattle.std.specs.List.{starts_with}
use Rattle.std.proofs.lemmas.Bool.{and_parts, and_from, eqb-true, eq-eqb}
use Rattle.base_core.specs.Files.{IsFolderOf}

pub begins : (folder q : List ℕ) → IsFolderOf folder q → starts_with nat_eq q (folder ++ codes "/") ≡ true
begins [] q (rest, is) = ap (λ (p : List ℕ). starts_with nat_eq p (codes "/")) is
begins (b ∷ folder) q (rest, is) =
    ap (λ (p : List ℕ). starts_with nat_eq p (b ∷ folder ++ codes "/")) is
    ∙ and_from (nat_eq b b) (starts_with nat_eq (folder ++ 47 ∷ rest) (folder ++ codes "/")) (eq-eqb b b refl) (begins folder (folder ++ 47 ∷ rest) (rest, refl))

pub is_below : (folder q : List ℕ) → starts_with nat_eq q (folder ++ codes "/") ≡ true → IsFolderOf folder q
is_below [] [] h = cc
is_below [] (x ∷ q) h =
    let same : x ≡ 47 = sym (eqb-true 47 x (and_parts (nat_eq 47 x) true h).0) in
    (q, ap (λ y. y ∷ q) same)
is_below (b ∷ folder) [] h = cc
is_below (b ∷ folder) (x ∷ q) h =
    let parts = and_parts (nat_eq b x) (starts_with nat_eq q (folder ++ codes "/")) h in
    let same : x ≡ b = sym (eqb-true b x parts.0) in
    let more = is_below folder q parts.1 in
    (more.0, ap (λ y. y ∷ q) same ∙ ap (λ p. b ∷ p) more.1)
