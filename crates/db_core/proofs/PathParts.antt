-- A path is tested part by part.
use Rattle.std.proofs.Common.{◌≡◌, inl, inr, ℕ, Bool, true, false, List, [], ◌∷◌, ◌++◌, take, drop, length, refl, ap, sym, ◌∙◌, arith, true≢false}
use Rattle.std.specs.Prelude.{◌==◌, ◌&&◌, nat_eq, bytes_eq}
use Rattle.std.proofs.lemmas.Bool.Decides.{eqb_tells}
use Rattle.base_core.proofs.Booleans.{both_second, both_first}
use Rattle.pkg_core.specs.adb_fields.Paths.{path_of}

both_false : (a b c : Bool) → (a && b) ≡ false → (b ≡ false → c ≡ false) → (a && c) ≡ false
both_false true b c h f = f h
both_false false b c h f = refl

-- another front
pub front_differs : (path front rest : List ℕ) → bytes_eq (take (length front) path) front ≡ false → bytes_eq path (front ++ rest) ≡ false
front_differs path [] rest h = absurd (true≢false (go path h))
  where
    go : (path : List ℕ) → bytes_eq (take 0 path) [] ≡ false → true ≡ false
    go [] h = h
    go (b ∷ path) h = h
front_differs [] (c ∷ front) rest h = refl
front_differs (b ∷ path) (c ∷ front) rest h = both_false (nat_eq b c) _ _ h (front_differs path front rest)

-- the same front: what is behind it decides
pub front_same : (path front rest : List ℕ) → bytes_eq (take (length front) path) front ≡ true → bytes_eq path (front ++ rest) ≡ bytes_eq (drop (length front) path) rest
front_same [] [] rest h = refl
front_same (b ∷ path) [] rest h = refl
front_same [] (c ∷ front) rest h = absurd (true≢false (sym h))
front_same (b ∷ path) (c ∷ front) rest h =
    ap (λ t. t && bytes_eq path (front ++ rest)) (both_first (nat_eq b c) _ h) ∙ front_same path front rest (both_second (nat_eq b c) _ h)

pub path_at_root : (folder name : List ℕ) → (length folder == 0) ≡ true → path_of folder name ≡ name
path_at_root [] name h = refl
path_at_root (b ∷ folder) name h =
    elim (eqb_tells (length (b ∷ folder)) 0) [ inl p ↦ absurd (omega (arith, p.1)) | inr p ↦ absurd (true≢false (sym h ∙ p.0)) ]

pub path_below : (folder name : List ℕ) → (length folder == 0) ≡ false → path_of folder name ≡ folder ++ (47 ∷ [] ++ name)
path_below [] name h = absurd (true≢false h)
path_below (b ∷ folder) name h = refl
