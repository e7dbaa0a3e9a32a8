-- A path at a name or below it, byte by byte.
use Rattle.std.proofs.Common.{◌≡◌, ℕ, Bool, true, false, List, [], ◌∷◌, ◌++◌, length, get_or, refl, sym, ap, ◌∙◌, eqb, inl, inr}
use Rattle.std.specs.Prelude.{◌&&◌, ◌||◌, ◌==◌, codes, nat_eq}
use Rattle.std.specs.Str.{bytes_eq}
use Rattle.std.specs.List.{starts_with}
use Rattle.std.proofs.lemmas.Bool.{eqb-true, eq-eqb, cases_Bool, false_from_ne_true}
use Rattle.adb_schema.specs.Reserved.{is_at_or_below}
use Rattle.adb_fields.specs.Paths.{path_of}

-- what the name leaves of the path is nothing, or begins with a slash
abbrev pub goes_below : List ℕ → List ℕ → Bool
goes_below [] [] = true
goes_below [] (b ∷ rest) = b == 47
goes_below (t ∷ top) [] = false
goes_below (t ∷ top) (b ∷ rest) = (b == t) && goes_below top rest

pub eqb-sym : (a b : ℕ) → eqb a b ≡ eqb b a
eqb-sym a b = elim (cases_Bool (eqb a b)) [
  | inl e ↦ e ∙ sym (eq-eqb b a (sym (eqb-true a b e)))
  | inr e ↦ e ∙ sym (false_from_ne_true (eqb b a) (λ f. let back : eqb a b ≡ true = eq-eqb a b (sym (eqb-true b a f)) in cc))
]

or_and : (x y z : Bool) → ((x && y) || (x && z)) ≡ (x && (y || z))
or_and true y z = refl
or_and false y z = refl

pub is_at_or_below-by : (top path : List ℕ) → is_at_or_below top path ≡ goes_below top path
is_at_or_below-by [] [] = refl
is_at_or_below-by [] (b ∷ rest) = rw (eqb-sym 47 b) (and_true (eqb b 47))
  where
    and_true : (x : Bool) → (x && true) ≡ x
    and_true true = refl
    and_true false = refl
is_at_or_below-by (t ∷ top) [] = refl
is_at_or_below-by (t ∷ top) (b ∷ rest) =
    rw (eqb-sym t b) (or_and (eqb b t) (bytes_eq rest top) (starts_with nat_eq rest (top ++ codes "/")) ∙ ap (λ x. eqb b t && x) (is_at_or_below-by top rest))

-- ---- after what both begin with

same_and : (b : ℕ) (x : Bool) → (eqb b b && x) ≡ x
same_and b x = rw (eq-eqb b b refl) refl

goes_below-append : (front top path : List ℕ) → goes_below (front ++ top) (front ++ path) ≡ goes_below top path
goes_below-append [] top path = refl
goes_below-append (b ∷ front) top path = same_and b (goes_below (front ++ top) (front ++ path)) ∙ goes_below-append front top path

pub is_at_or_below-append : (front top path : List ℕ) → is_at_or_below (front ++ top) (front ++ path) ≡ is_at_or_below top path
is_at_or_below-append front top path = is_at_or_below-by (front ++ top) (front ++ path) ∙ goes_below-append front top path ∙ sym (is_at_or_below-by top path)

-- the name is a beginning of the path
pub goes_below-rest : (top path rest : List ℕ) → path ≡ top ++ rest → is_at_or_below top path ≡ goes_below [] rest
goes_below-rest top path rest e =
    is_at_or_below-by top path ∙ ap (goes_below top) e ∙ from_end top
  where
    from_end : (t : List ℕ) → goes_below t (t ++ rest) ≡ goes_below [] rest
    from_end [] = refl
    from_end (b ∷ t) = same_and b (goes_below t (t ++ rest)) ∙ from_end t

begins : (top path : List ℕ) → goes_below top path ≡ true → (rest : List ℕ) × (path ≡ top ++ rest)
begins [] path e = (path, refl)
begins (t ∷ top) [] e = absurd cc
begins (t ∷ top) (b ∷ rest) e =
    elim (cases_Bool (eqb b t)) [
      | inl same ↦
          let inner : goes_below top rest ≡ true = let step : (eqb b t && goes_below top rest) ≡ goes_below top rest = rw same refl in sym step ∙ e in
          let (more, is) = begins top rest inner in
          let head : b ≡ t = eqb-true b t same in
          (more, cc)
      | inr differs ↦ absurd (let step : (eqb b t && goes_below top rest) ≡ false = rw differs refl in cc)
    ]

-- a path that does not begin so is neither
pub not_below : (top path : List ℕ) → ((rest : List ℕ) → path ≡ top ++ rest → ⊥) → is_at_or_below top path ≡ false
not_below top path h = false_from_ne_true _ (λ e. let (rest, is) = begins top path (sym (is_at_or_below-by top path) ∙ e) in h rest is)

-- ---- a file whose folder does not begin the name

goes_below-front : (top folder more : List ℕ) → ((rest : List ℕ) → top ≡ folder ++ rest → ⊥) → goes_below top (folder ++ more) ≡ goes_below top folder
goes_below-front top [] more h = absurd (h top refl)
goes_below-front [] (b ∷ folder) more h = refl
goes_below-front (t ∷ top) (b ∷ folder) more h =
    elim (cases_Bool (eqb b t)) [
      | inl same ↦
          let head : b ≡ t = eqb-true b t same in
          ap (λ x. eqb b t && x) (goes_below-front top folder more (λ rest e. h rest cc))
      | inr differs ↦ rw differs refl
    ]

pub folder_apart : (top folder more : List ℕ) → ((rest : List ℕ) → top ≡ folder ++ rest → ⊥) → is_at_or_below top (folder ++ more) ≡ is_at_or_below top folder
folder_apart top folder more h = is_at_or_below-by top (folder ++ more) ∙ goes_below-front top folder more h ∙ sym (is_at_or_below-by top folder)

-- after a slash
pub below_slash : (first : ℕ) (rest name : List ℕ) → is_at_or_below (first ∷ rest) (47 ∷ name) ≡ ((first == 47) && is_at_or_below rest name)
below_slash first rest name =
    is_at_or_below-by (first ∷ rest) (47 ∷ name) ∙ ap (λ x. x && goes_below rest name) (eqb-sym 47 first) ∙ ap (λ x. (first == 47) && x) (sym (is_at_or_below-by rest name))

-- a file's path outside of the root folder
pub file_path : (folder name : List ℕ) → false ≡ (length folder == 0) → path_of folder name ≡ folder ++ (47 ∷ name)
file_path [] name e = absurd cc
file_path (b ∷ folder) name e = refl

-- the first byte after the name
pub goes_below-first : (rest : List ℕ) → false ≡ (length rest == 0) → goes_below [] rest ≡ (get_or rest 0 0 == 47)
goes_below-first [] e = absurd cc
goes_below-first (b ∷ rest) e = refl
