-- The path in front of an ending, and the name behind one.
use Rattle.std.proofs.Common.{◌≡◌, ◌⊎◌, inl, inr, ℕ, zero, suc, ◌+◌, ◌-◌, ◌≤◌, Bool, true, false, ◌||◌, eqb, List, [], ◌∷◌, ◌++◌, length, take, drop, codes, Some, None, refl, sym, ap, ◌∙◌, append_assoc, arith, length-append, true≢false}
use Rattle.std.specs.Cmp.Lexicographic.{pointwise, bytes_decides}
use Rattle.std.specs.Prelude.{nat_eq, if◌then◌else◌}
use Rattle.std.specs.List.{ends_with, list_any}
use Rattle.std.proofs.lemmas.List.Folds.{list_any-append}
use Rattle.std.proofs.Math.Seq.{take-append_seam, drop-append_seam}
use Rattle.base_core.specs.Name.{IsName}
use Rattle.base_core.proofs.NameParts.{IsEnding, ending_makes_name}
use Rattle.path_claim_lists.specs.adb_fields.Paths.{path_of}
use Rattle.own_core.specs.Fate.{apk_new_name}
use Rattle.own_core.specs.FilesAfter.{path_of_apk_new_name}

abbrev pub ending : List ℕ
ending = codes ".apk-new"

-- ---- in front of it

both_parts : (n : ℕ) (xs : List ℕ) → take n xs ++ drop n xs ≡ xs
both_parts zero xs = refl
both_parts (suc n) [] = refl
both_parts (suc n) (x ∷ xs) = ap (λ r. x ∷ r) (both_parts n xs)

front_len : (xs : List ℕ) → length (xs ++ ending) - 8 ≡ length xs
front_len xs = let n : length (xs ++ ending) ≡ length xs + 8 = length-append xs ending in omega (arith, n)

last_eight : (xs : List ℕ) → drop (length (xs ++ ending) - 8) (xs ++ ending) ≡ ending
last_eight xs = ap (λ n. drop n (xs ++ ending)) (front_len xs) ∙ drop-append_seam xs ending

pub front_of : (xs : List ℕ) → path_of_apk_new_name (xs ++ ending) ≡ Some xs
front_of xs =
    ap (λ b. if b then Some (take (length (xs ++ ending) - 8) (xs ++ ending)) else None) ((bytes_decides ending (drop (length (xs ++ ending) - 8) (xs ++ ending))).1 (sym (last_eight xs)))
    ∙ ap Some (ap (λ n. take n (xs ++ ending)) (front_len xs) ∙ take-append_seam xs ending)

pub ends_so : (name : List ℕ) → path_of_apk_new_name name ≡ None ⊎ ((front : List ℕ) × (name ≡ front ++ ending))
ends_so name = go (ends_with nat_eq name ending) refl
  where
    go : (b : Bool) → ends_with nat_eq name ending ≡ b → ((if b then Some (take (length name - 8) name) else None) ≡ None) ⊎ ((front : List ℕ) × (name ≡ front ++ ending))
    go true e = inr (take (length name - 8) name, sym (ap (λ r. take (length name - 8) name ++ r) ((bytes_decides ending (drop (length name - 8) name)).0 e) ∙ both_parts (length name - 8) name))
    go false e = inl refl

-- the front of what ends so
pub found_front : (name front : List ℕ) → path_of_apk_new_name name ≡ Some front → name ≡ front ++ ending
found_front name front e = elim (ends_so name) [
  | inl none ↦ absurd (let off : None ≡ Some front = sym none ∙ e in cc)
  | inr found ↦ found.1 ∙ ap (λ (r : List ℕ). r ++ ending) (let same : Some found.0 ≡ Some front = sym (ap path_of_apk_new_name found.1 ∙ front_of found.0) ∙ e in cc)
]

-- ---- of a path in two parts

pub ending_of_path : (folder name : List ℕ) → path_of folder (name ++ ending) ≡ path_of folder name ++ ending
ending_of_path [] name = refl
ending_of_path (b ∷ folder) name = sym (append_assoc (b ∷ folder) (47 ∷ name) ending)

no_slash : (xs name : List ℕ) → xs ++ 47 ∷ name ≡ ending → ⊥
no_slash xs name e = true≢false (sym has ∙ ap (list_any (λ b. eqb b 47)) e)
  where
    has : list_any (λ b. eqb b 47) (xs ++ 47 ∷ name) ≡ true
    has = list_any-append (λ b. eqb b 47) xs (47 ∷ name) ∙ or_true (list_any (λ b. eqb b 47) xs)
      where
        or_true : (b : Bool) → (b || true) ≡ true
        or_true true = refl
        or_true false = refl

name_ends : (xs name ys : List ℕ) → xs ++ 47 ∷ name ≡ ys ++ ending → (front : List ℕ) × (name ≡ front ++ ending)
name_ends [] name [] e = absurd (no_slash [] name e)
name_ends [] name (y ∷ ys) e = (ys, cc)
name_ends (x ∷ xs) name [] e = absurd (no_slash (x ∷ xs) name e)
name_ends (x ∷ xs) name (y ∷ ys) e = name_ends xs name ys (cc)

path_ends : (folder name ys : List ℕ) → path_of folder name ≡ ys ++ ending → (front : List ℕ) × (name ≡ front ++ ending)
path_ends [] name ys e = (ys, e)
path_ends (b ∷ folder) name ys e = name_ends (b ∷ folder) name ys e

-- a name that does not end so is that of a path that does not
pub no_ending : (folder name : List ℕ) → pointwise nat_eq (drop (length name - 8) name) ending ≡ false → path_of_apk_new_name (path_of folder name) ≡ None
no_ending folder name h = elim (ends_so (path_of folder name)) [
  | inl none ↦ none
  | inr found ↦ absurd (ends (path_ends folder name found.0 found.1))
]
  where
    ends : (front : List ℕ) × (name ≡ front ++ ending) → ⊥
    ends f =
        let last : drop (length name - 8) name ≡ ending = ap (λ (n : List ℕ). drop (length n - 8) n) f.1 ∙ last_eight f.0 in
        true≢false (sym ((bytes_decides (drop (length name - 8) name) ending).1 last) ∙ h)

-- and one that does is that of a path that does
pub some_ending : (folder name front : List ℕ) → pointwise nat_eq (drop (length name - 8) name) ending ≡ true → front ≡ take (length name - 8) name
    → Some (path_of folder front) ≡ path_of_apk_new_name (path_of folder name)
some_ending folder name front h f =
    let is : name ≡ front ++ ending = sym (both_parts (length name - 8) name) ∙ (λ j. sym f j ++ (bytes_decides (drop (length name - 8) name) ending).0 h j) in
    sym (ap path_of_apk_new_name (ap (path_of folder) is ∙ ending_of_path folder front) ∙ front_of (path_of folder front))

-- ---- it is a name

ending_is : IsEnding ending
ending_is = record { long = omega arith; ascii = refl; no_zero = refl; one_part = refl }

pub aside_is_name : (name : List ℕ) → IsName name → length (apk_new_name name) ≤ 1024 → IsName (apk_new_name name)
aside_is_name name is short =
    let n : length (apk_new_name name) ≡ length name + 8 = length-append name ending in
    ending_makes_name ending name ending_is is (omega (arith, n, short))
