-- The parts of a name: of one with a slash, and of one with an ending.
use Rattle.std.proofs.Common.{◌≡◌, ◌≤◌, ◌+◌, ℕ, Bool, true, false, cond, not, ◌&&◌, ◌||◌, nat_lt, nat_le, ltb, List, [], ◌∷◌, ◌++◌, length, codes, refl, ap, sym, subst, ◌∙◌, append_assoc, arith, length-append}
use Rattle.std.specs.Prelude.{◌==◌}
use Rattle.std.specs.List.{list_all, list_any, onto_first}
use Rattle.std.specs.Str.{IsAscii, bytes_eq, is_utf8}
use Rattle.std.proofs.lemmas.Bool.{and_parts, le-leb, lt-ltb, ltb-true, ne_eqb, not-true, and_from}
use Rattle.std.proofs.lemmas.List.Folds.{list_any-append}
use Rattle.std.proofs.lemmas.Slice.Eq.{bytes_eq-Decides}
use Rattle.std.proofs.lemmas.Str.{IsUtf8-append, IsUtf8-from_ascii, IsUtf8-from_is_utf8, is_utf8-from_IsUtf8}
use Rattle.std.proofs.lemmas.Str.Ascii.{IsAscii-cons, IsAscii-nil}
use Rattle.base_core.specs.Name.{IsName, is_name, is_path_part, path_parts_of}

-- ---- with a slash

split_some : (xs : List ℕ) → (first : List ℕ) × (others : List (List ℕ)) × (path_parts_of xs ≡ first ∷ others)
split_some [] = ([], [], refl)
split_some (x ∷ xs) = by_slash (x == 47) (split_some xs)
  where
    by_slash : (b : Bool) → (first : List ℕ) × (others : List (List ℕ)) × (path_parts_of xs ≡ first ∷ others)
        → (first : List ℕ) × (others : List (List ℕ)) × (cond b ([] ∷ path_parts_of xs) (onto_first x (path_parts_of xs)) ≡ first ∷ others)
    by_slash true s = ([], path_parts_of xs, refl)
    by_slash false (q, qs, e) = (x ∷ q, qs, ap (onto_first x) e)

onto_append : (x : ℕ) (q : List ℕ) (qs others : List (List ℕ)) → onto_first x ((q ∷ qs) ++ others) ≡ onto_first x (q ∷ qs) ++ others
onto_append x q qs others = refl

-- they are those before it and those behind it
pub split_slash : (a b : List ℕ) → path_parts_of (a ++ 47 ∷ b) ≡ path_parts_of a ++ path_parts_of b
split_slash [] b = refl
split_slash (x ∷ xs) b = by_slash (x == 47) (split_slash xs b) (split_some xs)
  where
    by_slash : (c : Bool) → path_parts_of (xs ++ 47 ∷ b) ≡ path_parts_of xs ++ path_parts_of b → (first : List ℕ) × (others : List (List ℕ)) × (path_parts_of xs ≡ first ∷ others)
        → cond c ([] ∷ path_parts_of (xs ++ 47 ∷ b)) (onto_first x (path_parts_of (xs ++ 47 ∷ b))) ≡ cond c ([] ∷ path_parts_of xs) (onto_first x (path_parts_of xs)) ++ path_parts_of b
    by_slash true e s = ap (λ (ps : List (List ℕ)). [] ∷ ps) e
    by_slash false e (q, qs, is) =
        ap (onto_first x) (e ∙ ap (λ (ps : List (List ℕ)). ps ++ path_parts_of b) is)
        ∙ (onto_append x q qs (path_parts_of b) ∙ ap (λ (ps : List (List ℕ)). onto_first x ps ++ path_parts_of b) (sym is))

-- ---- with an ending

-- behind a name, these bytes make a longer name
pub record IsEnding (ending : List ℕ) : Type 0 where
  pub long : 3 ≤ length ending
  pub ascii : list_all (λ b. ltb b 128) ending ≡ true
  pub no_zero : list_any (λ b. b == 0) ending ≡ false
  pub one_part : path_parts_of ending ≡ ending ∷ []

-- the first part with bytes in front
abbrev onto_front : List ℕ → List (List ℕ) → List (List ℕ)
onto_front front [] = front ∷ []
onto_front front (part ∷ parts) = (front ++ part) ∷ parts

onto_one : (front : List ℕ) (x : ℕ) (parts : List (List ℕ)) → onto_front front (onto_first x parts) ≡ onto_front (front ++ x ∷ []) parts
onto_one front x [] = refl
onto_one front x (part ∷ parts) = ap (λ (l : List ℕ). l ∷ parts) (sym (append_assoc front (x ∷ []) part))

onto_none_first : (x : ℕ) (parts : List (List ℕ)) → onto_front [] (onto_first x parts) ≡ onto_first x parts
onto_none_first x [] = refl
onto_none_first x (part ∷ parts) = refl

onto_none_by : (b : Bool) (x : ℕ) (parts : List (List ℕ)) → onto_front [] (cond b ([] ∷ parts) (onto_first x parts)) ≡ cond b ([] ∷ parts) (onto_first x parts)
onto_none_by true x parts = refl
onto_none_by false x parts = onto_none_first x parts

onto_none : (xs : List ℕ) → onto_front [] (path_parts_of xs) ≡ path_parts_of xs
onto_none [] = refl
onto_none (x ∷ xs) = onto_none_by (x == 47) x (path_parts_of xs)

pub all_off : (a b c : Bool) → a ≡ false → b ≡ false → c ≡ false → (not a && not b && not c) ≡ true
all_off true b c x y z = absurd (cc (x))
all_off false true c x y z = absurd (cc (y))
all_off false false true x y z = absurd (cc (z))
all_off false false false x y z = refl

pub other_bytes : (a b : List ℕ) → (a ≡ b → ⊥) → bytes_eq a b ≡ false
other_bytes a b other = go (bytes_eq a b) refl
  where
    go : (t : Bool) → bytes_eq a b ≡ t → t ≡ false
    go true e = absurd (other ((bytes_eq-Decides a b).0 e))
    go false e = refl

long_part : (part : List ℕ) → 3 ≤ length part → is_path_part part ≡ true
long_part part long = all_off (length part == 0) (bytes_eq part (codes ".")) (bytes_eq part (codes ".."))
    (ne_eqb (length part) 0 (λ z. omega (arith, long, z)))
    (other_bytes part (codes ".") (λ is. let e : length part ≡ 1 = ap length is in omega (arith, long, e)))
    (other_bytes part (codes "..") (λ is. let e : length part ≡ 2 = ap length is in omega (arith, long, e)))

abbrev HasParts : List ℕ → List (List ℕ) → Type 0
HasParts front parts = list_all is_path_part (onto_front front parts) ≡ true

step : (b : Bool) (x : ℕ) (front xs ys : List ℕ) → ((f : List ℕ) → HasParts f (path_parts_of xs) → HasParts f (path_parts_of ys))
    → HasParts front (cond b ([] ∷ path_parts_of xs) (onto_first x (path_parts_of xs))) → HasParts front (cond b ([] ∷ path_parts_of ys) (onto_first x (path_parts_of ys)))
step true x front xs ys on has =
    let parts = and_parts (is_path_part (front ++ [])) (list_all is_path_part (path_parts_of xs)) has in
    let rest : HasParts [] (path_parts_of ys) = on [] (subst (λ p. list_all is_path_part p ≡ true) (sym (onto_none xs)) parts.1) in
    and_from (is_path_part (front ++ [])) (list_all is_path_part (path_parts_of ys)) parts.0 (subst (λ p. list_all is_path_part p ≡ true) (onto_none ys) rest)
step false x front xs ys on has =
    subst (λ p. list_all is_path_part p ≡ true) (sym (onto_one front x (path_parts_of ys))) (on (front ++ x ∷ []) (subst (λ p. list_all is_path_part p ≡ true) (onto_one front x (path_parts_of xs)) has))

longer : (ending xs front : List ℕ) → IsEnding ending → HasParts front (path_parts_of xs) → HasParts front (path_parts_of (xs ++ ending))
longer ending [] front is has =
    let long : 3 ≤ length (front ++ ending) = let e = is.long in omega (arith, length-append front ending, e) in
    subst (HasParts front) (sym is.one_part) (and_from (is_path_part (front ++ ending)) true (long_part (front ++ ending) long) refl)
longer ending (x ∷ xs) front is has = step (x == 47) x front xs (xs ++ ending) (λ f. longer ending xs f is) has

parts_longer : (ending xs : List ℕ) → IsEnding ending → list_all is_path_part (path_parts_of xs) ≡ true → list_all is_path_part (path_parts_of (xs ++ ending)) ≡ true
parts_longer ending xs is all = subst (λ p. list_all is_path_part p ≡ true) (onto_none (xs ++ ending)) (longer ending xs [] is (subst (λ p. list_all is_path_part p ≡ true) (sym (onto_none xs)) all))

pub ascii_by : (bs : List ℕ) → list_all (λ b. ltb b 128) bs ≡ true → IsAscii bs
ascii_by [] all = IsAscii-nil
ascii_by (b ∷ bs) all = let parts = and_parts (ltb b 128) (list_all (λ b. ltb b 128) bs) all in IsAscii-cons b bs (ltb-true b 128 parts.0) (ascii_by bs parts.1)

utf8_longer : (ending xs : List ℕ) → IsEnding ending → is_utf8 xs ≡ true → is_utf8 (xs ++ ending) ≡ true
utf8_longer ending xs is good = is_utf8-from_IsUtf8 (xs ++ ending) (IsUtf8-append xs ending (IsUtf8-from_is_utf8 xs good) (IsUtf8-from_ascii ending (ascii_by ending is.ascii)))

zero_longer : (ending xs : List ℕ) → IsEnding ending → list_any (λ b. b == 0) xs ≡ false → list_any (λ b. b == 0) (xs ++ ending) ≡ false
zero_longer ending xs is none = list_any-append (λ b. b == 0) xs ending ∙ (ap (λ b. b || list_any (λ c. c == 0) ending) none ∙ is.no_zero)

-- what an ending makes of a name is a name, if it is not too long
pub ending_makes_name : (ending name : List ℕ) → IsEnding ending → IsName name → length name + length ending ≤ 1024 → IsName (name ++ ending)
unfolding is_name
ending_makes_name ending name is named short =
    let a = and_parts _ (list_all is_path_part (path_parts_of name)) named in
    let b = and_parts _ (is_utf8 name) a.0 in
    let c = and_parts _ (not (list_any (λ b. b == 0) name)) b.0 in
    let long : length (name ++ ending) ≡ length name + length ending = length-append name ending in
    let more = is.long in
    and_from _ (list_all is_path_part (path_parts_of (name ++ ending)))
    (and_from _ (is_utf8 (name ++ ending))
    (and_from _ (not (list_any (λ b. b == 0) (name ++ ending)))
    (and_from (nat_lt 0 (length (name ++ ending))) (nat_le (length (name ++ ending)) 1024) (lt-ltb _ _ (omega (arith, long, more))) (le-leb _ _ (omega (arith, long, short))))
    (ap not (zero_longer ending name is (not-true _ c.1))))
    (utf8_longer ending name is b.1))
    (parts_longer ending name is a.1)
