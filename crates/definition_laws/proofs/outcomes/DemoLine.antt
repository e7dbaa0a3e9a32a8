-- What `demo` adds and prints.
use Rattle.std.proofs.Common.{ℕ, ◌≡◌, ◌↔◌, ◌⊎◌, ◌∙◌, inl, inr, zero, suc, ◌+◌, ◌-◌, ◌*◌, ◌/◌, ◌<◌, ◌≤◌, ◌^◌, Bool, true, false, not, List, [], ◌∷◌, ◌++◌, length, take, drop, get_or, refl, ap, sym, subst, append_assoc, arith}
use Rattle.std.specs.Prelude.{codes, if◌then◌else◌, ◌||◌, nat_lt}
use Rattle.std.specs.Fmt.{decimal}
use Rattle.std.specs.List.{after_last, list_any, suffix_len}
use Rattle.std.specs.Str.Parse.{digits_value}
use Rattle.std.proofs.Math.Seq.{take-append_seam, drop-append_seam, get_or-append_seam, get_or-append_right}
use Rattle.std.proofs.lemmas.Bool.{cases_Bool, ltb-true, ltb-false}
use Rattle.std.proofs.lemmas.Fmt.{decimal_is_IsNumeral}
use Rattle.std.proofs.lemmas.List.{length-append}
use Rattle.std.proofs.lemmas.List.Sums.{suffix_len_is}
use Rattle.std.proofs.lemmas.Nat.{div_below, le-div}
use Rattle.base_core.specs.Lists.{IsIn}
use Rattle.command_core.specs.declared.operands.Operand.{Operand}
use Rattle.dep_core.specs.World.{is_line_end}
use Rattle.outcome.specs.DemoCount.{demo_count}
use Rattle.outcome.specs.DemoLines.{demo_package_name, name_if_unneeded_by_first_n_at, names_unneeded_by_first_n_up_to}
use Rattle.outcome.specs.DemoReport.{demo_line_of_count_and_add_report, last_line}
use Rattle.definition_laws.specs.outcomes.DemoLines.{AreWholeLines, IsUnneededAmongFirstDemoPackages, HasNoLineEnd}
use Rattle.report_core.specs.Reports.{report_line}

-- ---- the last line

either_false : (a b : Bool) → (a || b) ≡ false → (a ≡ false) × (b ≡ false)
either_false true b e = absurd (cc (e))
either_false false b e = (refl, e)

none_ends : (xs : List ℕ) (k : ℕ) → HasNoLineEnd xs → k < length xs → is_line_end (get_or xs k 0) ≡ false
none_ends [] k one lt = absurd (omega (arith, lt))
none_ends (x ∷ xs) zero one lt = (either_false (is_line_end x) (list_any is_line_end xs) one).0
none_ends (x ∷ xs) (suc k) one lt = none_ends xs k (either_false (is_line_end x) (list_any is_line_end xs) one).1 (omega (arith, lt))

-- the last byte of whole lines is a line end
ends : (front line : List ℕ) → AreWholeLines front → 0 < length front → not (is_line_end (get_or (front ++ line) (length front - 1) 0)) ≡ false
ends front line (inl is) some = let none = ap length is in absurd (omega (arith, some, none))
ends front line (inr (before, is)) some =
    let count : length (before ++ codes "\n") ≡ length before + 1 = length-append before (codes "\n") in
    let place : length (before ++ codes "\n") - 1 ≡ length before = omega (arith, count) in
    let seam : get_or (before ++ 10 ∷ line) (length before) 0 ≡ 10 = get_or-append_seam before 10 line 0 in
    subst (λ (f : List ℕ). not (is_line_end (get_or (f ++ line) (length f - 1) 0)) ≡ false) (sym is)
    (ap (λ (k : ℕ). not (is_line_end (get_or ((before ++ codes "\n") ++ line) k 0))) place
    ∙ ap (λ (xs : List ℕ). not (is_line_end (get_or xs (length before) 0))) (append_assoc before (codes "\n") line)
    ∙ ap (λ (b : ℕ). not (is_line_end b)) seam)

after_front : (front line : List ℕ) → AreWholeLines front → HasNoLineEnd line → after_last is_line_end (front ++ line) ≡ line
after_front front line whole one =
    let xs = front ++ line in
    let n = length front in
    let count : length xs ≡ n + length line = length-append front line in
    let tail : suffix_len (λ (b : ℕ). not (is_line_end b)) xs ≡ length xs - n =
    suffix_len_is (λ (b : ℕ). not (is_line_end b)) xs n 0 (omega (arith, count))
    (λ k low high.
    ap (λ (b : ℕ). not (is_line_end b)) (get_or-append_right front line k 0 low)
    ∙ ap not (none_ends line (k - n) one (omega (arith, count, low, high))))
    (ends front line whole) in
    let here : length xs - (length xs - n) ≡ n = omega (arith, count) in
    ap (λ (k : ℕ). drop (length xs - k) xs) tail ∙ ap (λ (k : ℕ). drop k xs) here ∙ drop-append_seam front line

without_end : (xs : List ℕ) → take (length (xs ++ codes "\n") - 1) (xs ++ codes "\n") ≡ xs
without_end xs =
    let count : length (xs ++ codes "\n") ≡ length xs + 1 = length-append xs (codes "\n") in
    let most : length (xs ++ codes "\n") - 1 ≡ length xs = omega (arith, count) in
    ap (λ (n : ℕ). take n (xs ++ codes "\n")) most ∙ take-append_seam xs (codes "\n")

last_is : (front line : List ℕ) → AreWholeLines front → HasNoLineEnd line → last_line (front ++ report_line line) ≡ line
last_is front line whole one =
    ap last_line (sym (append_assoc front line (codes "\n")))
    ∙ ap (after_last is_line_end) (without_end (front ++ line))
    ∙ after_front front line whole one

pub line_printed : (n : ℕ) (front line : List ℕ) → AreWholeLines front → HasNoLineEnd line
    → demo_line_of_count_and_add_report n (front ++ report_line line) ≡ report_line (codes "demo " ++ decimal n ++ codes ": " ++ line)
line_printed n front line whole one =
    ap (λ (l : List ℕ). codes "demo " ++ decimal n ++ codes ": " ++ l ++ codes "\n") (last_is front line whole one)

-- ---- the number of packages

pub number_read : (n : ℕ) (o : Operand) → n < 2 ^ 64 → o.text ≡ decimal n → demo_count (o ∷ []) ≡ n
number_read n o small is = ap (digits_value 10) is ∙ (decimal_is_IsNumeral n small).1

-- ---- what is added

-- another one depends on a package exactly if there are at least twice as many
half_below : (n i : ℕ) → n < 2 * i → (j : ℕ) → j ≤ n → j / 2 ≡ i → ⊥
half_below n i low j most half =
    let below : j / 2 < i = div_below j 2 i (omega arith) (omega (arith, low, most)) in
    omega (arith, below, half)

twice : (i : ℕ) → (2 * i) / 2 ≡ i
twice i =
    let least : i ≤ (2 * i) / 2 = le-div i (2 * i) 2 (omega arith) (omega arith) in
    let most : (2 * i) / 2 < suc i = div_below (2 * i) 2 (suc i) (omega arith) (omega arith) in
    omega (arith, least, most)

-- the name of package i is among the names if it is one of theirs
abbrev IsTopUpTo : ℕ → ℕ → List ℕ → Type 0
IsTopUpTo n k name = (i : ℕ) × (1 ≤ i) × (i ≤ k) × (name ≡ demo_package_name i) × (nat_lt n (2 * i) ≡ true)

in_back : (xs ys : List (List ℕ)) (name : List ℕ) → IsIn name (xs ++ ys) → IsIn name xs ⊎ IsIn name ys
in_back [] ys name h = inr h
in_back (x ∷ xs) ys name (inl is) = inl (inl is)
in_back (x ∷ xs) ys name (inr more) = elim (in_back xs ys name more) [
  | inl h ↦ inl (inr h)
  | inr h ↦ inr h
]

in_left : (xs ys : List (List ℕ)) (name : List ℕ) → IsIn name xs → IsIn name (xs ++ ys)
in_left (x ∷ xs) ys name (inl is) = inl is
in_left (x ∷ xs) ys name (inr more) = inr (in_left xs ys name more)
in_left [] ys name h = absurd h

in_right : (xs ys : List (List ℕ)) (name : List ℕ) → IsIn name ys → IsIn name (xs ++ ys)
in_right [] ys name h = h
in_right (x ∷ xs) ys name h = inr (in_right xs ys name h)

one_of : (b : Bool) (x name : List ℕ) → IsIn name (if b then x ∷ [] else []) → (b ≡ true) × (name ≡ x)
one_of true x name (inl is) = (refl, is)
one_of true x name (inr more) = absurd more
one_of false x name h = absurd h

told : (n k : ℕ) (name : List ℕ) → IsIn name (names_unneeded_by_first_n_up_to n k) → IsTopUpTo n k name
told n zero name h = absurd h
told n (suc k) name h = elim (in_back (names_unneeded_by_first_n_up_to n k) (name_if_unneeded_by_first_n_at n (suc k)) name h) [
  | inl earlier ↦
      let (i, least, most, is, top) = told n k name earlier in (i, least, omega (arith, most), is, top)
  | inr here ↦
      let one = one_of (nat_lt n (2 * suc k)) (demo_package_name (suc k)) name here in (suc k, omega arith, omega arith, one.1, one.0)
]

top_at : (b : Bool) (x name : List ℕ) → b ≡ true → name ≡ x → IsIn name (if b then x ∷ [] else [])
top_at true x name e is = inl is
top_at false x name e is = absurd (cc (e))

found : (n k : ℕ) (name : List ℕ) → IsTopUpTo n k name → IsIn name (names_unneeded_by_first_n_up_to n k)
found n zero name (i, least, most, is, top) = absurd (omega (arith, least, most))
found n (suc k) name (i, least, most, is, top) = elim (cases_Bool (nat_lt k i)) [
  | inl e ↦
      let low = ltb-true k i e in
      let here : i ≡ suc k = omega (arith, low, most) in
      in_right (names_unneeded_by_first_n_up_to n k) (name_if_unneeded_by_first_n_at n (suc k)) name
      (top_at (nat_lt n (2 * suc k)) (demo_package_name (suc k)) name (subst (λ (m : ℕ). nat_lt n (2 * m) ≡ true) here top) (is ∙ ap demo_package_name here))
  | inr e ↦
      let high = ltb-false k i e in
      in_left (names_unneeded_by_first_n_up_to n k) (name_if_unneeded_by_first_n_at n (suc k)) name (found n k name (i, least, omega (arith, high), is, top))
]

pub added : (n : ℕ) (name : List ℕ) → IsIn name (names_unneeded_by_first_n_up_to n n) ↔ IsUnneededAmongFirstDemoPackages n name
added n name = (there, back)
  where
    there : IsIn name (names_unneeded_by_first_n_up_to n n) → IsUnneededAmongFirstDemoPackages n name
    there h =
        let (i, least, most, is, top) = told n n name h in
        let low = ltb-true n (2 * i) top in
        record {
          number = i;
          least = least;
          most = most;
          named = is;
          none = λ j two below half. half_below n i low j below half;
        }

    back : IsUnneededAmongFirstDemoPackages n name → IsIn name (names_unneeded_by_first_n_up_to n n)
    back x = elim (cases_Bool (nat_lt n (2 * x.number))) [
      | inl e ↦ found n n name (x.number, x.least, x.most, x.named, e)
      | inr e ↦
          let high = ltb-false n (2 * x.number) e in
          let least = x.least in
          absurd (x.none (2 * x.number) (omega (arith, least)) (omega (arith, high)) (twice x.number))
    ]
