-- How many words there are.
use Rattle.std.proofs.Common.{◌≡◌, ℕ, zero, suc, ◌+◌, ◌<◌, ◌≤◌, ◌*◌, ◌^◌, Bool, true, false, List, [], ◌∷◌, ◌++◌, length, refl, sym, ap, subst, ◌∙◌, append_assoc, arith}
use Rattle.std.specs.Prelude.{if◌then◌else◌, nat_lt}
use Rattle.std.proofs.lemmas.List.{length-append}
use Rattle.outcome.specs.DemoLines.{demo_package_name, demo_package_path, demo_package_paths, name_if_unneeded_by_first_n_at, names_unneeded_by_first_n_up_to}

pub packages_length : (n : ℕ) → length (demo_package_paths n) ≡ n
packages_length zero = refl
packages_length (suc i) =
    let split : length (demo_package_paths i ++ (demo_package_path (suc i) ∷ [])) ≡ length (demo_package_paths i) + 1 = length-append (demo_package_paths i) (demo_package_path (suc i) ∷ []) in
    let before = packages_length i in
    omega (arith, split, before)

if_length : (b : Bool) (x : List ℕ) → length (if b then x ∷ [] else []) ≤ 1
if_length true x = omega arith
if_length false x = omega arith

pub names_length : (n i : ℕ) → length (names_unneeded_by_first_n_up_to n i) ≤ i
names_length n zero = omega arith
names_length n (suc i) =
    let split : length (names_unneeded_by_first_n_up_to n i ++ name_if_unneeded_by_first_n_at n (suc i)) ≡ length (names_unneeded_by_first_n_up_to n i) + length (name_if_unneeded_by_first_n_at n (suc i)) = length-append (names_unneeded_by_first_n_up_to n i) (name_if_unneeded_by_first_n_at n (suc i)) in
    let before = names_length n i in
    let one : length (name_if_unneeded_by_first_n_at n (suc i)) ≤ 1 = if_length (nat_lt n (2 * suc i)) (demo_package_name (suc i)) in
    omega (arith, split, before, one)

-- words behind a few others are not too many
pub few_packages : (words before : List (List ℕ)) (i n : ℕ) → words ≡ before ++ demo_package_paths i → length before < 16 → i < n → n < 2 ^ 16 → length words < 100000
few_packages words before i n is few below small =
    let whole = ap length is in
    let split = length-append before (demo_package_paths i) in
    let count = packages_length i in
    omega (arith, whole, split, count)

pub few_names : (words before : List (List ℕ)) (m i n : ℕ) → words ≡ before ++ names_unneeded_by_first_n_up_to m i → length before < 16 → i < n → n < 2 ^ 16 → length words < 100000
few_names words before m i n is few below small =
    let whole = ap length is in
    let split = length-append before (names_unneeded_by_first_n_up_to m i) in
    let count = names_length m i in
    omega (arith, whole, split, count)

-- ---- one more

pub pushed : (new old : List (List ℕ)) (x y : List ℕ) → new ≡ old ++ (x ∷ []) → x ≡ y → new ≡ old ++ (y ∷ [])
pushed new old x y is same = is ∙ ap (λ z. old ++ (z ∷ [])) same

pub plus_one : (i : ℕ) → i + 1 ≡ suc i
plus_one i = omega arith

more_at : (words before next : List (List ℕ)) (i : ℕ) → words ≡ before ++ demo_package_paths i → next ≡ words ++ (demo_package_path (suc i) ∷ []) → next ≡ before ++ demo_package_paths (suc i)
more_at words before next i is more = more ∙ (ap (λ w. w ++ (demo_package_path (suc i) ∷ [])) is ∙ append_assoc before (demo_package_paths i) (demo_package_path (suc i) ∷ []))

pub more_packages : (words before next : List (List ℕ)) (i : ℕ) → words ≡ before ++ demo_package_paths i → next ≡ words ++ (demo_package_path (i + 1) ∷ []) → next ≡ before ++ demo_package_paths (i + 1)
more_packages words before next i is =
    subst (λ k. next ≡ words ++ (demo_package_path k ∷ []) → next ≡ before ++ demo_package_paths k) (sym (plus_one i)) (more_at words before next i is)
