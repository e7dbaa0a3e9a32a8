-- The weight of a search falls at each step.
use Rattle.std.proofs.Common.{◌≡◌, ℕ, zero, suc, ◌+◌, ◌*◌, ◌-◌, ◌<◌, ◌≤◌, ◌^◌, List, [], ◌∷◌, ◌++◌, length, refl, sym, subst, ap, ◌∙◌, arith, append_assoc, mul-le-mul, mul-le-mul_right}
use Rattle.search_choices.specs.search_tables.Reasons.{FrameValue}
use Rattle.std.specs.Prelude.{IfSome, None, Option, Some}
use Rattle.solve_core.specs.Measure.{power, weight, search_measure, next_measure, base, most_digits, digit, digits}

power_pos : (b n : ℕ) → 1 ≤ b → 1 ≤ power b n
unfolding power
power_pos b zero h = omega arith
power_pos b (suc n) h = product_pos b (power b n) h (power_pos b n h)
  where
    product_pos : (x y : ℕ) → 1 ≤ x → 1 ≤ y → 1 ≤ x * y
    product_pos x y hx hy = omega (arith, mul-le-mul hx hy)

power_suc : (b n : ℕ) → power b (suc n) ≡ b * power b n
unfolding power
power_suc b n = refl

weight_nil : (b r : ℕ) → weight b r [] ≡ 0
unfolding weight
weight_nil b r = refl

weight_cons : (b r d : ℕ) (ds : List ℕ) → weight b (suc r) (d ∷ ds) ≡ d * power b r + weight b r ds
unfolding weight
weight_cons b r d ds = refl

-- with room for each digit
weight_front : (b r : ℕ) (ds es : List ℕ) → weight b (length ds + r) (ds ++ es) ≡ weight b (length ds + r) ds + weight b r es
weight_front b r [] es =
    let z : 0 + r ≡ r = omega arith in
    let P : ℕ → Type 0 = λ k. weight b k es ≡ weight b k [] + weight b r es in
    subst P (sym z) (let n = weight_nil b r in omega (arith, n))
weight_front b r (d ∷ ds) es =
    let z : suc (length ds) + r ≡ suc (length ds + r) = omega arith in
    let P : ℕ → Type 0 = λ k. weight b k (d ∷ (ds ++ es)) ≡ weight b k (d ∷ ds) + weight b r es in
    subst P (sym z) (omega (arith, weight_cons b (length ds + r) d (ds ++ es), weight_cons b (length ds + r) d ds, weight_front b r ds es))

-- an option less is left, at the top
pub lighter_top : (b r e d : ℕ) (ds : List ℕ) → 1 ≤ b → e < d → weight b (length ds + suc r) (ds ++ e ∷ []) < weight b (length ds + suc r) (ds ++ d ∷ [])
lighter_top b r e d ds hb less =
    omega (arith, weight_front b (suc r) ds (e ∷ []), weight_front b (suc r) ds (d ∷ []), weight_cons b r e [], weight_cons b r d [], mul-le-mul_right (power b r) less, power_pos b r hb)

-- an option is taken, and a frame is opened
pub lighter_open : (b r e d f : ℕ) (ds : List ℕ) → f < b → e < d → weight b (length ds + suc (suc r)) (ds ++ (e ∷ f ∷ [])) < weight b (length ds + suc (suc r)) (ds ++ d ∷ [])
lighter_open b r e d f ds small less =
    omega (arith, weight_front b (suc (suc r)) ds (e ∷ f ∷ []), weight_front b (suc (suc r)) ds (d ∷ []), weight_cons b (suc r) e (f ∷ []), weight_cons b (suc r) d [], weight_cons b r f [], weight_nil b r, weight_nil b (suc r), mul-le-mul_right (power b (suc r)) less, power_suc b r, mul-le-mul_right (power b r) small, power_pos b r (omega arith))

-- frames above are dropped
pub lighter_drop : (b r d e : ℕ) (ds es : List ℕ) → 1 ≤ b → 1 ≤ e → weight b (length ds + suc (suc r)) (ds ++ d ∷ []) < weight b (length ds + suc (suc r)) (ds ++ (d ∷ e ∷ es))
lighter_drop b r d e ds es hb pos =
    omega (arith, weight_front b (suc (suc r)) ds (d ∷ []), weight_front b (suc (suc r)) ds (d ∷ e ∷ es), weight_cons b (suc r) d [], weight_cons b (suc r) d (e ∷ es), weight_cons b r e es, weight_nil b (suc r), mul-le-mul_right (power b r) pos, power_pos b r hb)

digits-append : (xs ys : List (FrameValue × ℕ)) → digits (xs ++ ys) ≡ digits xs ++ digits ys
digits-append [] ys = refl
digits-append (x ∷ xs) ys = ap (λ (z : List ℕ). digit x.0 ∷ z) (digits-append xs ys)

length-digits : (xs : List (FrameValue × ℕ)) → length (digits xs) ≡ length xs
length-digits [] = refl
length-digits (x ∷ xs) = ap suc (length-digits xs)

base_pos : 1 ≤ base
unfolding base
base_pos = omega arith

room_for : (n : ℕ) → n + 2 ≤ most_digits → (r : ℕ) × (most_digits ≡ n + suc (suc r))
room_for n h = (most_digits - n - 2, omega arith)

first_of : (rest : List (FrameValue × ℕ)) (top : FrameValue) → (e : ℕ) × (es : List ℕ) × (1 ≤ e) × (digits rest ++ digit top ∷ [] ≡ e ∷ es)
first_of [] top = (digit top, [], omega arith, refl)
first_of (x ∷ rest) top = (digit x.0, digits rest ++ digit top ∷ [], omega arith, refl)

-- a step back is lighter: the frame stepped back to has as many options left as before
pub back_lighter : (turns rest : List (FrameValue × ℕ)) (f g top : FrameValue) (c : ℕ) → length turns + 2 ≤ most_digits → g.1 ≡ f.1 → search_measure turns g < search_measure (turns ++ (f, c) ∷ rest) top
unfolding search_measure
back_lighter turns rest f g top c few same =
    let r = room_for (length turns) few in
    let ds = digits turns in
    let tail = first_of rest top in
    let all : digits (turns ++ (f, c) ∷ rest) ++ digit top ∷ [] ≡ ds ++ (digit f ∷ tail.0 ∷ tail.1) =
    ap (λ (z : List ℕ). z ++ digit top ∷ []) (digits-append turns ((f, c) ∷ rest)) ∙ (append_assoc ds (digit f ∷ digits rest) (digit top ∷ []) ∙ ap (λ (z : List ℕ). ds ++ (digit f ∷ z)) tail.3) in
    let one : digits turns ++ digit g ∷ [] ≡ ds ++ digit f ∷ [] = ap (λ (z : List ℕ). ds ++ suc (length z) ∷ []) same in
    let room : most_digits ≡ length ds + suc (suc r.0) = r.1 ∙ ap (λ (n : ℕ). n + suc (suc r.0)) (sym (length-digits turns)) in
    subst (λ (z : List ℕ). weight base most_digits z < weight base most_digits (digits (turns ++ (f, c) ∷ rest) ++ digit top ∷ [])) (sym one)
    (subst (λ (z : List ℕ). weight base most_digits (ds ++ digit f ∷ []) < weight base most_digits z) (sym all)
    (subst (λ (n : ℕ). weight base n (ds ++ digit f ∷ []) < weight base n (ds ++ (digit f ∷ tail.0 ∷ tail.1))) (sym room)
    (lighter_drop base r.0 (digit f) tail.0 ds tail.1 base_pos tail.2)))

-- an option is taken and a frame is opened
pub opened_lighter : (turns : List (FrameValue × ℕ)) (old f top : FrameValue) (c : ℕ) → length turns + 2 ≤ most_digits → length f.1 < length old.1 → digit top < base → search_measure (turns ++ (f, c) ∷ []) top < search_measure turns old
unfolding search_measure
opened_lighter turns old f top c few less small =
    let r = room_for (length turns) few in
    let ds = digits turns in
    let all : digits (turns ++ (f, c) ∷ []) ++ digit top ∷ [] ≡ ds ++ (digit f ∷ digit top ∷ []) =
    ap (λ (z : List ℕ). z ++ digit top ∷ []) (digits-append turns ((f, c) ∷ [])) ∙ append_assoc ds (digit f ∷ []) (digit top ∷ []) in
    let room : most_digits ≡ length ds + suc (suc r.0) = r.1 ∙ ap (λ (n : ℕ). n + suc (suc r.0)) (sym (length-digits turns)) in
    subst (λ (z : List ℕ). weight base most_digits z < weight base most_digits (digits turns ++ digit old ∷ [])) (sym all)
    (subst (λ (n : ℕ). weight base n (ds ++ (digit f ∷ digit top ∷ [])) < weight base n (ds ++ digit old ∷ [])) (sym room)
    (lighter_open base r.0 (digit f) (digit old) (digit top) ds small (omega arith)))

pub few_turns : (n : ℕ) → n < 2 ^ 63 → n + 2 ≤ most_digits
unfolding most_digits
few_turns n h = omega arith

pub few_options : (f : FrameValue) → length f.1 < 2 ^ 64 → digit f < base
unfolding base
few_options f h = omega arith

-- the frame of the next need is lighter, if there is one
pub next_lighter : (turns new : List (FrameValue × ℕ)) (top : FrameValue) (was next : Option FrameValue) → was ≡ Some top → IfSome next (λ f. length f.1 < 2 ^ 64) → ((f : FrameValue) → length f.1 < 2 ^ 64 → search_measure new f < search_measure turns top) → next_measure new next < next_measure turns was
next_lighter turns new top was None is few lighter = subst (λ (z : Option FrameValue). 0 < next_measure turns z) (sym is) (omega arith)
next_lighter turns new top was (Some f) is few lighter =
    let less = lighter f few in
    subst (λ (z : Option FrameValue). suc (search_measure new f) < next_measure turns z) (sym is) (omega arith)
