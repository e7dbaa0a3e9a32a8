-- The run of bytes that a text begins with.
use Rattle.std.proofs.Common.{◌≡◌, ℕ, zero, suc, ◌+◌, ◌<◌, ◌≤◌, Bool, true, false, cond, ltb, List, [], ◌∷◌, take, drop, length, get_or, Option, Some, None, refl, ap, sym, ◌∙◌, arith, add-one}
use Rattle.std.proofs.lemmas.Bool.{false≢true}
use Rattle.std.specs.Prelude.{not, MatchOption, is_some, IsTrue}
use Rattle.std.specs.List.{prefix_len, take_while, position}
use Rattle.std.specs.Option.{option_cmp}
use Rattle.std.specs.Ordering.{nat_cmp, ordering_then, is_ne}
use Rattle.std.specs.declared.cmp.Ordering.{Ordering}
use Rattle.std.specs.Cmp.Lexicographic.{slice_cmp}
use Rattle.std.specs.declared.cmp.Ordering.TheVariants.{Equal}
use Rattle.std.proofs.lemmas.Bool.Decides.{nat_tests}
use Rattle.std.proofs.lemmas.List.Sums.{prefix_len_is, prefix_len_passes, take_while-cons}
use Rattle.std.proofs.lemmas.List.Folds.{length-prefix_len}
use Rattle.std.proofs.lemmas.List.{take_all, get_or-take}
use Rattle.version_core.proofs.Orders.{then-decided, then-tied, tied}
use Rattle.version_core.specs.Token.{is_hex_digit, leading_hex_digits, leading_digits}
use Rattle.version_core.specs.Reading.{AreDigits, hex_digit_at}
use Rattle.std.specs.Char.{is_ascii_digit}

pub twice_not : (b : Bool) → not (not b) ≡ b
twice_not true = refl
twice_not false = refl

pub prefix_len-twice_not : (q : ℕ → Bool) (xs : List ℕ) → prefix_len (λ x. not (not (q x))) xs ≡ prefix_len q xs
prefix_len-twice_not q [] = refl
prefix_len-twice_not q (x ∷ xs) = λ i. cond (twice_not (q x) i) (1 + prefix_len-twice_not q xs i) 0

-- the place of the first byte outside the run, if there is one
abbrev place_by : ℕ → List ℕ → Option ℕ
place_by n xs = cond (ltb n (length xs)) (Some n) None

take_cond : (b : Bool) (n : ℕ) (xs : List ℕ) → (b ≡ false → length xs ≤ n) → MatchOption (cond b (Some n) None) (xs ≡ take n xs) (λ m. take m xs ≡ take n xs)
take_cond true n xs past = refl
take_cond false n xs past = sym (take_all n xs (past refl))

take_by : (n : ℕ) (xs : List ℕ) → MatchOption (place_by n xs) (xs ≡ take n xs) (λ m. take m xs ≡ take n xs)
take_by n xs = take_cond (ltb n (length xs)) n xs (λ h. grind (arith, nat_tests))

-- what `position` says of the first byte that does not belong to the run
pub run_at : (q : ℕ → Bool) (xs : List ℕ) (r : Option ℕ) → r ≡ position (λ x. not (q x)) xs → MatchOption r (xs ≡ take_while q xs) (λ n. take n xs ≡ take_while q xs)
run_at q xs r h =
    let e : r ≡ place_by (prefix_len q xs) xs = rw h (ap (λ n. place_by n xs) (prefix_len-twice_not q xs)) in
    rw e (take_by (prefix_len q xs) xs)

-- each byte of the run belongs to it
pub run_passes : (q : ℕ → Bool) (xs : List ℕ) (k : ℕ) → k < length (take_while q xs) → q (get_or (take_while q xs) k 0) ≡ true
run_passes q xs k h =
    let few : k < prefix_len q xs = omega (arith, length-prefix_len q xs) in
    rw (get_or-take (prefix_len q xs) xs k 0) (prefix_len_passes q xs k 0 few)

-- the run from a place on, by the byte at that place
abbrev pub run_by : Option ℕ → List ℕ → List ℕ
run_by None rest = []
run_by (Some x) rest = x ∷ rest

pub run_cmp : (a b : Option ℕ) (r s : List ℕ) → slice_cmp nat_cmp (run_by a r) (run_by b s) ≡ ordering_then (option_cmp nat_cmp a b) (cond (is_some a) (slice_cmp nat_cmp r s) Equal)
run_cmp None None r s = refl
run_cmp None (Some y) r s = refl
run_cmp (Some x) None r s = refl
run_cmp (Some x) (Some y) r s = refl

hex_run-cons : (b : Bool) (x : ℕ) (xs : List ℕ) → cond b (x ∷ xs) [] ≡ run_by (cond b (Some x) None) xs
hex_run-cons true x xs = refl
hex_run-cons false x xs = refl

hex_step_suc : (xs : List ℕ) (i : ℕ) → leading_hex_digits (drop i xs) ≡ run_by (hex_digit_at xs i) (leading_hex_digits (drop (suc i) xs))
hex_step_suc [] zero = refl
hex_step_suc [] (suc i) = refl
hex_step_suc (x ∷ xs) zero = take_while-cons is_hex_digit x xs ∙ hex_run-cons (is_hex_digit x) x (leading_hex_digits xs)
hex_step_suc (x ∷ xs) (suc i) = hex_step_suc xs i

pub hex_step : (xs : List ℕ) (i : ℕ) → leading_hex_digits (drop i xs) ≡ run_by (hex_digit_at xs i) (leading_hex_digits (drop (i + 1) xs))
hex_step xs i = rw (add-one i) (hex_step_suc xs i)

-- a place at which a hexadecimal digit stands is within the text
pub hex_place : (xs : List ℕ) (i : ℕ) → is_some (hex_digit_at xs i) ≡ true → i < length xs
hex_place [] i h = absurd (false≢true h)
hex_place (x ∷ xs) zero h = omega arith
hex_place (x ∷ xs) (suc i) h = omega (arith, hex_place xs i h)

abbrev pub hex_cmp_from : List ℕ → List ℕ → ℕ → Ordering
hex_cmp_from xs ys i = slice_cmp nat_cmp (leading_hex_digits (drop i xs)) (leading_hex_digits (drop i ys))

-- the comparison from a place on, by the bytes there
hex_cmp_step : (xs ys : List ℕ) (i : ℕ) → hex_cmp_from xs ys i ≡ ordering_then (option_cmp nat_cmp (hex_digit_at xs i) (hex_digit_at ys i)) (cond (is_some (hex_digit_at xs i)) (hex_cmp_from xs ys (i + 1)) Equal)
hex_cmp_step xs ys i =
    (λ t. slice_cmp nat_cmp (hex_step xs i t) (hex_step ys i t))
    ∙ run_cmp (hex_digit_at xs i) (hex_digit_at ys i) (leading_hex_digits (drop (i + 1) xs)) (leading_hex_digits (drop (i + 1) ys))

-- the comparison by the bytes at a place, a and b, which compare as o
hex_cmp_by : (xs ys : List ℕ) (i : ℕ) (a b : Option ℕ) (o : Ordering) → a ≡ hex_digit_at xs i → b ≡ hex_digit_at ys i → o ≡ option_cmp nat_cmp a b → hex_cmp_from xs ys i ≡ ordering_then o (cond (is_some a) (hex_cmp_from xs ys (i + 1)) Equal)
hex_cmp_by xs ys i a b o ea eb eo =
    rw (eo, ea, eb) (hex_cmp_step xs ys i)

pub hex_cmp_decided : (xs ys : List ℕ) (i : ℕ) (a b : Option ℕ) (o : Ordering) → a ≡ hex_digit_at xs i → b ≡ hex_digit_at ys i → o ≡ option_cmp nat_cmp a b → is_ne o ≡ true → o ≡ hex_cmp_from xs ys i
hex_cmp_decided xs ys i a b o ea eb eo h =
    sym (hex_cmp_by xs ys i a b o ea eb eo ∙ then-decided o (cond (is_some a) (hex_cmp_from xs ys (i + 1)) Equal) h)

pub hex_cmp_ended : (xs ys : List ℕ) (i : ℕ) (a b : Option ℕ) (o : Ordering) → a ≡ hex_digit_at xs i → b ≡ hex_digit_at ys i → o ≡ option_cmp nat_cmp a b → is_ne o ≡ false → is_some a ≡ false → o ≡ hex_cmp_from xs ys i
hex_cmp_ended xs ys i a b o ea eb eo h n =
    let step = hex_cmp_by xs ys i a b o ea eb eo in
    let end = rw n at step in
    tied o h ∙ sym (end ∙ then-tied o Equal h)

pub hex_cmp_tied : (xs ys : List ℕ) (i : ℕ) (a b : Option ℕ) (o : Ordering) → a ≡ hex_digit_at xs i → b ≡ hex_digit_at ys i → o ≡ option_cmp nat_cmp a b → is_ne o ≡ false → is_some a ≡ true → hex_cmp_from xs ys i ≡ hex_cmp_from xs ys (i + 1)
hex_cmp_tied xs ys i a b o ea eb eo h n =
    let step = hex_cmp_by xs ys i a b o ea eb eo in
    let go = rw n at step in
    go ∙ then-tied o (hex_cmp_from xs ys (i + 1)) h

pub digits_are_digits : (xs : List ℕ) → AreDigits (leading_digits xs)
digits_are_digits xs = λ k h. run_passes is_ascii_digit xs k h

is_hex_digit-digit : (b : ℕ) → IsTrue (is_ascii_digit b) → is_hex_digit b ≡ true
is_hex_digit-digit b h = grind (arith, nat_tests)

-- digits are hexadecimal digits too
pub all_hex : (ds : List ℕ) → AreDigits ds → leading_hex_digits ds ≡ ds
all_hex ds h =
    let whole : prefix_len is_hex_digit ds ≡ length ds =
    prefix_len_is is_hex_digit ds (length ds) 0 (omega arith) (λ k l. is_hex_digit-digit (get_or ds k 0) (h k l)) (λ l. absurd (omega arith)) in
    rw whole (take_all (length ds) ds (omega arith))

-- a text whose first byte is no hexadecimal digit begins with none, and else with one at least
length-run_by : (a : Option ℕ) (r : List ℕ) → ltb 0 (length (run_by a r)) ≡ is_some a
length-run_by None r = refl
length-run_by (Some x) r = grind (arith, nat_tests)

pub any_hex : (xs : List ℕ) → ltb 0 (length (leading_hex_digits xs)) ≡ is_some (hex_digit_at xs 0)
any_hex xs = ap (λ ys. ltb 0 (length ys)) (hex_step xs 0) ∙ length-run_by (hex_digit_at xs 0) (leading_hex_digits (drop (0 + 1) xs))
