-- Runs of claims by their places.
use Rattle.std.proofs.Common.{◌≡◌, ℕ, suc, zero, ◌+◌, ◌-◌, ◌<◌, ◌≤◌, Bool, true, false, cond, List, [], ◌∷◌, ◌++◌, length, map, drop, take, Option, Some, None, refl, ap, sym, ◌∙◌, subst, arith, true≢false}
use Rattle.std.specs.Prelude.{not, slice_get, slice_index_or}
use Rattle.std.specs.Cmp.Lexicographic.{slice_cmp, texts_ties}
use Rattle.std.specs.Ordering.{nat_cmp, is_eq}
use Rattle.std.proofs.lemmas.List.{take_all}
use Rattle.adb_fields.specs.JoinedPath.{joined_path}
use Rattle.path_claims.specs.Claims.{PathClaim, is_claim_of_path}
use Rattle.path_claims.specs.Runs.{differ_in_path, is_first_of_path, passing_prefix}
use Rattle.path_claims.specs.Seen.{claim_seen}
use Rattle.path_claims.specs.declared.claim.Claim.{Claim}

abbrev is_one : {X : Type 0} → Option X → Bool
is_one None = false
is_one (Some v) = true

pub no_some : {X : Type 0} (z : X) → None ≡ Some z → ⊥
no_some z e = true≢false (sym (ap is_one e))

abbrev pub value_or : {X : Type 0} → X → Option X → X
value_or d None = d
value_or d (Some v) = v

pub seen_at : {X Y : Type 0} (f : X → Y) (xs : List X) (i : ℕ) (d : X) → i < length xs → slice_get (map f xs) i ≡ Some (f (slice_index_or xs i d))
seen_at f [] i d l = absurd (omega arith)
seen_at f (x ∷ xs) zero d l = refl
seen_at f (x ∷ xs) (suc i) d l = seen_at f xs i d (omega arith)

pub map_drop : {X Y : Type 0} (f : X → Y) (i : ℕ) (xs : List X) → map f (drop i xs) ≡ drop i (map f xs)
map_drop f zero xs = refl
map_drop f (suc i) [] = refl
map_drop f (suc i) (x ∷ xs) = map_drop f i xs

pub map_take : {X Y : Type 0} (f : X → Y) (i : ℕ) (xs : List X) → map f (take i xs) ≡ take i (map f xs)
map_take f zero xs = refl
map_take f (suc i) [] = refl
map_take f (suc i) (x ∷ xs) = ap (λ r. f x ∷ r) (map_take f i xs)

pub map_len : {X Y : Type 0} (f : X → Y) (xs : List X) → length (map f xs) ≡ length xs
map_len f [] = refl
map_len f (x ∷ xs) = ap suc (map_len f xs)

-- ---- a run, one element more

run_step : {X : Type 0} (p : X → Bool) (xs : List X) (n : ℕ) (z : X) → slice_get xs n ≡ Some z → p z ≡ true
    → take n xs ++ passing_prefix p (drop n xs) ≡ take (suc n) xs ++ passing_prefix p (drop (suc n) xs)
run_step p [] n z g h = absurd (no_some z g)
run_step p (x ∷ xs) zero z g h = ap (λ b. cond b (x ∷ passing_prefix p xs) []) (ap p (ap (value_or x) g) ∙ h)
run_step p (x ∷ xs) (suc n) z g h = ap (λ r. x ∷ r) (run_step p xs n z g h)

run_stop : {X : Type 0} (p : X → Bool) (xs : List X) (n : ℕ) (z : X) → slice_get xs n ≡ Some z → p z ≡ false → passing_prefix p (drop n xs) ≡ []
run_stop p [] n z g h = absurd (no_some z g)
run_stop p (x ∷ xs) zero z g h = ap (λ b. cond b (x ∷ passing_prefix p xs) []) (ap p (ap (value_or x) g) ∙ h)
run_stop p (x ∷ xs) (suc n) z g h = run_stop p xs n z g h

run_past : {X : Type 0} (p : X → Bool) (xs : List X) (n : ℕ) → length xs ≤ n → passing_prefix p (drop n xs) ≡ []
run_past p [] zero l = refl
run_past p [] (suc n) l = refl
run_past p (x ∷ xs) zero l = absurd (omega arith)
run_past p (x ∷ xs) (suc n) l = run_past p xs n (omega arith)

no_more : {X : Type 0} (xs : List X) → xs ++ [] ≡ xs
no_more [] = refl
no_more (x ∷ xs) = ap (λ r. x ∷ r) (no_more xs)

has_path : (xs : List Claim) (n : ℕ) (d : Claim) (k : List ℕ) (t : Bool) → t ≡ is_eq (slice_cmp nat_cmp (joined_path (slice_index_or xs n d).path) k) → is_claim_of_path k (claim_seen (slice_index_or xs n d)) ≡ t
has_path xs n d k t h = texts_ties (joined_path (slice_index_or xs n d).path) k ∙ sym h

pub run_more : (xs : List Claim) (n : ℕ) (d : Claim) (k : List ℕ) (t : Bool) (all : List PathClaim) → n < length xs
    → t ≡ is_eq (slice_cmp nat_cmp (joined_path (slice_index_or xs n d).path) k) → t ≡ true
    → all ≡ take n (map claim_seen xs) ++ passing_prefix (is_claim_of_path k) (drop n (map claim_seen xs))
    → all ≡ take (n + 1) (map claim_seen xs) ++ passing_prefix (is_claim_of_path k) (drop (n + 1) (map claim_seen xs))
run_more xs n d k t all l h e inv =
    let s : n + 1 ≡ suc n = omega arith in
    inv ∙ (run_step (is_claim_of_path k) (map claim_seen xs) n (claim_seen (slice_index_or xs n d)) (seen_at claim_seen xs n d l) (has_path xs n d k t h ∙ e)
    ∙ ap (λ m. take m (map claim_seen xs) ++ passing_prefix (is_claim_of_path k) (drop m (map claim_seen xs))) (sym s))

ended : (xs : List Claim) (n : ℕ) (rest all : List PathClaim) → rest ≡ [] → all ≡ take n (map claim_seen xs) ++ rest → map claim_seen (take n xs) ≡ all
ended xs n rest all r inv = map_take claim_seen n xs ∙ (sym (no_more (take n (map claim_seen xs))) ∙ (ap (λ r. take n (map claim_seen xs) ++ r) (sym r) ∙ sym inv))

pub run_ended : (xs : List Claim) (n : ℕ) (d : Claim) (k : List ℕ) (t : Bool) (all : List PathClaim) → n < length xs
    → t ≡ is_eq (slice_cmp nat_cmp (joined_path (slice_index_or xs n d).path) k) → t ≡ false
    → all ≡ take n (map claim_seen xs) ++ passing_prefix (is_claim_of_path k) (drop n (map claim_seen xs))
    → map claim_seen (take n xs) ≡ all
run_ended xs n d k t all l h e inv =
    ended xs n _ all (run_stop (is_claim_of_path k) (map claim_seen xs) n (claim_seen (slice_index_or xs n d)) (seen_at claim_seen xs n d l) (has_path xs n d k t h ∙ e)) inv

pub run_whole : (xs : List Claim) (n : ℕ) (k : List ℕ) (all : List PathClaim) → length xs ≤ n
    → all ≡ take n (map claim_seen xs) ++ passing_prefix (is_claim_of_path k) (drop n (map claim_seen xs))
    → map claim_seen (take n xs) ≡ all
run_whole xs n k all l inv =
    let m : length (map claim_seen xs) ≤ n = subst (λ i. i ≤ n) (sym (map_len claim_seen xs)) l in
    ended xs n _ all (run_past (is_claim_of_path k) (map claim_seen xs) n m) inv

tail_whole : {X : Type 0} (xs : List X) (i : ℕ) → take (length xs - i) (drop i xs) ≡ drop i xs
tail_whole xs zero = take_all (length xs - 0) xs (omega arith)
tail_whole [] (suc i) = take_all _ [] (omega arith)
tail_whole (x ∷ xs) (suc i) = let s : length (x ∷ xs) - suc i ≡ length xs - i = omega arith in ap (λ n. take n (drop i xs)) s ∙ tail_whole xs i

-- the run that begins at a place
pub run_from : (xs : List Claim) (i : ℕ) (d : Claim) (run : List PathClaim) → i < length xs
    → run ≡ passing_prefix (is_claim_of_path (joined_path (slice_index_or xs i d).path)) (map claim_seen (take (length xs - i) (drop i xs)))
    → (c : PathClaim) → slice_get (map claim_seen xs) i ≡ Some c → run ≡ passing_prefix (is_claim_of_path c.path) (drop i (map claim_seen xs))
run_from xs i d run l h c g =
    let is : claim_seen (slice_index_or xs i d) ≡ c = ap (value_or c) (sym (seen_at claim_seen xs i d l) ∙ g) in
    h ∙ (λ j. passing_prefix (is_claim_of_path (is j).path) ((ap (map claim_seen) (tail_whole xs i) ∙ map_drop claim_seen i xs) j))

-- ---- where a path begins

pub starts_by : (xs : List Claim) (i : ℕ) (d e : Claim) (t : Bool) → i < length xs → (i ≡ 0 → ⊥)
    → t ≡ is_eq (slice_cmp nat_cmp (joined_path (slice_index_or xs (i - 1) d).path) (joined_path (slice_index_or xs i e).path))
    → not t ≡ is_first_of_path (map claim_seen xs) i
starts_by xs zero d e t l n h = absurd (n refl)
starts_by xs (suc i) d e t l n h =
    let s : suc i - 1 ≡ i = omega arith in
    let k : t ≡ is_eq (slice_cmp nat_cmp (joined_path (slice_index_or xs i d).path) (joined_path (slice_index_or xs (suc i) e).path)) = h ∙ ap (λ m. is_eq (slice_cmp nat_cmp (joined_path (slice_index_or xs m d).path) (joined_path (slice_index_or xs (suc i) e).path))) s in
    ap not (k ∙ sym (texts_ties (joined_path (slice_index_or xs i d).path) (joined_path (slice_index_or xs (suc i) e).path)))
    ∙ sym (λ j. differ_in_path (seen_at claim_seen xs i d (omega arith) j) (seen_at claim_seen xs (suc i) e l j))
