-- Loops that keep the claims of a list that pass a test.
use Rattle.std.proofs.Common.{◌≡◌, ℕ, suc, zero, ◌+◌, ◌<◌, ◌≤◌, Bool, true, false, cond, List, [], ◌∷◌, ◌++◌, length, map, take, Some, refl, ap, sym, ◌∙◌, arith}
use Rattle.std.specs.Prelude.{slice_get, slice_index_or}
use Rattle.std.specs.List.{filter}
use Rattle.path_claim_lists.specs.path_claims.Claims.{PathClaim}
use Rattle.path_claim_lists.specs.path_claims.Seen.{claim_seen}
use Rattle.path_claim_lists.specs.path_claims.declared.claim.Claim.{Claim}
use Rattle.path_claim_lists.proofs.path_claims.Places.{map_len, no_some, seen_at, value_or}
use Rattle.path_claim_lists.proofs.Lists.{take_whole}
use Rattle.own_core.specs.Fates.{marked_claims}

pub map_more : {X Y : Type 0} (f : X → Y) (xs : List X) (x : X) → map f (xs ++ x ∷ []) ≡ map f xs ++ f x ∷ []
map_more f [] x = refl
map_more f (y ∷ ys) x = ap (λ r. f y ∷ r) (map_more f ys x)

pub none_more : {X : Type 0} (xs : List X) → xs ++ [] ≡ xs
none_more [] = refl
none_more (x ∷ xs) = ap (λ r. x ∷ r) (none_more xs)

pub filter_step : {X : Type 0} (p : X → Bool) (xs : List X) (i : ℕ) (x : X) → slice_get xs i ≡ Some x → filter p (take (suc i) xs) ≡ filter p (take i xs) ++ cond (p x) (x ∷ []) []
filter_step p [] i x g = absurd (no_some x g)
filter_step p (y ∷ ys) zero x g = ap (λ v. cond (p v) (v ∷ []) []) (ap (value_or y) g)
filter_step p (y ∷ ys) (suc i) x g = step_by (p y) y (filter p (take i ys)) (filter p (take (suc i) ys)) (cond (p x) (x ∷ []) []) (filter_step p ys i x g)
  where
    step_by : {X : Type 0} (b : Bool) (y : X) (old new more : List X) → new ≡ old ++ more → cond b (y ∷ new) new ≡ cond b (y ∷ old) old ++ more
    step_by true y old new more h = ap (λ r. y ∷ r) h
    step_by false y old new more h = h

pub kept_one : (p : PathClaim → Bool) (xs gs hs : List Claim) (i : ℕ) (d : Claim) (t : Bool) → i < length xs → t ≡ p (claim_seen (slice_index_or xs i d)) → t ≡ true
    → hs ≡ gs ++ slice_index_or xs i d ∷ [] → map claim_seen gs ≡ filter p (take i (map claim_seen xs)) → map claim_seen hs ≡ filter p (take (i + 1) (map claim_seen xs))
kept_one p xs gs hs i d t l e is h inv =
    let n : i + 1 ≡ suc i = omega arith in
    ap (map claim_seen) h ∙ (map_more claim_seen gs (slice_index_or xs i d)
    ∙ ((λ j. inv j ++ cond ((sym is ∙ e) j) (claim_seen (slice_index_or xs i d) ∷ []) [])
    ∙ (sym (filter_step p (map claim_seen xs) i (claim_seen (slice_index_or xs i d)) (seen_at claim_seen xs i d l)) ∙ ap (λ k. filter p (take k (map claim_seen xs))) (sym n))))

pub left_one : (p : PathClaim → Bool) (xs gs hs : List Claim) (i : ℕ) (d : Claim) (t : Bool) → i < length xs → t ≡ p (claim_seen (slice_index_or xs i d)) → t ≡ false
    → hs ≡ gs → map claim_seen gs ≡ filter p (take i (map claim_seen xs)) → map claim_seen hs ≡ filter p (take (i + 1) (map claim_seen xs))
left_one p xs gs hs i d t l e is h inv =
    let n : i + 1 ≡ suc i = omega arith in
    ap (map claim_seen) h ∙ (sym (none_more (map claim_seen gs))
    ∙ ((λ j. inv j ++ cond ((sym is ∙ e) j) (claim_seen (slice_index_or xs i d) ∷ []) [])
    ∙ (sym (filter_step p (map claim_seen xs) i (claim_seen (slice_index_or xs i d)) (seen_at claim_seen xs i d l)) ∙ ap (λ k. filter p (take k (map claim_seen xs))) (sym n))))

pub kept_whole : (p : PathClaim → Bool) (xs gs : List Claim) (i : ℕ) → length xs ≤ i → map claim_seen gs ≡ filter p (take i (map claim_seen xs)) → map claim_seen gs ≡ filter p (map claim_seen xs)
kept_whole p xs gs i l inv =
    let n : length (map claim_seen xs) ≡ length xs = map_len claim_seen xs in
    inv ∙ ap (filter p) (take_whole (map claim_seen xs) i (omega (arith, n, l)))

-- ---- of lists that go together

pub beside_at : {Y : Type 0} (f : PathClaim → Y) (xs : List Claim) (ys : List Y) (i : ℕ) (d : Claim) (e : Y) → ys ≡ map f (map claim_seen xs) → i < length xs
    → slice_index_or ys i e ≡ f (claim_seen (slice_index_or xs i d))
beside_at f xs ys i d e h l = ap (λ zs. slice_index_or zs i e) h ∙ at f xs i d e l
  where
    at : {Y : Type 0} (f : PathClaim → Y) (xs : List Claim) (i : ℕ) (d : Claim) (e : Y) → i < length xs → slice_index_or (map f (map claim_seen xs)) i e ≡ f (claim_seen (slice_index_or xs i d))
    at f [] i d e l = absurd (omega arith)
    at f (x ∷ xs) zero d e l = refl
    at f (x ∷ xs) (suc i) d e l = at f xs i d e (omega arith)

-- a list in order stays so without some of its elements

-- ---- by marks

-- marks that are those of a test
pub marked_by : {Y : Type 0} (test : Y → Bool) (t : PathClaim → Y) (cs : List PathClaim) → marked_claims test cs (map t cs) ≡ filter (λ c. test (t c)) cs
marked_by test t [] = refl
marked_by test t (c ∷ cs) = ap (λ r. cond (test (t c)) (c ∷ r) r) (marked_by test t cs)
