-- Flags of claims, set one by one.
use Rattle.std.proofs.Common.{◌≡◌, ℕ, suc, zero, ◌+◌, ◌<◌, ◌≤◌, Bool, true, false, List, [], ◌∷◌, length, map, Option, Some, refl, ap, sym, ◌∙◌, subst, arith, true≢false}
use Rattle.std.specs.Prelude.{◌==◌, slice_get, slice_set, slice_index_or}
use borrow.Author.Tests.{eqb-true}
use Rattle.path_claims.specs.Claims.{PathClaim, is_owning_member}
use Rattle.path_claims.specs.Seen.{claim_seen}
use Rattle.path_claims.specs.declared.claim.Claim.{Claim}
use Rattle.path_claims.proofs.Places.{no_some, seen_at, value_or}

pub get_at : {X : Type 0} (xs : List X) (i : ℕ) (d : X) → i < length xs → slice_get xs i ≡ Some (slice_index_or xs i d)
get_at [] i d l = absurd (omega arith)
get_at (x ∷ xs) zero d l = refl
get_at (x ∷ xs) (suc i) d l = get_at xs i d (omega arith)

set_same : {X : Type 0} (xs : List X) (i : ℕ) (v : X) → i < length xs → slice_get (slice_set xs i v) i ≡ Some v
set_same [] i v l = absurd (omega arith)
set_same (x ∷ xs) zero v l = refl
set_same (x ∷ xs) (suc i) v l = set_same xs i v (omega arith)

set_other : {X : Type 0} (xs : List X) (i j : ℕ) (v : X) → (j ≡ i → ⊥) → slice_get (slice_set xs i v) j ≡ slice_get xs j
set_other [] i j v n = refl
set_other (x ∷ xs) zero zero v n = absurd (n refl)
set_other (x ∷ xs) zero (suc j) v n = refl
set_other (x ∷ xs) (suc i) zero v n = refl
set_other (x ∷ xs) (suc i) (suc j) v n = set_other xs i j v (λ e. n (ap suc e))

abbrev pub AreMarked : List PathClaim → List (Option ℕ) → List Bool → ℕ → Type 0
AreMarked cs owners flags n = (j : ℕ) (c : PathClaim) (o : Option ℕ) → j < n → slice_get cs j ≡ Some c → slice_get owners j ≡ Some o → slice_get flags c.number ≡ Some (is_owning_member c.member o)

abbrev pub AreAlike : List PathClaim → List (Option ℕ) → Type 0
AreAlike cs owners = (j k : ℕ) (c d : PathClaim) (o p : Option ℕ)
    → slice_get cs j ≡ Some c → slice_get owners j ≡ Some o → slice_get cs k ≡ Some d → slice_get owners k ≡ Some p
    → c.number ≡ d.number → is_owning_member c.member o ≡ is_owning_member d.member p

apart : (m n : ℕ) → (m == n) ≡ false → m ≡ n → ⊥
apart m n f e = true≢false (sym (itself n) ∙ (ap (λ k. k == n) (sym e) ∙ f))
  where
    itself : (n : ℕ) → (n == n) ≡ true
    itself n = grind arith

pub number_below : (xs : List Claim) (i : ℕ) (d : Claim) (m n : ℕ) → i < length xs → ((j : ℕ) (c : PathClaim) → slice_get (map claim_seen xs) j ≡ Some c → c.number < n) → m ≡ n → (slice_index_or xs i d).number < m
number_below xs i d m n l h e = subst (λ k. (slice_index_or xs i d).number < k) (sym e) (h i (claim_seen (slice_index_or xs i d)) (seen_at claim_seen xs i d l))

pub one_marked : (xs : List Claim) (owners : List (Option ℕ)) (flags : List Bool) (i : ℕ) (d : Claim) (e : Option ℕ) (b : Bool)
    → i < length xs → length owners ≡ length xs → (slice_index_or xs i d).number < length flags
    → AreAlike (map claim_seen xs) owners → b ≡ is_owning_member (slice_index_or xs i d).member (slice_index_or owners i e)
    → AreMarked (map claim_seen xs) owners flags i
    → AreMarked (map claim_seen xs) owners (slice_set flags (slice_index_or xs i d).number b) (i + 1)
one_marked xs owners flags i d e b l m w alike is inv j c o low g k = go (c.number == (slice_index_or xs i d).number) refl
  where
    here : slice_get (map claim_seen xs) i ≡ Some (claim_seen (slice_index_or xs i d))
    here = seen_at claim_seen xs i d l

    owner : slice_get owners i ≡ Some (slice_index_or owners i e)
    owner = get_at owners i e (omega arith)

    other : (c.number ≡ (slice_index_or xs i d).number → ⊥) → j ≡ i → ⊥
    other n q = n (ap (λ c. c.number) (ap (value_or c) (sym g ∙ (ap (slice_get (map claim_seen xs)) q ∙ here))))

    under : (j i : ℕ) → j < i + 1 → (j ≡ i → ⊥) → j < i
    under j i l n = grind (arith, l, n)

    go : (t : Bool) → (c.number == (slice_index_or xs i d).number) ≡ t → slice_get (slice_set flags (slice_index_or xs i d).number b) c.number ≡ Some (is_owning_member c.member o)
    go true q =
        let one : c.number ≡ (slice_index_or xs i d).number = eqb-true _ _ q in
        ap (slice_get (slice_set flags (slice_index_or xs i d).number b)) one
        ∙ (set_same flags (slice_index_or xs i d).number b w ∙ ap Some (is ∙ sym (alike j i c (claim_seen (slice_index_or xs i d)) o (slice_index_or owners i e) g k here owner one)))
    go false q =
        let n : c.number ≡ (slice_index_or xs i d).number → ⊥ = apart c.number (slice_index_or xs i d).number q in
        let below : j < i = under j i low (other n) in
        set_other flags (slice_index_or xs i d).number c.number b n ∙ inv j c o below g k

pub all_marked : (xs : List Claim) (owners : List (Option ℕ)) (flags : List Bool) (i : ℕ) → length xs ≤ i
    → AreMarked (map claim_seen xs) owners flags i
    → (j : ℕ) (c : PathClaim) (o : Option ℕ) → slice_get (map claim_seen xs) j ≡ Some c → slice_get owners j ≡ Some o → slice_get flags c.number ≡ Some (is_owning_member c.member o)
all_marked xs owners flags i l inv j c o g k = inv j c o (within xs i j c l g) g k
  where
    within : (xs : List Claim) (i j : ℕ) (c : PathClaim) → length xs ≤ i → slice_get (map claim_seen xs) j ≡ Some c → j < i
    within [] i j c l g = absurd (no_some c g)
    within (x ∷ xs) i zero c l g = omega arith
    within (x ∷ xs) zero (suc j) c l g = absurd (omega arith)
    within (x ∷ xs) (suc i) (suc j) c l g = let r = within xs i j c (omega arith) g in omega arith
