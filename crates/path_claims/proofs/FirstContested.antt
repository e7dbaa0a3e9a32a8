-- The first claim whose path has no owner.
use Rattle.std.proofs.Common.{◌≡◌, ℕ, suc, zero, ◌+◌, ◌<◌, ◌≤◌, Bool, true, false, cond, List, [], ◌∷◌, length, map, drop, Option, Some, None, refl, ap, sym, ◌∙◌, subst, arith, true≢false}
use Rattle.std.specs.Prelude.{not, is_none, is_some, option_and_then, option_map, slice_get, slice_index_or, bytes_eq, ◌⊎◌}
use Rattle.std.proofs.Common.{inl, inr}
use Rattle.std.specs.Cmp.Lexicographic.{bytes_decides}
use Rattle.std.specs.List.{find}
use Rattle.std.specs.List.Sorted.{IsSorted}
use Rattle.adb_fields.specs.JoinedPath.{joined_path}
use Rattle.path_claims.specs.Claims.{ContestedPath, PathClaim, claim_cmp, path_with_rivals_of_first_claimant, is_claim_of_path}
use Rattle.path_claims.specs.Contest.{first_with_unbeaten_rival}
use Rattle.path_claims.specs.Runs.{differ_in_path, is_first_of_path, passing_prefix}
use Rattle.path_claims.specs.Seen.{claim_seen}
use Rattle.path_claims.specs.declared.claim.Claim.{Claim}
use Rattle.path_claims.specs.declared.contest.Rivals.{Rivals}
use Rattle.path_claims.proofs.Owned.{run_claimants}
use Rattle.path_claims.proofs.Places.{map_len, no_some, seen_at, value_or}

pub rivals_here : (beats : ℕ → ℕ → Bool) (xs run : List Claim) (i : ℕ) (d : Claim) (o : Option Rivals) → i < length xs → IsSorted claim_cmp (map claim_seen xs)
    → is_first_of_path (map claim_seen xs) i ≡ true
    → ((c : PathClaim) → slice_get (map claim_seen xs) i ≡ Some c → map claim_seen run ≡ passing_prefix (is_claim_of_path c.path) (drop i (map claim_seen xs)))
    → o ≡ first_with_unbeaten_rival beats (map (λ c. c.member) run)
    → (c : PathClaim) → slice_get (map claim_seen xs) i ≡ Some c
    → option_map (λ r. record { path = joined_path (slice_index_or xs i d).path; rivals = r }) o ≡ path_with_rivals_of_first_claimant beats (map claim_seen xs) c.path
rivals_here beats xs run i d o l up s h r c g =
    let is : claim_seen (slice_index_or xs i d) ≡ c = ap (value_or c) (sym (seen_at claim_seen xs i d l) ∙ g) in
    let all : o ≡ first_with_unbeaten_rival beats _ = r ∙ ap (first_with_unbeaten_rival beats) (run_claimants xs run i up s h c g) in
    λ j. option_map (λ r. record { path = (is j).path; rivals = r }) (all j)

pub no_rivals_here : (beats : ℕ → ℕ → Bool) (xs run : List Claim) (i : ℕ) → IsSorted claim_cmp (map claim_seen xs)
    → is_first_of_path (map claim_seen xs) i ≡ true
    → ((c : PathClaim) → slice_get (map claim_seen xs) i ≡ Some c → map claim_seen run ≡ passing_prefix (is_claim_of_path c.path) (drop i (map claim_seen xs)))
    → None ≡ first_with_unbeaten_rival beats (map (λ c. c.member) run)
    → (c : PathClaim) → slice_get (map claim_seen xs) i ≡ Some c → None ≡ path_with_rivals_of_first_claimant beats (map claim_seen xs) c.path
no_rivals_here beats xs run i up s h r c g =
    let all : None ≡ first_with_unbeaten_rival beats _ = r ∙ ap (first_with_unbeaten_rival beats) (run_claimants xs run i up s h c g) in
    λ j. option_map (λ r. record { path = c.path; rivals = r }) (all j)

some_at : (cs : List PathClaim) (i : ℕ) → i < length cs → (c : PathClaim) × (slice_get cs i ≡ Some c)
some_at [] i l = absurd (omega arith)
some_at (x ∷ cs) zero l = (x, refl)
some_at (x ∷ cs) (suc i) l = some_at cs i (omega arith)

-- ---- the first whose path passes

pub none_by : (o : Option ℕ) (t : Bool) → is_some o ≡ not t → t ≡ is_none o
none_by None true h = refl
none_by None false h = absurd (true≢false (sym h))
none_by (Some x) true h = absurd (true≢false h)
none_by (Some x) false h = refl

abbrev Passed : (List ℕ → Bool) → List PathClaim → ℕ → Type 0
Passed p cs i = (j : ℕ) (c : PathClaim) → j < i → slice_get cs j ≡ Some c → p c.path ≡ false

find_first : (p : List ℕ → Bool) (cs : List PathClaim) (i : ℕ) (c : PathClaim) → slice_get cs i ≡ Some c → p c.path ≡ true → Passed p cs i → find p (map (λ c. c.path) cs) ≡ Some c.path
find_first p [] i c g t h = absurd (no_some c g)
find_first p (x ∷ cs) zero c g t h =
    let is : x ≡ c = ap (value_or x) g in
    ap (λ b. cond b (Some x.path) (find p (map (λ c. c.path) cs))) (ap (λ v. p v.path) is ∙ t) ∙ ap (λ v. Some v.path) is
find_first p (x ∷ cs) (suc i) c g t h =
    ap (λ b. cond b (Some x.path) (find p (map (λ c. c.path) cs))) (h zero x (omega arith) refl)
    ∙ find_first p cs i c g t (λ j y l k. h (suc j) y (omega arith) k)

find_nothing : (p : List ℕ → Bool) (cs : List PathClaim) (i : ℕ) → length cs ≤ i → Passed p cs i → find p (map (λ c. c.path) cs) ≡ None
find_nothing p [] i l h = refl
find_nothing p (x ∷ cs) zero l h = absurd (omega arith)
find_nothing p (x ∷ cs) (suc i) l h =
    ap (λ b. cond b (Some x.path) (find p (map (λ c. c.path) cs))) (h zero x (omega arith) refl)
    ∙ find_nothing p cs i (omega arith) (λ j y l k. h (suc j) y (omega arith) k)

-- what the list of owners says at a place
owner_seen : (f : PathClaim → Option ℕ) (cs : List PathClaim) (os : List (Option ℕ)) (i : ℕ) (e : Option ℕ) (c : PathClaim) → os ≡ map f cs → slice_get cs i ≡ Some c → slice_index_or os i e ≡ f c
owner_seen f cs os i e c h g = ap (λ os. slice_index_or os i e) h ∙ at f cs i e c g
  where
    at : (f : PathClaim → Option ℕ) (cs : List PathClaim) (i : ℕ) (e : Option ℕ) (c : PathClaim) → slice_get cs i ≡ Some c → slice_index_or (map f cs) i e ≡ f c
    at f [] i e c g = absurd (no_some c g)
    at f (x ∷ cs) zero e c g = ap f (ap (value_or x) g)
    at f (x ∷ cs) (suc i) e c g = at f cs i e c g

pub first_of_path : (f : List ℕ → Option ℕ) (cs : List PathClaim) (os : List (Option ℕ)) (i : ℕ) (e : Option ℕ) (t : Bool) → i < length cs
    → os ≡ map (λ c. f c.path) cs → t ≡ is_none (slice_index_or os i e) → t ≡ true → Passed (λ path. is_none (f path)) cs i
    → is_first_of_path cs i ≡ true
first_of_path f cs os zero e t l h n is inv = refl
first_of_path f cs os (suc i) e t l h n is inv = at_next (some_at cs (suc i) l)
  where
    apart : (y c : PathClaim) → is_none (f y.path) ≡ false → is_none (f c.path) ≡ true → (b : Bool) → bytes_eq y.path c.path ≡ b → not b ≡ true
    apart y c p q false r = refl
    apart y c p q true r =
        let one : y.path ≡ c.path = (bytes_decides y.path c.path).0 r in
        absurd (true≢false (sym (ap (λ p. is_none (f p)) one ∙ q) ∙ p))

    go : (c : PathClaim) → slice_get cs (suc i) ≡ Some c → is_none (f c.path) ≡ true → (b : Option PathClaim) → slice_get cs i ≡ b → differ_in_path (slice_get cs i) (slice_get cs (suc i)) ≡ true
    go c here none None k = (λ j. differ_in_path (k j) (here j))
    go c here none (Some y) k = (λ j. differ_in_path (k j) (here j)) ∙ apart y c (inv i y (omega arith) k) none (bytes_eq y.path c.path) refl

    at_next : (c : PathClaim) × (slice_get cs (suc i) ≡ Some c) → differ_in_path (slice_get cs i) (slice_get cs (suc i)) ≡ true
    at_next p = go p.0 p.1 (ap is_none (sym (owner_seen (λ c. f c.path) cs os (suc i) e p.0 h p.1)) ∙ (sym n ∙ is)) (slice_get cs i) refl

pub contested_here : (f : List ℕ → Option ℕ) (at : List ℕ → Option ContestedPath) (cs : List PathClaim) (os : List (Option ℕ)) (i : ℕ) (e : Option ℕ) (t : Bool) (o : Option ContestedPath) → i < length cs
    → os ≡ map (λ c. f c.path) cs → t ≡ is_none (slice_index_or os i e) → t ≡ true → Passed (λ path. is_none (f path)) cs i
    → ((c : PathClaim) → slice_get cs i ≡ Some c → o ≡ at c.path)
    → o ≡ option_and_then at (find (λ path. is_none (f path)) (map (λ c. c.path) cs))
contested_here f at cs os i e t o l h n is inv q =
    let p = some_at cs i l in
    let none : is_none (f p.0.path) ≡ true = ap is_none (sym (owner_seen (λ c. f c.path) cs os i e p.0 h p.1)) ∙ (sym n ∙ is) in
    q p.0 p.1 ∙ ap (option_and_then at) (sym (find_first (λ path. is_none (f path)) cs i p.0 p.1 none inv))

pub not_contested : (f : List ℕ → Option ℕ) (at : List ℕ → Option ContestedPath) (xs : List Claim) (i : ℕ) → length (map claim_seen xs) ≤ i → Passed (λ path. is_none (f path)) (map claim_seen xs) i
    → None ≡ option_and_then at (find (λ path. is_none (f path)) (map (λ c. c.path) (map claim_seen xs)))
not_contested f at xs i l inv = ap (option_and_then at) (sym (find_nothing (λ path. is_none (f path)) (map claim_seen xs) i l inv))

pub one_passed : (f : List ℕ → Option ℕ) (xs : List Claim) (os : List (Option ℕ)) (i : ℕ) (e : Option ℕ) (t : Bool)
    → os ≡ map (λ c. f c.path) (map claim_seen xs) → t ≡ is_none (slice_index_or os i e) → t ≡ false → Passed (λ path. is_none (f path)) (map claim_seen xs) i
    → Passed (λ path. is_none (f path)) (map claim_seen xs) (i + 1)
one_passed f xs os i e t h n is inv j c l g = go (le j i l)
  where
    le : (j i : ℕ) → j < i + 1 → (j < i) ⊎ (j ≡ i)
    le j i l = grind arith

    go : (j < i) ⊎ (j ≡ i) → is_none (f c.path) ≡ false
    go (inl b) = inv j c b g
    go (inr b) = ap is_none (sym (owner_seen (λ c. f c.path) (map claim_seen xs) os i e c h (ap (slice_get (map claim_seen xs)) (sym b) ∙ g))) ∙ (sym n ∙ is)

pub within : (xs : List Claim) (i : ℕ) → i < length xs → i < length (map claim_seen xs)
within xs i l = subst (λ n. i < n) (sym (map_len claim_seen xs)) l
