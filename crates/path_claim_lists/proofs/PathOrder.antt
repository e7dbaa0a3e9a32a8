-- Claims in the order of their paths, and the place of a path among them.
use Rattle.std.proofs.Common.{◌≡◌, ℕ, suc, zero, ◌-◌, ◌<◌, ◌≤◌, Bool, true, false, cond, List, [], ◌∷◌, length, map, drop, take, Some, None, refl, ap, sym, ◌∙◌, subst, arith, true≢false, Ordering, Less, Equal, Greater}
use Rattle.std.specs.Prelude.{slice_get, slice_index_or, bytes_eq}
use Rattle.std.specs.Cmp.Lexicographic.{slice_cmp, texts_ties}
use Rattle.std.specs.List.{find}
use Rattle.std.specs.List.Sorted.{IsPartitionPoint, IsPartitionedBy, IsSorted}
use Rattle.std.specs.Ordering.{is_eq, is_lt, nat_cmp, ordering_reverse}
use Rattle.std.proofs.lemmas.Cmp.{nat_list_cmp_total}
use Rattle.std.proofs.lemmas.List.Sorted.{sorted_far}
use Rattle.path_claims.specs.adb_fields.JoinedPath.{joined_path}
use Rattle.base_core.specs.ByteOrder.{bytes_cmp, precedes}
use Rattle.base_core.proofs.Sorting.{Each, Rises, ranks, rises_sorted}
use Rattle.path_claims.specs.Claims.{PathClaim, claim_cmp, is_claim_of_path}
use Rattle.path_claims.specs.Seen.{claim_seen}
use Rattle.path_claims.specs.declared.claim.Claim.{Claim}
use Rattle.path_claims.proofs.ClaimOrder.{claims_total}
use Rattle.path_claims.proofs.Places.{map_len}
use Rattle.path_claim_lists.proofs.Lists.{drop_at, drop_past, each_above, each_below, found_none, found_skip}

less_apart_by : (o : Ordering) → is_lt o ≡ true → is_eq o ≡ false
less_apart_by Less h = refl
less_apart_by Equal h = absurd (true≢false (sym h))
less_apart_by Greater h = absurd (true≢false (sym h))

pub less_apart : (a b : List ℕ) → precedes a b ≡ true → bytes_eq a b ≡ false
less_apart a b h = texts_ties a b ∙ less_apart_by (bytes_cmp a b) h

more_apart_by : (o : Ordering) → is_lt o ≡ true → is_eq (ordering_reverse o) ≡ false
more_apart_by Less h = refl
more_apart_by Equal h = absurd (true≢false (sym h))
more_apart_by Greater h = absurd (true≢false (sym h))

pub more_apart : (a b : List ℕ) → precedes b a ≡ true → bytes_eq a b ≡ false
more_apart a b h = texts_ties a b ∙ (ap is_eq (nat_list_cmp_total.antisymm a b) ∙ more_apart_by (bytes_cmp b a) h)

more_by : (o : Ordering) → is_lt o ≡ false → is_eq o ≡ false → is_lt (ordering_reverse o) ≡ true
more_by Less h g = absurd (true≢false h)
more_by Equal h g = absurd (true≢false g)
more_by Greater h g = refl

-- apart and not before is behind
pub behind : (a b : List ℕ) → precedes a b ≡ false → bytes_eq a b ≡ false → precedes b a ≡ true
behind a b h g = ap is_lt (nat_list_cmp_total.antisymm b a) ∙ more_by (bytes_cmp a b) h (sym (texts_ties a b) ∙ g)

-- behind one that is behind, or beside it
pub above : (a b c : List ℕ) → precedes a b ≡ true → precedes c b ≡ false → precedes a c ≡ true
above a b c h g = go (precedes a c) refl
  where
    go : (t : Bool) → precedes a c ≡ t → t ≡ true
    go true e = refl
    go false e = absurd (true≢false (sym h ∙ (ranks bytes_cmp nat_list_cmp_total).chain a c b e g))

-- ---- where a path stands

abbrev pub IsPlace : List PathClaim → List ℕ → ℕ → Type 0
IsPlace cs path i = IsPartitionPoint (λ (c : PathClaim). precedes c.path path ≡ true) (λ (c : PathClaim). precedes c.path path ≡ false) cs i

within_place : (cs : List PathClaim) (path : List ℕ) (i : ℕ) → i ≤ length cs → IsPlace cs path i → find (is_claim_of_path path) cs ≡ find (is_claim_of_path path) (drop i cs)
within_place cs path i l h = found_skip (is_claim_of_path path) i cs (lower (take i cs) (each_below (λ (c : PathClaim). precedes c.path path ≡ true) cs i l h.0))
  where
    lower : (xs : List PathClaim) → Each (λ (c : PathClaim). precedes c.path path ≡ true) xs → Each (λ (c : PathClaim). bytes_eq c.path path ≡ false) xs
    lower [] e = tt
    lower (x ∷ xs) e = (less_apart x.path path e.0, lower xs e.1)

pub found_there : (cs : List PathClaim) (path : List ℕ) (i : ℕ) (c : PathClaim) → IsPlace cs path i → i ≤ length cs → slice_get cs i ≡ Some c → bytes_eq c.path path ≡ true
    → Some c ≡ find (is_claim_of_path path) cs
found_there cs path i c h l g e =
    sym (within_place cs path i l h ∙ (ap (find (is_claim_of_path path)) (drop_at cs i c g) ∙ ap (λ b. cond b (Some c) (find (is_claim_of_path path) (drop (suc i) cs))) e))

pub none_past : (cs : List PathClaim) (path : List ℕ) (i : ℕ) → IsPlace cs path i → i ≤ length cs → length cs ≤ i → None ≡ find (is_claim_of_path path) cs
none_past cs path i h l m = sym (within_place cs path i l h ∙ ap (find (is_claim_of_path path)) (drop_past cs i m))

pub none_there : (cs : List PathClaim) (path : List ℕ) (i : ℕ) (c : PathClaim) → IsSorted claim_cmp cs → IsPlace cs path i → i ≤ length cs → slice_get cs i ≡ Some c → bytes_eq c.path path ≡ false
    → None ≡ find (is_claim_of_path path) cs
unfolding claim_cmp
none_there cs path i c up h l g e =
    let back : Each (λ (d : PathClaim). precedes d.path path ≡ false) (drop i cs) = each_above (λ (d : PathClaim). precedes d.path path ≡ false) cs i h.1 in
    let here = subst (Each (λ (d : PathClaim). precedes d.path path ≡ false)) (drop_at cs i c g) back in
    let rises : Rises (λ x y. is_lt (claim_cmp x y)) (ranks claim_cmp claims_total) (c ∷ drop (suc i) cs) =
    subst (Rises (λ x y. is_lt (claim_cmp x y)) (ranks claim_cmp claims_total)) (drop_at cs i c g) (rises_drop i cs (rises_sorted (λ x y. is_lt (claim_cmp x y)) (ranks claim_cmp claims_total) cs up)) in
    let first : precedes path c.path ≡ true = behind c.path path here.0 e in
    sym (within_place cs path i l h ∙ (ap (find (is_claim_of_path path)) (drop_at cs i c g)
    ∙ found_none (is_claim_of_path path) (c ∷ drop (suc i) cs) (e, higher first (drop (suc i) cs) rises.0)))
  where
    rises_drop : (i : ℕ) (xs : List PathClaim) → Rises (λ x y. is_lt (claim_cmp x y)) (ranks claim_cmp claims_total) xs → Rises (λ x y. is_lt (claim_cmp x y)) (ranks claim_cmp claims_total) (drop i xs)
    rises_drop zero xs r = r
    rises_drop (suc i) [] r = r
    rises_drop (suc i) (x ∷ xs) r = rises_drop i xs r.1

    higher : precedes path c.path ≡ true → (xs : List PathClaim) → Each (λ y. is_lt (claim_cmp y c) ≡ false) xs → Each (λ (d : PathClaim). bytes_eq d.path path ≡ false) xs
    higher first [] r = tt
    higher first (x ∷ xs) r = (more_apart x.path path (above path c.path x.path first r.0), higher first xs r.1)

-- ---- over the program's claims

pub eq_here : (xs : List Claim) (i : ℕ) (d : Claim) (path : List ℕ) (t : Bool) → t ≡ is_eq (slice_cmp nat_cmp (joined_path (slice_index_or xs i d).path) path)
    → bytes_eq (claim_seen (slice_index_or xs i d)).path path ≡ t
eq_here xs i d path t h = texts_ties (joined_path (slice_index_or xs i d).path) path ∙ sym h

-- a test that the claims' paths are before one
pub parted : (xs : List Claim) (path : List ℕ) → IsSorted claim_cmp (map claim_seen xs) → IsPartitionedBy (λ (c : Claim). is_lt (slice_cmp nat_cmp (joined_path c.path) path)) xs
unfolding claim_cmp
parted xs path up i j d l m h = go (precedes (joined_path (slice_index_or xs i d).path) path) refl
  where
    seen_or : (ys : List Claim) (k : ℕ) → claim_seen (slice_index_or ys k d) ≡ slice_index_or (map claim_seen ys) k (claim_seen d)
    seen_or [] k = refl
    seen_or (y ∷ ys) zero = refl
    seen_or (y ∷ ys) (suc k) = seen_or ys k

    not_before : precedes (joined_path (slice_index_or xs j d).path) (joined_path (slice_index_or xs i d).path) ≡ false
    not_before =
        let n : length (map claim_seen xs) ≡ length xs = map_len claim_seen xs in
        let far = sorted_far (λ x y. is_lt (claim_cmp x y)) (ranks claim_cmp claims_total) (map claim_seen xs) up i j (claim_seen d) l (omega (arith, m, n)) in
        (λ k. precedes (seen_or xs j k).path (seen_or xs i k).path) ∙ far

    go : (t : Bool) → precedes (joined_path (slice_index_or xs i d).path) path ≡ t → t ≡ true
    go true e = refl
    go false e = absurd (true≢false (sym h ∙ (ranks bytes_cmp nat_list_cmp_total).chain (joined_path (slice_index_or xs j d).path) (joined_path (slice_index_or xs i d).path) path not_before e))

pub place_seen : (xs : List Claim) (path : List ℕ) (i : ℕ)
    → IsPartitionPoint (λ (c : Claim). is_lt (slice_cmp nat_cmp (joined_path c.path) path) ≡ true) (λ (c : Claim). is_lt (slice_cmp nat_cmp (joined_path c.path) path) ≡ false) xs i
    → i ≤ length xs → IsPlace (map claim_seen xs) path i
place_seen xs path i h l = (below xs i l h.0, over xs i h.1)
  where
    below : (xs : List Claim) (i : ℕ) → i ≤ length xs → ((k : ℕ) (d : Claim) → 0 ≤ k → k < i → is_lt (slice_cmp nat_cmp (joined_path (slice_index_or xs k d).path) path) ≡ true)
        → (k : ℕ) (e : PathClaim) → 0 ≤ k → k < i → precedes (slice_index_or (map claim_seen xs) k e).path path ≡ true
    below [] i l f k e a b = absurd (omega (arith, l, b))
    below (x ∷ xs) zero l f k e a b = absurd (omega (arith, b))
    below (x ∷ xs) (suc i) l f zero e a b = f zero x (omega arith) (omega arith)
    below (x ∷ xs) (suc i) l f (suc k) e a b = below xs i (omega arith) (λ n d c g. f (suc n) d (omega arith) (omega (arith, g))) k e (omega arith) (omega (arith, b))

    over : (xs : List Claim) (i : ℕ) → ((k : ℕ) (d : Claim) → i ≤ k → k < length xs → is_lt (slice_cmp nat_cmp (joined_path (slice_index_or xs k d).path) path) ≡ false)
        → (k : ℕ) (e : PathClaim) → i ≤ k → k < length (map claim_seen xs) → precedes (slice_index_or (map claim_seen xs) k e).path path ≡ false
    over [] i f k e a b = absurd (omega (arith, b))
    over (x ∷ xs) i f zero e a b = f zero x (omega (arith, a)) (omega arith)
    over (x ∷ xs) zero f (suc k) e a b = over xs zero (λ n d c g. f (suc n) d (omega arith) (omega (arith, g))) k e (omega arith) (omega (arith, b))
    over (x ∷ xs) (suc i) f (suc k) e a b = over xs i (λ n d c g. f (suc n) d (omega (arith, c)) (omega (arith, g))) k e (omega (arith, a)) (omega (arith, b))

-- what stands for an element past the end does not matter within
or_any : (xs : List Claim) (i : ℕ) (d e : Claim) → i < length xs → slice_index_or xs i d ≡ slice_index_or xs i e
or_any [] i d e l = absurd (omega (arith, l))
or_any (x ∷ xs) zero d e l = refl
or_any (x ∷ xs) (suc i) d e l = or_any xs i d e (omega (arith, l))

-- whether the path of the claim at i is before this one
abbrev pub IsBefore : List Claim → List ℕ → ℕ → Claim → Bool → Type 0
IsBefore xs path i d t = is_lt (slice_cmp nat_cmp (joined_path (slice_index_or xs i d).path) path) ≡ t

pub before_any : (xs : List Claim) (path : List ℕ) (i : ℕ) (d e : Claim) (t : Bool) → i < length xs → IsBefore xs path i e t → IsBefore xs path i d t
before_any xs path i d e t l h = ap (λ (c : Claim). is_lt (slice_cmp nat_cmp (joined_path c.path) path)) (or_any xs i d e l) ∙ h

-- a place with a lower path in front of it, and none behind
pub place_by : (xs : List Claim) (path : List ℕ) (i : ℕ) → IsSorted claim_cmp (map claim_seen xs) → i ≤ length xs
    → ((d : Claim) → 0 < i → IsBefore xs path (i - 1) d true) → ((d : Claim) → i < length xs → IsBefore xs path i d false)
    → IsPlace (map claim_seen xs) path i
place_by xs path i up within low high = place_seen xs path i (below, over) within
  where
    below : (k : ℕ) (d : Claim) → 0 ≤ k → k < i → IsBefore xs path k d true
    below k d a b = parted xs path up k (i - 1) d (omega (arith, b)) (omega (arith, b, within)) (low d (omega (arith, b)))

    over : (k : ℕ) (d : Claim) → i ≤ k → k < length xs → IsBefore xs path k d false
    over k d a b = go (is_lt (slice_cmp nat_cmp (joined_path (slice_index_or xs k d).path) path)) refl
      where
        go : (t : Bool) → IsBefore xs path k d t → t ≡ false
        go true e = absurd (true≢false (sym (parted xs path up i k d a b e) ∙ high d (omega (arith, a, b))))
        go false e = refl
