-- The first reserved path, and the first path that no package owns.
use Rattle.std.proofs.Common.{◌≡◌, inl, inr, ℕ, suc, zero, ◌+◌, ◌<◌, ◌≤◌, Bool, true, false, cond, List, [], ◌∷◌, length, map, take, All, Option, Some, None, refl, ap, sym, ◌∙◌, subst, arith, true≢false}
use Rattle.std.specs.Prelude.{◌&&◌, ◌||◌, ◌==◌, not, slice_get, slice_index_or, option_map, option_and_then, is_none, bytes_eq}
use Rattle.std.specs.Cmp.{IsTotalOrder}
use Rattle.std.specs.List.{filter, find}
use Rattle.std.specs.List.Sorted.{ties}
use Rattle.std.specs.Ordering.{is_lt}
use Rattle.std.specs.declared.cmp.Ordering.{Ordering}
use Rattle.base_core.specs.Name.{IsName}
use Rattle.base_core.proofs.Rising as Names
use Rattle.base_core.specs.ByteOrder.{bytes_cmp, smallest_text}
use Rattle.base_core.specs.Sorted.{sorted_by}
use Rattle.base_core.proofs.Smallest.{smallest_first}
use Rattle.base_core.proofs.Sorting.{Each, Rises, one_order, ranks, rises_in_order, stable_in_order}
use Rattle.file_guard.specs.adb_schema.Reserved.{is_reserved}
use Rattle.file_owners.specs.db_core.Members.{Listing, Member, is_added, listings_of_members}
use Rattle.path_claim_lists.specs.path_claims.Claims.{ContestedPath, PathClaim, claim_cmp, claimants, path_with_rivals_of_first_claimant, first_contested_path_in_byte_order, first_path_without_owner_in_byte_order, is_claim_of_path, owner_among}
use Rattle.path_claim_lists.specs.path_claims.Contest.{first_with_unbeaten_rival, rivals_of}
use Rattle.path_claim_lists.specs.path_claims.Seen.{claim_seen}
use Rattle.path_claim_lists.specs.path_claims.declared.claim.Claim.{Claim}
use Rattle.path_claim_lists.specs.path_claims.declared.contest.Rivals.{Rivals}
use Rattle.path_claim_lists.proofs.path_claims.ClaimOrder.{claims_total}
use Rattle.path_claim_lists.proofs.path_claims.Places.{map_len, no_some, seen_at, value_or}
use Rattle.path_claim_lists.proofs.path_claims.Whole.{paths_in_order}
use Rattle.path_claim_lists.proofs.Lists.{filter_swap, first_of, found_both, found_first, found_is, or_found, take_at, take_whole}
use Rattle.file_owners.specs.Owners.{indexed_claim_of_listing, claims_of_listings_indexed_from, claims_in, first_contested_member_path_in_byte_order, member_beats}
use Rattle.own_core.specs.PlanLists.{first_reserved_added_path_in_byte_order}
use Rattle.own_core.proofs.InOrder.{from_sorted}
use Rattle.own_core.specs.ClaimEntries.{is_added_at, is_added_if_any, is_added_and_reserved}
use Rattle.own_core.proofs.Listings.{IsPlaced, each_all, each_placed}
use Rattle.own_core.proofs.MarkedClaims.{found_from}

-- ---- what is kept of a sorted list is sorted

module _ {X : Type 0} (cmp : X → X → Ordering) (o : IsTotalOrder cmp) where
  abbrev lt : X → X → Bool
  lt x y = is_lt (cmp x y)

  each_kept : (P : X → Type 0) (p : X → Bool) (xs : List X) → Each P xs → Each P (filter p xs)
  each_kept P p [] h = tt
  each_kept P p (x ∷ xs) h = go (p x) (each_kept P p xs h.1)
    where
      go : (b : Bool) → Each P (filter p xs) → Each P (cond b (x ∷ filter p xs) (filter p xs))
      go true rest = (h.0, rest)
      go false rest = rest

  kept_up : (p : X → Bool) (xs : List X) → Rises lt (ranks cmp o) xs → Rises lt (ranks cmp o) (filter p xs)
  kept_up p [] r = tt
  kept_up p (x ∷ xs) r = go (p x) (kept_up p xs r.1)
    where
      go : (b : Bool) → Rises lt (ranks cmp o) (filter p xs) → Rises lt (ranks cmp o) (cond b (x ∷ filter p xs) (filter p xs))
      go true rest = (each_kept (λ y. lt y x ≡ false) p xs r.0, rest)
      go false rest = rest

  pub kept_sorted : (p : X → Bool) (xs : List X) → filter p (sorted_by cmp xs) ≡ sorted_by cmp (filter p xs)
  kept_sorted p xs =
      one_order lt (ranks cmp o) (sorted_by cmp (filter p xs)) (filter p (sorted_by cmp xs)) (rises_in_order cmp o (filter p xs)) (kept_up p (sorted_by cmp xs) (rises_in_order cmp o xs))
      (λ z. filter_swap (ties lt z) p (sorted_by cmp xs)
      ∙ (ap (filter p) (stable_in_order cmp o z xs)
      ∙ (sym (filter_swap (ties lt z) p xs)
      ∙ sym (stable_in_order cmp o z (filter p xs)))))

-- ---- the first reserved path

first_path : (cs : List PathClaim) → slice_get (map (λ c. c.path) cs) 0 ≡ option_map (λ c. c.path) (first_of cs)
first_path [] = refl
first_path (c ∷ cs) = refl

pub first_kept : (p : PathClaim → Bool) (cs : List PathClaim) → option_map (λ c. c.path) (find p (sorted_by claim_cmp cs)) ≡ smallest_text (map (λ c. c.path) (filter p cs))
first_kept p cs =
    ap (option_map (λ c. c.path)) (found_first p (sorted_by claim_cmp cs) ∙ ap first_of (kept_sorted claim_cmp claims_total p cs))
    ∙ (sym (first_path (sorted_by claim_cmp (filter p cs)))
    ∙ (ap (λ ys. slice_get ys 0) (paths_in_order (filter p cs))
    ∙ sym (smallest_first (map (λ c. c.path) (filter p cs)))))

reserved_listings : (members : List Member) (n : ℕ) (ls : List Listing) → Each (IsPlaced members) ls
    → map (λ c. c.path) (filter (is_added_and_reserved members) (claims_of_listings_indexed_from n ls)) ≡ filter is_reserved (map (λ l. l.path) (filter (λ l. is_added l.member) ls))
reserved_listings members n [] h = refl
reserved_listings members n (l ∷ ls) h = go (is_reserved l.path) (is_added_at members l.place) (is_added l.member) refl (ap is_added_if_any h.0.at) (reserved_listings members (n + 1) ls h.1)
  where
    go : (r a b : Bool) → is_reserved l.path ≡ r → a ≡ b → map (λ c. c.path) (filter (is_added_and_reserved members) (claims_of_listings_indexed_from (n + 1) ls)) ≡ filter is_reserved (map (λ l. l.path) (filter (λ l. is_added l.member) ls))
        → map (λ c. c.path) (cond (r && a) (indexed_claim_of_listing n l ∷ filter (is_added_and_reserved members) (claims_of_listings_indexed_from (n + 1) ls)) (filter (is_added_and_reserved members) (claims_of_listings_indexed_from (n + 1) ls)))
        ≡ filter is_reserved (map (λ l. l.path) (cond b (l ∷ filter (λ l. is_added l.member) ls) (filter (λ l. is_added l.member) ls)))
    go true true true e f rest = ap (λ t. l.path ∷ t) rest ∙ sym (ap (λ t. cond t (l.path ∷ filter is_reserved (map (λ l. l.path) (filter (λ l. is_added l.member) ls))) (filter is_reserved (map (λ l. l.path) (filter (λ l. is_added l.member) ls)))) e)
    go true true false e f rest = absurd (true≢false f)
    go true false true e f rest = absurd (true≢false (sym f))
    go true false false e f rest = rest
    go false true true e f rest = rest ∙ sym (ap (λ t. cond t (l.path ∷ filter is_reserved (map (λ l. l.path) (filter (λ l. is_added l.member) ls))) (filter is_reserved (map (λ l. l.path) (filter (λ l. is_added l.member) ls)))) e)
    go false true false e f rest = absurd (true≢false f)
    go false false true e f rest = absurd (true≢false (sym f))
    go false false false e f rest = rest

pub reserved_is : (members : List Member) (cs : List PathClaim) → cs ≡ sorted_by claim_cmp (claims_in members) → option_map (λ c. c.path) (find (is_added_and_reserved members) cs) ≡ first_reserved_added_path_in_byte_order members
unfolding claims_in first_reserved_added_path_in_byte_order
reserved_is members cs e =
    ap (λ xs. option_map (λ c. c.path) (find (is_added_and_reserved members) xs)) e
    ∙ (first_kept (is_added_and_reserved members) (claims_of_listings_indexed_from 0 (listings_of_members members)) ∙ ap smallest_text (reserved_listings members 0 (listings_of_members members) (each_placed members)))

-- the search claim by claim
found_none_here : (p : PathClaim → Bool) (cs : List PathClaim) (i : ℕ) (c : PathClaim) → slice_get cs i ≡ Some c → find p (take i cs) ≡ None → p c ≡ true → find p cs ≡ Some c
found_none_here p [] i c g n t = absurd (no_some c g)
found_none_here p (d ∷ cs) zero c g n t = ap (λ x. cond (p x) (Some x) (find p cs)) (ap (value_or d) g) ∙ ap (λ b. cond b (Some c) (find p cs)) t
found_none_here p (d ∷ cs) (suc i) c g n t = go (p d) n (λ m. found_none_here p cs i c g m t)
  where
    go : (b : Bool) → cond b (Some d) (find p (take i cs)) ≡ None → (find p (take i cs) ≡ None → find p cs ≡ Some c) → cond b (Some d) (find p cs) ≡ Some c
    go true e rest = absurd (no_some d (sym e))
    go false e rest = rest e

pub reserved_here : (members : List Member) (xs : List Claim) (i : ℕ) (d : Claim) (name : List ℕ) (t : Bool) → map claim_seen xs ≡ sorted_by claim_cmp (claims_in members) → i < length xs
    → find (is_added_and_reserved members) (take i (map claim_seen xs)) ≡ None → t ≡ is_added_and_reserved members (claim_seen (slice_index_or xs i d)) → t ≡ true → name ≡ (claim_seen (slice_index_or xs i d)).path
    → Some name ≡ first_reserved_added_path_in_byte_order members
reserved_here members xs i d name t e l n is passes m =
    ap Some m
    ∙ (sym (ap (option_map (λ c. c.path)) (found_none_here (is_added_and_reserved members) (map claim_seen xs) i (claim_seen (slice_index_or xs i d)) (seen_at claim_seen xs i d l) n (sym is ∙ passes)))
    ∙ reserved_is members (map claim_seen xs) e)

pub not_reserved_here : (members : List Member) (xs : List Claim) (i : ℕ) (d : Claim) (t : Bool) → i < length xs → find (is_added_and_reserved members) (take i (map claim_seen xs)) ≡ None
    → t ≡ is_added_and_reserved members (claim_seen (slice_index_or xs i d)) → t ≡ false → find (is_added_and_reserved members) (take (i + 1) (map claim_seen xs)) ≡ None
not_reserved_here members xs i d t l n is fails =
    let k : i + 1 ≡ suc i = omega arith in
    ap (λ j. find (is_added_and_reserved members) (take j (map claim_seen xs))) k
    ∙ (ap (find (is_added_and_reserved members)) (take_at (map claim_seen xs) i (claim_seen (slice_index_or xs i d)) (seen_at claim_seen xs i d l))
    ∙ (found_both (is_added_and_reserved members) (take i (map claim_seen xs)) (claim_seen (slice_index_or xs i d) ∷ [])
    ∙ (λ j. or_found (n j) (cond ((sym is ∙ fails) j) (Some (claim_seen (slice_index_or xs i d))) None))))

pub none_reserved : (members : List Member) (xs : List Claim) (i : ℕ) → map claim_seen xs ≡ sorted_by claim_cmp (claims_in members) → length xs ≤ i
    → find (is_added_and_reserved members) (take i (map claim_seen xs)) ≡ None → None ≡ first_reserved_added_path_in_byte_order members
none_reserved members xs i e l n =
    let k : length (map claim_seen xs) ≡ length xs = map_len claim_seen xs in
    sym (ap (option_map (λ c. c.path)) (sym (ap (find (is_added_and_reserved members)) (take_whole (map claim_seen xs) i (omega (arith, k, l)))) ∙ n)) ∙ reserved_is members (map claim_seen xs) e

-- ---- the contested path

place_low : {X : Type 0} (xs : List X) (i : ℕ) (x : X) → slice_get xs i ≡ Some x → i < length xs
place_low [] i x g = absurd (no_some x g)
place_low (y ∷ xs) zero x g = omega arith
place_low (y ∷ xs) (suc i) x g = let r = place_low xs i x g in omega arith

claimants_low : (members : List Member) (path : List ℕ) (n : ℕ) (ls : List Listing) → Each (IsPlaced members) ls → Each (λ m. m < length members) (claimants (claims_of_listings_indexed_from n ls) path)
claimants_low members path n [] h = tt
claimants_low members path n (l ∷ ls) h = go (bytes_eq l.path path) (claimants_low members path (n + 1) ls h.1)
  where
    go : (b : Bool) → Each (λ m. m < length members) (map (λ c. c.member) (filter (is_claim_of_path path) (claims_of_listings_indexed_from (n + 1) ls)))
        → Each (λ m. m < length members) (map (λ c. c.member) (cond b (indexed_claim_of_listing n l ∷ filter (is_claim_of_path path) (claims_of_listings_indexed_from (n + 1) ls)) (filter (is_claim_of_path path) (claims_of_listings_indexed_from (n + 1) ls))))
    go true rest = (place_low members l.place l.member h.0.at, rest)
    go false rest = rest

rivals_low : (beats : ℕ → ℕ → Bool) (n : ℕ) (ms : List ℕ) (r : Rivals) → Each (λ m. m < n) ms → first_with_unbeaten_rival beats ms ≡ Some r → (r.first < n) × (r.second < n)
unfolding first_with_unbeaten_rival
rivals_low beats n [] r h e = absurd (no_some r e)
rivals_low beats n (x ∷ ms) r h e = go (find (λ y. not ((x == y) || beats x y)) (x ∷ ms)) refl e
  where
    go : (o : Option ℕ) → find (λ y. not ((x == y) || beats x y)) (x ∷ ms) ≡ o → option_map (rivals_of x) o ≡ Some r → (r.first < n) × (r.second < n)
    go None f k = absurd (no_some r k)
    go (Some y) f k =
        let is : rivals_of x y ≡ r = ap (value_or (rivals_of x y)) k in
        subst (λ (s : Rivals). (s.first < n) × (s.second < n)) is (h.0, (found_is (λ y. not ((x == y) || beats x y)) (λ m. m < n) (x ∷ ms) y h f).0)

named_paths : (n : ℕ) (ls : List Listing) (q : List ℕ) → Each (λ l. IsName l.path) ls → Names.IsIn q (map (λ c. c.path) (claims_of_listings_indexed_from n ls)) → IsName q
named_paths n [] q h here = absurd here
named_paths n (l ∷ ls) q h (inl is) = subst IsName (sym is) h.0
named_paths n (l ∷ ls) q h (inr old) = named_paths (n + 1) ls q h.1 old

at_in : (xs : List (List ℕ)) (k : ℕ) (q : List ℕ) → slice_get xs k ≡ Some q → Names.IsIn q xs
at_in [] k q g = absurd (no_some q g)
at_in (x ∷ xs) zero q g = inl (sym (ap (value_or x) g))
at_in (x ∷ xs) (suc k) q g = inr (at_in xs k q g)

pub record IsContestable (members : List Member) (contest : ContestedPath) : Type 0 where
  pub name : IsName contest.path
  pub first : contest.rivals.first < length members
  pub second : contest.rivals.second < length members

pub contestable : (members : List Member) (contest : ContestedPath) → All (λ l. IsName l.path) (listings_of_members members) → first_contested_member_path_in_byte_order members ≡ Some contest → IsContestable members contest
unfolding first_contested_member_path_in_byte_order first_contested_path_in_byte_order claims_in
contestable members contest named e = by_path (first_path_without_owner_in_byte_order (member_beats members) (claims_of_listings_indexed_from 0 (listings_of_members members))) refl e
  where
    by_rivals : (path : List ℕ) → first_path_without_owner_in_byte_order (member_beats members) (claims_of_listings_indexed_from 0 (listings_of_members members)) ≡ Some path → (o : Option Rivals)
        → first_with_unbeaten_rival (member_beats members) (claimants (claims_of_listings_indexed_from 0 (listings_of_members members)) path) ≡ o → option_map (λ rivals. record { path = path; rivals = rivals }) o ≡ Some contest → IsContestable members contest
    by_rivals path f None g k = absurd (no_some contest k)
    by_rivals path f (Some r) g k =
        let is : record { path = path; rivals = r } ≡ contest = ap (value_or contest) k in
        let low = rivals_low (member_beats members) (length members) (claimants (claims_of_listings_indexed_from 0 (listings_of_members members)) path) r (claimants_low members path 0 (listings_of_members members) (each_placed members)) g in
        let place = found_from (λ p. is_none (owner_among (member_beats members) (claims_of_listings_indexed_from 0 (listings_of_members members)) p)) (sorted_by bytes_cmp (map (λ c. c.path) (claims_of_listings_indexed_from 0 (listings_of_members members)))) path f in
        let here = from_sorted path (map (λ c. c.path) (claims_of_listings_indexed_from 0 (listings_of_members members))) (at_in (sorted_by bytes_cmp (map (λ c. c.path) (claims_of_listings_indexed_from 0 (listings_of_members members)))) place.0 path place.1) in
        subst (IsContestable members) is (record { name = named_paths 0 (listings_of_members members) path (each_all (λ l. IsName l.path) (listings_of_members members) named) here; first = low.0; second = low.1 })

    by_path : (o : Option (List ℕ)) → first_path_without_owner_in_byte_order (member_beats members) (claims_of_listings_indexed_from 0 (listings_of_members members)) ≡ o → option_and_then (path_with_rivals_of_first_claimant (member_beats members) (claims_of_listings_indexed_from 0 (listings_of_members members))) o ≡ Some contest
        → IsContestable members contest
    by_path None f k = absurd (no_some contest k)
    by_path (Some path) f k = by_rivals path f (first_with_unbeaten_rival (member_beats members) (claimants (claims_of_listings_indexed_from 0 (listings_of_members members)) path)) refl k
