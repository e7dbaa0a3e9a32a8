-- The claims that were gathered, their numbers, and who owns their paths.
use Rattle.std.proofs.Common.{◌≡◌, ℕ, suc, zero, ◌+◌, List, [], ◌∷◌, ◌++◌, length, map, Option, Some, refl, ap, sym, ◌∙◌, subst, arith}
use Rattle.std.specs.Prelude.{option_map, slice_get, IfOk, Result, Ok, Err}
use Rattle.std.specs.declared.alloc.AllocError.{AllocError}
use Rattle.base_core.specs.Sorted.{sorted_by}
use Rattle.db_core.specs.Members.{Listing, Member, listings_of_members}
use Rattle.path_claims.specs.Claims.{AreNumberedByPlace, PathClaim, claim_cmp, first_contested_path_in_byte_order, is_owning_member, is_claim_of_owner, owner_among}
use Rattle.path_claims.specs.ContestedSeen.{contested_seen}
use Rattle.path_claims.specs.Seen.{claim_seen}
use Rattle.path_claims.specs.declared.owner.Owners.{Owners}
use Rattle.path_claims.proofs.Places.{no_some, value_or}
use Rattle.file_owners.specs.Gathered.{claims_with_listings}
use Rattle.file_owners.specs.Owners.{indexed_claim_of_listing, claims_of_listings_indexed_from, claims_in, first_contested_member_path_in_byte_order, member_beats, owned_flags_of, owner_of_path}

joined : {X : Type 0} (xs : List X) (y : X) (ys : List X) → (xs ++ (y ∷ [])) ++ ys ≡ xs ++ (y ∷ ys)
joined [] y ys = refl
joined (x ∷ xs) y ys = ap (λ r. x ∷ r) (joined xs y ys)

one_longer : {X : Type 0} (xs : List X) (y : X) → length (xs ++ (y ∷ [])) ≡ length xs + 1
one_longer [] y = refl
one_longer (x ∷ xs) y = let r = one_longer xs y in omega arith

none_behind : {X : Type 0} (xs : List X) → xs ++ [] ≡ xs
none_behind [] = refl
none_behind (x ∷ xs) = ap (λ r. x ∷ r) (none_behind xs)

gathered : (cs : List PathClaim) (ls : List Listing) → claims_with_listings cs ls ≡ cs ++ claims_of_listings_indexed_from (length cs) ls
gathered cs [] = sym (none_behind cs)
gathered cs (l ∷ ls) =
    gathered (cs ++ (indexed_claim_of_listing (length cs) l ∷ [])) ls
    ∙ (ap (λ n. (cs ++ (indexed_claim_of_listing (length cs) l ∷ [])) ++ claims_of_listings_indexed_from n ls) (one_longer cs (indexed_claim_of_listing (length cs) l))
    ∙ joined cs (indexed_claim_of_listing (length cs) l) (claims_of_listings_indexed_from (length cs + 1) ls))

pub all_gathered : (members : List Member) → claims_with_listings [] (listings_of_members members) ≡ claims_in members
unfolding claims_in
all_gathered members = gathered [] (listings_of_members members)

-- ---- their numbers

numbered_from : (n : ℕ) (ls : List Listing) (i : ℕ) (c : PathClaim) → slice_get (claims_of_listings_indexed_from n ls) i ≡ Some c → c.number ≡ n + i
numbered_from n [] i c g = absurd (no_some c g)
numbered_from n (l ∷ ls) zero c g = let e : n ≡ c.number = ap (λ v. v.number) (ap (value_or c) g) in omega arith
numbered_from n (l ∷ ls) (suc i) c g = let r = numbered_from (n + 1) ls i c g in omega arith

pub claims_numbered : (members : List Member) → AreNumberedByPlace (claims_in members)
unfolding claims_in
claims_numbered members i c g = let r = numbered_from 0 (listings_of_members members) i c g in omega arith

-- ---- who owns a path

pub owner_is : (members : List Member) (path : List ℕ) → owner_among (member_beats members) (claims_in members) path ≡ owner_of_path members path
unfolding owner_of_path
owner_is members path = refl

owners_are : (members : List Member) (cs : List PathClaim) → map (λ c. owner_among (member_beats members) (claims_in members) c.path) cs ≡ map (λ c. owner_of_path members c.path) cs
unfolding owner_of_path
owners_are members cs = refl

flags_from : (f : List ℕ → Option ℕ) (n : ℕ) (ls : List Listing) → map (λ c. is_owning_member c.member (f c.path)) (claims_of_listings_indexed_from n ls) ≡ map (λ l. is_owning_member l.place (f l.path)) ls
flags_from f n [] = refl
flags_from f n (l ∷ ls) = ap (λ r. is_owning_member l.place (f l.path) ∷ r) (flags_from f (n + 1) ls)

owned_is : (members : List Member) → map (is_claim_of_owner (member_beats members) (claims_in members)) (claims_in members) ≡ owned_flags_of members
unfolding owned_flags_of owner_of_path
owned_is members =
    ap (map (is_claim_of_owner (member_beats members) (claims_in members))) (sym (all_gathered members) ∙ gathered [] (listings_of_members members))
    ∙ flags_from (owner_among (member_beats members) (claims_in members)) 0 (listings_of_members members)

-- ---- what was gathered

pub gathered_numbered : (members : List Member) (cs : List PathClaim) → cs ≡ claims_with_listings [] (listings_of_members members) → AreNumberedByPlace cs
gathered_numbered members cs e = subst AreNumberedByPlace (sym (e ∙ all_gathered members)) (claims_numbered members)

pub claims_seen : (members : List Member) (cs : List PathClaim) (r : Result Owners AllocError) → cs ≡ claims_with_listings [] (listings_of_members members)
    → IfOk r (λ found. map claim_seen found.claims.items ≡ sorted_by claim_cmp cs)
    → IfOk r (λ found. map claim_seen found.claims.items ≡ sorted_by claim_cmp (claims_in members))
claims_seen members cs (Err e) g h = h
claims_seen members cs (Ok found) g h = h ∙ ap (sorted_by claim_cmp) (g ∙ all_gathered members)

pub owners_seen : (members : List Member) (cs : List PathClaim) (r : Result Owners AllocError) → cs ≡ claims_with_listings [] (listings_of_members members)
    → IfOk r (λ found. found.owners.items ≡ map (λ c. owner_among (member_beats members) cs c.path) (map claim_seen found.claims.items))
    → IfOk r (λ found. found.owners.items ≡ map (λ c. owner_of_path members c.path) (map claim_seen found.claims.items))
owners_seen members cs (Err e) g h = h
owners_seen members cs (Ok found) g h =
    h ∙ ((λ j. map (λ c. owner_among (member_beats members) ((g ∙ all_gathered members) j) c.path) (map claim_seen found.claims.items)) ∙ owners_are members (map claim_seen found.claims.items))

pub owned_seen : (members : List Member) (cs : List PathClaim) (r : Result Owners AllocError) → cs ≡ claims_with_listings [] (listings_of_members members)
    → IfOk r (λ found. found.owned.items ≡ map (is_claim_of_owner (member_beats members) cs) cs)
    → IfOk r (λ found. found.owned.items ≡ owned_flags_of members)
owned_seen members cs (Err e) g h = h
owned_seen members cs (Ok found) g h =
    h ∙ ((λ j. map (is_claim_of_owner (member_beats members) ((g ∙ all_gathered members) j)) ((g ∙ all_gathered members) j)) ∙ owned_is members)

pub contested_seen_by : (members : List Member) (cs : List PathClaim) (r : Result Owners AllocError) → cs ≡ claims_with_listings [] (listings_of_members members)
    → IfOk r (λ found. option_map contested_seen found.contested ≡ first_contested_path_in_byte_order (member_beats members) cs)
    → IfOk r (λ found. option_map contested_seen found.contested ≡ first_contested_member_path_in_byte_order members)
unfolding first_contested_member_path_in_byte_order
contested_seen_by members cs (Err e) g h = h
contested_seen_by members cs (Ok found) g h = h ∙ ap (first_contested_path_in_byte_order (member_beats members)) (g ∙ all_gathered members)
