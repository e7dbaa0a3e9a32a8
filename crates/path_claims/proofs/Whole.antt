-- Sorted claims are the claims of the list of all, and so are their owners.
use Rattle.std.proofs.Common.{◌≡◌, ℕ, suc, zero, ◌<◌, Bool, true, false, cond, List, [], ◌∷◌, length, map, Option, Some, None, refl, ap, sym, ◌∙◌, subst, arith}
use Rattle.std.specs.Prelude.{is_none, if◌then◌else◌, option_and_then, option_map, slice_get}
use Rattle.std.specs.Ordering.{is_gt, is_lt}
use Rattle.std.specs.declared.cmp.Ordering.{Ordering}
use Rattle.std.specs.List.{filter, find}
use Rattle.std.specs.List.Sorted.{IsSorted, ties}
use Rattle.base_core.specs.ByteOrder.{bytes_cmp}
use Rattle.base_core.specs.Sorted.{sorted_by, with_element_inserted}
use Rattle.base_core.proofs.Sorting.{sort_seen, sorted_up, stable, stable_in_order}
use Rattle.base_core.proofs.Orderings.{names_total}
use Rattle.path_claims.specs.Claims.{AreNumberedByPlace, ContestedPath, PathClaim, claim_cmp, claimants, path_with_rivals_of_first_claimant, first_contested_path_in_byte_order, is_owning_member, is_claim_of_path, is_claim_of_owner, owner_among}
use Rattle.path_claims.specs.Contest.{first_with_unbeaten_rival, member_beating_all_others}
use Rattle.path_claims.proofs.ClaimOrder.{claims_total}
use Rattle.path_claims.proofs.Marks.{AreAlike}
use Rattle.path_claims.proofs.Owned.{ties_path}
use Rattle.path_claims.proofs.Places.{no_some, value_or}
use Rattle.path_claims.proofs.Runs.{filter_ext}

-- ---- the elements stay

module _ {X : Type 0} (cmp : X → X → Ordering) where
  new_in : (x : X) (ys : List X) → (k : ℕ) × (slice_get (with_element_inserted cmp x ys) k ≡ Some x)
  new_in x [] = (zero, refl)
  new_in x (y ∷ ys) = go (is_gt (cmp x y)) (new_in x ys)
    where
      go : (b : Bool) → (k : ℕ) × (slice_get (with_element_inserted cmp x ys) k ≡ Some x) → (k : ℕ) × (slice_get (if b then y ∷ with_element_inserted cmp x ys else x ∷ y ∷ ys) k ≡ Some x)
      go true h = (suc h.0, h.1)
      go false h = (zero, refl)

  old_in : (x : X) (ys : List X) (z : X) (i : ℕ) → slice_get ys i ≡ Some z → (k : ℕ) × (slice_get (with_element_inserted cmp x ys) k ≡ Some z)
  old_in x [] z i g = absurd (no_some z g)
  old_in x (y ∷ ys) z zero g = go (is_gt (cmp x y))
    where
      go : (b : Bool) → (k : ℕ) × (slice_get (if b then y ∷ with_element_inserted cmp x ys else x ∷ y ∷ ys) k ≡ Some z)
      go true = (zero, g)
      go false = (suc zero, g)
  old_in x (y ∷ ys) z (suc i) g = go (is_gt (cmp x y)) (old_in x ys z i g)
    where
      go : (b : Bool) → (k : ℕ) × (slice_get (with_element_inserted cmp x ys) k ≡ Some z) → (k : ℕ) × (slice_get (if b then y ∷ with_element_inserted cmp x ys else x ∷ y ∷ ys) k ≡ Some z)
      go true h = (suc h.0, h.1)
      go false h = (suc (suc i), g)

  pub in_sorted : (xs : List X) (z : X) (i : ℕ) → slice_get xs i ≡ Some z → (k : ℕ) × (slice_get (sorted_by cmp xs) k ≡ Some z)
  in_sorted [] z i g = absurd (no_some z g)
  in_sorted (x ∷ xs) z zero g = subst (λ v. (k : ℕ) × (slice_get (with_element_inserted cmp x (sorted_by cmp xs)) k ≡ Some v)) (ap (value_or x) g) (new_in x (sorted_by cmp xs))
  in_sorted (x ∷ xs) z (suc i) g = let h = in_sorted xs z i g in old_in x (sorted_by cmp xs) z h.0 h.1

  -- back to the list: the new element, or one of the others
  back_from : (x : X) (ys : List X) (z : X) (k : ℕ) → slice_get (with_element_inserted cmp x ys) k ≡ Some z → (xs : List X) → ((i : ℕ) → slice_get ys i ≡ Some z → (m : ℕ) × (slice_get xs m ≡ Some z)) → (m : ℕ) × (slice_get (x ∷ xs) m ≡ Some z)
  back_from x [] z zero g xs f = (zero, g)
  back_from x [] z (suc k) g xs f = absurd (no_some z g)
  back_from x (y ∷ ys) z k g xs f = go (is_gt (cmp x y)) k (λ n h. back_from x ys z n h xs (λ i e. f (suc i) e)) g
    where
      later : (m : ℕ) × (slice_get xs m ≡ Some z) → (m : ℕ) × (slice_get (x ∷ xs) m ≡ Some z)
      later h = (suc h.0, h.1)

      go : (b : Bool) (k : ℕ) → ((n : ℕ) → slice_get (with_element_inserted cmp x ys) n ≡ Some z → (m : ℕ) × (slice_get (x ∷ xs) m ≡ Some z)) → slice_get (if b then y ∷ with_element_inserted cmp x ys else x ∷ y ∷ ys) k ≡ Some z → (m : ℕ) × (slice_get (x ∷ xs) m ≡ Some z)
      go true zero r h = later (f zero h)
      go true (suc k) r h = r k h
      go false zero r h = (zero, h)
      go false (suc k) r h = later (f k h)

  pub from_sorted : (xs : List X) (z : X) (k : ℕ) → slice_get (sorted_by cmp xs) k ≡ Some z → (m : ℕ) × (slice_get xs m ≡ Some z)
  from_sorted [] z k g = absurd (no_some z g)
  from_sorted (x ∷ xs) z k g = back_from x (sorted_by cmp xs) z k g xs (λ i h. from_sorted xs z i h)

  len_with : (x : X) (ys : List X) → length (with_element_inserted cmp x ys) ≡ suc (length ys)
  len_with x [] = refl
  len_with x (y ∷ ys) = go (is_gt (cmp x y)) (len_with x ys)
    where
      go : (b : Bool) → length (with_element_inserted cmp x ys) ≡ suc (length ys) → length (if b then y ∷ with_element_inserted cmp x ys else x ∷ y ∷ ys) ≡ suc (suc (length ys))
      go true h = ap suc h
      go false h = refl

  pub len_sorted : (xs : List X) → length (sorted_by cmp xs) ≡ length xs
  len_sorted [] = refl
  len_sorted (x ∷ xs) = len_with x (sorted_by cmp xs) ∙ ap suc (len_sorted xs)

-- ---- claims by their numbers

within_by : {X : Type 0} (xs : List X) (i : ℕ) (x : X) → slice_get xs i ≡ Some x → i < length xs
within_by [] i x g = absurd (no_some x g)
within_by (y ∷ xs) zero x g = omega arith
within_by (y ∷ xs) (suc i) x g = let r = within_by xs i x g in omega arith

-- a sorted claim stands at its number in the list of all
by_number : (all cs : List PathClaim) → AreNumberedByPlace all → cs ≡ sorted_by claim_cmp all → (j : ℕ) (c : PathClaim) → slice_get cs j ≡ Some c → slice_get all c.number ≡ Some c
by_number all cs n s j c g =
    let h = from_sorted claim_cmp all c j (ap (λ xs. slice_get xs j) (sym s) ∙ g) in
    ap (slice_get all) (n h.0 c h.1) ∙ h.1

pub numbers_below : (all cs : List PathClaim) → AreNumberedByPlace all → cs ≡ sorted_by claim_cmp all → (m : ℕ) → length cs ≡ m → (j : ℕ) (c : PathClaim) → slice_get cs j ≡ Some c → c.number < m
numbers_below all cs n s m l j c g =
    let e : length all ≡ m = sym (len_sorted claim_cmp all) ∙ (ap length (sym s) ∙ l) in
    subst (λ k. c.number < k) e (within_by all c.number c (by_number all cs n s j c g))

pub map_at : {X Y : Type 0} (f : X → Y) (xs : List X) (i : ℕ) (x : X) → slice_get xs i ≡ Some x → slice_get (map f xs) i ≡ Some (f x)
map_at f [] i x g = absurd (no_some x g)
map_at f (z ∷ xs) zero x g = ap (λ v. Some (f v)) (ap (value_or z) g)
map_at f (z ∷ xs) (suc i) x g = map_at f xs i x g

mapped : {X Y : Type 0} (f : X → Y) (xs : List X) (ys : List Y) (i : ℕ) (x : X) (y : Y) → ys ≡ map f xs → slice_get xs i ≡ Some x → slice_get ys i ≡ Some y → y ≡ f x
mapped f xs ys i x y e g h = ap (value_or y) (sym h ∙ (ap (λ l. slice_get l i) e ∙ map_at f xs i x g))

-- claims of one number are one claim, and so have one owner
pub alike : (f : PathClaim → Option ℕ) (all cs : List PathClaim) (os : List (Option ℕ)) → AreNumberedByPlace all → cs ≡ sorted_by claim_cmp all → os ≡ map f cs → AreAlike cs os
alike f all cs os n s e j k c d o p g a h b q =
    let one : c ≡ d = ap (value_or c) (sym (by_number all cs n s j c g) ∙ (ap (slice_get all) q ∙ by_number all cs n s k d h)) in
    ap (is_owning_member c.member) (mapped f cs os j c o e g a) ∙ (ap (λ v. is_owning_member v.member (f v)) one ∙ sym (ap (is_owning_member d.member) (mapped f cs os k d p e h b)))

-- ---- each path has the claimants that it has in the list of all

pub same_claimants : (all cs : List PathClaim) → cs ≡ sorted_by claim_cmp all → (path : List ℕ) → claimants cs path ≡ claimants all path
same_claimants all cs s path =
    let z : PathClaim = record { path = path; member = 0; folder = 0; file = 0; number = 0 } in
    ap (map (λ c. c.member)) (ap (filter (is_claim_of_path path)) s
    ∙ (sym (filter_ext (ties (λ x y. is_lt (claim_cmp x y)) z) (is_claim_of_path path) (ties_path z) (sorted_by claim_cmp all))
    ∙ (stable_in_order claim_cmp claims_total z all ∙ filter_ext (ties (λ x y. is_lt (claim_cmp x y)) z) (is_claim_of_path path) (ties_path z) all)))

pub same_owners : (beats : ℕ → ℕ → Bool) (all cs : List PathClaim) → cs ≡ sorted_by claim_cmp all → (os : List (Option ℕ)) → os ≡ map (λ c. owner_among beats cs c.path) cs → os ≡ map (λ c. owner_among beats all c.path) cs
same_owners beats all cs s os e = e ∙ go cs
  where
    go : (xs : List PathClaim) → map (λ c. owner_among beats cs c.path) xs ≡ map (λ c. owner_among beats all c.path) xs
    go [] = refl
    go (x ∷ xs) = λ j. member_beating_all_others beats (same_claimants all cs s x.path j) ∷ go xs j

-- ---- the flags

lists_same : {X Y : Type 0} (g : X → Y) (xs : List X) (ys : List Y) → length ys ≡ length xs → ((k : ℕ) (x : X) → slice_get xs k ≡ Some x → slice_get ys k ≡ Some (g x)) → ys ≡ map g xs
lists_same g [] [] l h = refl
lists_same g [] (y ∷ ys) l h = absurd (omega arith)
lists_same g (x ∷ xs) [] l h = absurd (omega arith)
lists_same g (x ∷ xs) (y ∷ ys) l h = λ j. value_or y (h zero x refl j) ∷ lists_same g xs ys (omega arith) (λ k z e. h (suc k) z e) j

pub flags_are : (beats : ℕ → ℕ → Bool) (all cs : List PathClaim) (os : List (Option ℕ)) (flags : List Bool) → AreNumberedByPlace all → cs ≡ sorted_by claim_cmp all
    → os ≡ map (λ c. owner_among beats cs c.path) cs → (m : ℕ) → length flags ≡ m → length cs ≡ m
    → ((j : ℕ) (c : PathClaim) (o : Option ℕ) → slice_get cs j ≡ Some c → slice_get os j ≡ Some o → slice_get flags c.number ≡ Some (is_owning_member c.member o))
    → flags ≡ map (is_claim_of_owner beats all) all
flags_are beats all cs os flags n s e m l k marked =
    lists_same (is_claim_of_owner beats all) all flags (l ∙ (sym k ∙ (ap length s ∙ len_sorted claim_cmp all))) at
  where
    at : (i : ℕ) (x : PathClaim) → slice_get all i ≡ Some x → slice_get flags i ≡ Some (is_claim_of_owner beats all x)
    at i x g =
        let h = in_sorted claim_cmp all x i g in
        let here : slice_get cs h.0 ≡ Some x = ap (λ xs. slice_get xs h.0) s ∙ h.1 in
        let owner : slice_get os h.0 ≡ Some (owner_among beats all x.path) = ap (λ xs. slice_get xs h.0) (same_owners beats all cs s os e) ∙ map_at (λ c. owner_among beats all c.path) cs h.0 x here in
        ap (slice_get flags) (sym (n i x g)) ∙ marked h.0 x (owner_among beats all x.path) here owner

-- ---- the contested path

pub paths_in_order : (all : List PathClaim) → map (λ c. c.path) (sorted_by claim_cmp all) ≡ sorted_by bytes_cmp (map (λ c. c.path) all)
unfolding claim_cmp
paths_in_order all = sort_seen (λ c. c.path) bytes_cmp names_total all (sorted_by claim_cmp all) (sorted_up claim_cmp claims_total all) (stable claim_cmp claims_total all)

pub contested_is : (beats : ℕ → ℕ → Bool) (all cs : List PathClaim) (o : Option ContestedPath) → cs ≡ sorted_by claim_cmp all
    → o ≡ option_and_then (path_with_rivals_of_first_claimant beats cs) (find (λ path. is_none (owner_among beats cs path)) (map (λ c. c.path) cs))
    → o ≡ first_contested_path_in_byte_order beats all
unfolding first_contested_path_in_byte_order
contested_is beats all cs o s e =
    e ∙ (and_ext (find (λ path. is_none (owner_among beats cs path)) (map (λ c. c.path) cs))
    ∙ ap (option_and_then (path_with_rivals_of_first_claimant beats all)) (find_ext (map (λ c. c.path) cs) ∙ ap (find (λ path. is_none (owner_among beats all path))) (paths_sorted all cs s)))
  where
    and_ext : (p : Option (List ℕ)) → option_and_then (path_with_rivals_of_first_claimant beats cs) p ≡ option_and_then (path_with_rivals_of_first_claimant beats all) p
    and_ext None = refl
    and_ext (Some path) = ap (λ ms. option_map (λ rivals. record { path = path; rivals = rivals }) (first_with_unbeaten_rival beats ms)) (same_claimants all cs s path)

    find_ext : (ps : List (List ℕ)) → find (λ path. is_none (owner_among beats cs path)) ps ≡ find (λ path. is_none (owner_among beats all path)) ps
    find_ext [] = refl
    find_ext (p ∷ ps) = λ j. cond (is_none (member_beating_all_others beats (same_claimants all cs s p j))) (Some p) (find_ext ps j)

    paths_sorted : (all cs : List PathClaim) → cs ≡ sorted_by claim_cmp all → map (λ c. c.path) cs ≡ sorted_by bytes_cmp (map (λ c. c.path) all)
    paths_sorted all cs s = ap (map (λ c. c.path)) s ∙ paths_in_order all

pub is_sorted : (all cs : List PathClaim) → cs ≡ sorted_by claim_cmp all → IsSorted claim_cmp cs
is_sorted all cs s = subst (IsSorted claim_cmp) (sym s) (sorted_up claim_cmp claims_total all)
