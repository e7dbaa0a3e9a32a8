-- The run of a path is all that claims it, and so has its owner.
use Rattle.std.proofs.Common.{◌≡◌, ℕ, suc, zero, ◌+◌, ◌<◌, ◌≤◌, Bool, true, false, List, [], ◌∷◌, ◌++◌, length, map, drop, take, Option, Some, None, refl, ap, sym, ◌∙◌, arith, true≢false}
use Rattle.std.specs.Prelude.{not, ◌&&◌, slice_get, bytes_eq}
use Rattle.std.specs.Cmp.Lexicographic.{texts_ties, bytes_decides}
use Rattle.std.specs.List.{filter}
use Rattle.std.specs.List.Sorted.{IsSorted, ties}
use Rattle.std.specs.Ordering.{is_eq, is_lt, ordering_reverse}
use Rattle.std.specs.declared.cmp.Ordering.{Ordering}
use Rattle.std.specs.declared.cmp.Ordering.TheVariants.{Less, Equal, Greater}
use Rattle.std.proofs.lemmas.Cmp.{nat_list_cmp_total}
use Rattle.std.proofs.lemmas.Bool.{not-true, not-false}
use Rattle.base_core.specs.ByteOrder.{bytes_cmp}
use Rattle.base_core.proofs.Sorting.{ranks, rises_sorted}
use Rattle.path_claims.specs.Claims.{PathClaim, claim_cmp, claimants, is_claim_of_path, owner_among}
use Rattle.path_claims.specs.Contest.{member_beating_all_others}
use Rattle.path_claims.specs.Runs.{differ_in_path, is_first_of_path, passing_prefix}
use Rattle.path_claims.specs.Seen.{claim_seen}
use Rattle.path_claims.specs.declared.claim.Claim.{Claim}
use Rattle.path_claims.proofs.ClaimOrder.{claims_total}
use Rattle.path_claims.proofs.Places.{no_some, value_or}
use Rattle.path_claims.proofs.Runs.{filter_ext, run_ext, run_is_all}

tied_by : (r : Ordering) → (not (is_lt (ordering_reverse r)) && not (is_lt r)) ≡ is_eq r
tied_by Less = refl
tied_by Equal = refl
tied_by Greater = refl

-- claims tie where their paths are one
pub ties_path : (z x : PathClaim) → ties (λ x y. is_lt (claim_cmp x y)) z x ≡ is_claim_of_path z.path x
unfolding claim_cmp
ties_path z x =
    ap (λ r. not (is_lt r) && not (is_lt (bytes_cmp x.path z.path))) (nat_list_cmp_total.antisymm z.path x.path)
    ∙ (tied_by (bytes_cmp x.path z.path) ∙ sym (texts_ties x.path z.path))

pub all_of_path : (cs : List PathClaim) → IsSorted claim_cmp cs → (i : ℕ) (c : PathClaim) → slice_get cs i ≡ Some c → is_first_of_path cs i ≡ true
    → filter (is_claim_of_path c.path) cs ≡ passing_prefix (is_claim_of_path c.path) (drop i cs)
all_of_path cs up i c g s =
    let lt : PathClaim → PathClaim → Bool = λ x y. is_lt (claim_cmp x y) in
    sym (filter_ext (ties lt c) (is_claim_of_path c.path) (ties_path c) cs)
    ∙ (run_is_all lt (ranks claim_cmp claims_total) cs (rises_sorted lt (ranks claim_cmp claims_total) cs up) i c g (apart i c g s)
    ∙ run_ext (ties lt c) (is_claim_of_path c.path) (ties_path c) (drop i cs))
  where
    apart : (i : ℕ) (c : PathClaim) → slice_get cs i ≡ Some c → is_first_of_path cs i ≡ true → (j : ℕ) (y : PathClaim) → suc j ≡ i → slice_get cs j ≡ Some y → ties (λ x y. is_lt (claim_cmp x y)) c y ≡ false
    apart zero c g s j y e h = absurd (omega arith)
    apart (suc i) c g s j y e h =
        let is : j ≡ i = omega arith in
        let k : slice_get cs i ≡ Some y = ap (slice_get cs) (sym is) ∙ h in
        ties_path c y ∙ not-true (bytes_eq y.path c.path) (sym (λ n. differ_in_path (k n) (g n)) ∙ s)

pub map_seen : {X Y Z : Type 0} (f : X → Y) (g : Y → Z) (xs : List X) → map g (map f xs) ≡ map (λ x. g (f x)) xs
map_seen f g [] = refl
map_seen f g (x ∷ xs) = ap (λ r. g (f x) ∷ r) (map_seen f g xs)

-- the members of the run that begins at a claim are all that claim its path
pub run_claimants : (xs run : List Claim) (i : ℕ) → IsSorted claim_cmp (map claim_seen xs) → is_first_of_path (map claim_seen xs) i ≡ true
    → ((c : PathClaim) → slice_get (map claim_seen xs) i ≡ Some c → map claim_seen run ≡ passing_prefix (is_claim_of_path c.path) (drop i (map claim_seen xs)))
    → (c : PathClaim) → slice_get (map claim_seen xs) i ≡ Some c → map (λ c. c.member) run ≡ claimants (map claim_seen xs) c.path
run_claimants xs run i up s h c g =
    sym (map_seen claim_seen (λ c. c.member) run)
    ∙ ap (map (λ c. c.member)) (h c g ∙ sym (all_of_path (map claim_seen xs) up i c g s))

-- the winner of the run that begins at a claim owns its path
pub run_owner : (beats : ℕ → ℕ → Bool) (xs run : List Claim) (i : ℕ) (o : Option ℕ) → IsSorted claim_cmp (map claim_seen xs) → true ≡ is_first_of_path (map claim_seen xs) i
    → ((c : PathClaim) → slice_get (map claim_seen xs) i ≡ Some c → map claim_seen run ≡ passing_prefix (is_claim_of_path c.path) (drop i (map claim_seen xs)))
    → o ≡ member_beating_all_others beats (map (λ c. c.member) run)
    → (c : PathClaim) → slice_get (map claim_seen xs) i ≡ Some c → o ≡ owner_among beats (map claim_seen xs) c.path
run_owner beats xs run i o up s h w c g =
    w ∙ ap (member_beating_all_others beats) (run_claimants xs run i up (sym s) h c g)

-- a claim of the path before has the owner before
pub same_owner : (beats : ℕ → ℕ → Bool) (cs : List PathClaim) (i : ℕ) (o : Option ℕ) → false ≡ is_first_of_path cs i
    → ((j : ℕ) (c : PathClaim) → j + 1 ≡ i → slice_get cs j ≡ Some c → o ≡ owner_among beats cs c.path)
    → (c : PathClaim) → slice_get cs i ≡ Some c → o ≡ owner_among beats cs c.path
same_owner beats cs zero o s h c g = absurd (true≢false (sym s))
same_owner beats cs (suc i) o s h c g = go (slice_get cs i) refl
  where
    go : (b : Option PathClaim) → slice_get cs i ≡ b → o ≡ owner_among beats cs c.path
    go None e = absurd (true≢false (sym (s ∙ (λ n. differ_in_path (e n) (g n)))))
    go (Some y) e =
        let one : y.path ≡ c.path = (bytes_decides y.path c.path).0 (not-false (bytes_eq y.path c.path) (sym (s ∙ (λ n. differ_in_path (e n) (g n))))) in
        h i y (omega arith) e ∙ ap (owner_among beats cs) one

-- ---- the list of owners, one more

no_more_left : {X : Type 0} (xs : List X) (n : ℕ) → length xs ≤ n → take n xs ≡ xs
no_more_left [] zero l = refl
no_more_left [] (suc n) l = refl
no_more_left (x ∷ xs) zero l = absurd (omega arith)
no_more_left (x ∷ xs) (suc n) l = ap (λ r. x ∷ r) (no_more_left xs n (omega arith))

one_more : {X Y : Type 0} (f : X → Y) (xs : List X) (n : ℕ) (z : X) → slice_get xs n ≡ Some z → map f (take (suc n) xs) ≡ map f (take n xs) ++ f z ∷ []
one_more f [] n z g = absurd (no_some z g)
one_more f (x ∷ xs) zero z g = ap (λ v. f v ∷ []) (ap (value_or x) g)
one_more f (x ∷ xs) (suc n) z g = ap (λ r. f x ∷ r) (one_more f xs n z g)

pub owners_more : {Y : Type 0} (f : PathClaim → Y) (cs : List PathClaim) (i : ℕ) (o : Y) (old new : List Y) → i < length cs
    → ((c : PathClaim) → slice_get cs i ≡ Some c → o ≡ f c) → old ≡ map f (take i cs) → new ≡ old ++ o ∷ []
    → new ≡ map f (take (i + 1) cs)
owners_more f cs i o old new l h e n = go (slice_get cs i) refl
  where
    s : i + 1 ≡ suc i
    s = omega arith

    go : (b : Option PathClaim) → slice_get cs i ≡ b → new ≡ map f (take (i + 1) cs)
    go None g = absurd (past cs i l g)
      where
        past : (cs : List PathClaim) (i : ℕ) → i < length cs → slice_get cs i ≡ None → ⊥
        past [] i l g = omega arith
        past (x ∷ cs) zero l g = no_some x (sym g)
        past (x ∷ cs) (suc i) l g = past cs i (omega arith) g
    go (Some z) g = n ∙ ((λ j. e j ++ h z g j ∷ []) ∙ (sym (one_more f cs i z g) ∙ ap (λ m. map f (take m cs)) (sym s)))

pub owners_whole : {Y : Type 0} (f : PathClaim → Y) (cs : List PathClaim) (n : ℕ) (ys : List Y) → length cs ≤ n → ys ≡ map f (take n cs) → ys ≡ map f cs
owners_whole f cs n ys l h = h ∙ ap (map f) (no_more_left cs n l)

-- the owner that was found is that of the claim passed
pub owner_passed : {Y : Type 0} (f : PathClaim → Y) (cs : List PathClaim) (i : ℕ) (o : Y)
    → ((c : PathClaim) → slice_get cs i ≡ Some c → o ≡ f c)
    → (j : ℕ) (c : PathClaim) → j + 1 ≡ i + 1 → slice_get cs j ≡ Some c → o ≡ f c
owner_passed f cs i o h j c e g =
    let is : j ≡ i = omega arith in
    h c (ap (slice_get cs) (sym is) ∙ g)
