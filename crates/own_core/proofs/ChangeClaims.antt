-- What a search among the claims of a change finds.
use Rattle.std.proofs.Common.{◌≡◌, ℕ, suc, zero, ◌+◌, ◌<◌, ◌≤◌, Bool, true, false, List, [], ◌∷◌, length, map, Option, Some, None, refl, ap, sym, ◌∙◌, subst, arith, Less}
use Rattle.std.specs.Prelude.{IfSome, slice_get, slice_index_or, option_map, option_and_then, is_some, not, ◌&&◌, nat_le}
use Rattle.std.specs.List.{find}
use Rattle.std.specs.List.Sorted.{IsSorted}
use Rattle.std.specs.Ordering.{is_lt, ordering_reverse}
use Rattle.std.proofs.lemmas.Cmp.{nat_list_cmp_total}
use Rattle.std.proofs.lemmas.Bool.{le-leb}
use Rattle.base_core.specs.Listed.{AreSortedDistinctTexts}
use Rattle.base_core.specs.ByteOrder.{bytes_cmp}
use Rattle.base_core.proofs.Sorting.{sorted_up}
use Rattle.file_owners.specs.db_core.Members.{members_of_kept}
use Rattle.file_owners.specs.db_core.Seen.{members_of, packages_of}
use Rattle.path_claim_lists.specs.path_claims.Claims.{PathClaim, claim_cmp, is_claim_of_path}
use Rattle.path_claim_lists.specs.path_claims.Seen.{claim_seen}
use Rattle.path_claim_lists.specs.path_claims.declared.claim.Claim.{Claim}
use Rattle.path_claim_lists.proofs.path_claims.ClaimOrder.{claims_total}
use Rattle.path_claim_lists.proofs.path_claims.Places.{map_len, seen_at}
use Rattle.file_guard.specs.Listed.{DescribesEntry}
use Rattle.file_guard.specs.declared.compare.ListedFile.{ListedFile}
use Rattle.file_owners.specs.Owners.{claims_in}
use Rattle.own_core.specs.FileChange.{is_listed_after_change, old_file_entry, old_listings}
use Rattle.own_core.specs.ClaimEntries.{claim_entry}
use Rattle.own_core.specs.Fates.{DescribesEntryIfAny}
use Rattle.own_core.specs.Sides.{HasClaimsOfPackages, claims_after, claims_before, file_change_of}
use Rattle.own_core.specs.declared.claim_change.ClaimChange.{ClaimChange}
use Rattle.own_core.proofs.Listings.{claimed_is, old_entry_is, same_found}

-- claims whose paths rise are in order
abbrev rising : List PathClaim → Type 0
rising cs = AreSortedDistinctTexts (map (λ c. c.path) cs)

pub rising_sorted : (cs : List PathClaim) → AreSortedDistinctTexts (map (λ c. c.path) cs) → IsSorted claim_cmp cs
unfolding claim_cmp
rising_sorted cs up k d low high = not_back (slice_index_or cs k d).path (slice_index_or cs (k + 1) d).path (next cs up k d high)
  where
    paths_len : (cs : List PathClaim) → length (map (λ c. c.path) cs) ≡ length cs
    paths_len [] = refl
    paths_len (c ∷ cs) = ap suc (paths_len cs)

    path_at : (cs : List PathClaim) (i : ℕ) (d : PathClaim) → slice_index_or (map (λ c. c.path) cs) i d.path ≡ (slice_index_or cs i d).path
    path_at [] i d = refl
    path_at (c ∷ cs) zero d = refl
    path_at (c ∷ cs) (suc i) d = path_at cs i d

    next : (cs : List PathClaim) → AreSortedDistinctTexts (map (λ c. c.path) cs) → (k : ℕ) (d : PathClaim) → k + 1 < length cs → bytes_cmp (slice_index_or cs k d).path (slice_index_or cs (k + 1) d).path ≡ Less
    next cs up k d h =
        let n : length (map (λ c. c.path) cs) ≡ length cs = paths_len cs in
        (λ j. bytes_cmp (sym (path_at cs k d) j) (sym (path_at cs (k + 1) d) j)) ∙ up k (k + 1) d.path (omega arith) (omega (arith, n, h))

    not_back : (a b : List ℕ) → bytes_cmp a b ≡ Less → is_lt (bytes_cmp b a) ≡ false
    not_back a b e = ap is_lt (nat_list_cmp_total.antisymm b a ∙ ap ordering_reverse e)

pub before_sorted : (change : ClaimChange) → HasClaimsOfPackages change → IsSorted claim_cmp (claims_before change)
before_sorted change h = rising_sorted (claims_before change) h.before.rising

pub after_sorted : (change : ClaimChange) → HasClaimsOfPackages change → IsSorted claim_cmp (claims_after change)
after_sorted change h = subst (IsSorted claim_cmp) (sym h.after) (sorted_up claim_cmp claims_total (claims_in (members_of change.members.now)))

-- ---- before

pub old_entries : (change : ClaimChange) → HasClaimsOfPackages change → (path : List ℕ) → option_map (claim_entry (members_of_kept (packages_of change.db.now))) (find (is_claim_of_path path) (claims_before change)) ≡ old_file_entry (file_change_of change) path
unfolding old_listings
old_entries change h path =
    ap (option_map (claim_entry (members_of_kept (packages_of change.db.now)))) (h.before.each path ∙ same_found (claims_in (members_of_kept (packages_of change.db.now))) path)
    ∙ old_entry_is (file_change_of change) (members_of_kept (packages_of change.db.now)) refl path

-- the entry of the claim that was found
pub entry_found : (change : ClaimChange) → HasClaimsOfPackages change → (path : List ℕ) (listed : ListedFile) (xs : List Claim) (i : ℕ) (d : Claim) → xs ≡ change.before.now → i < length xs
    → option_and_then (slice_get (claims_before change)) (Some i) ≡ find (is_claim_of_path path) (claims_before change)
    → DescribesEntry listed (claim_entry (members_of_kept (packages_of change.db.now)) (claim_seen (slice_index_or xs i d))) → DescribesEntryIfAny (Some listed) (old_file_entry (file_change_of change) path)
entry_found change h path listed xs i d is l f e =
    subst (DescribesEntryIfAny (Some listed))
    (ap (option_map (claim_entry (members_of_kept (packages_of change.db.now)))) (sym (seen_at claim_seen xs i d l) ∙ (ap (λ ys. slice_get (map claim_seen ys) i) is ∙ f)) ∙ old_entries change h path) e

pub none_found : (change : ClaimChange) → HasClaimsOfPackages change → (path : List ℕ) → None ≡ find (is_claim_of_path path) (claims_before change) → DescribesEntryIfAny None (old_file_entry (file_change_of change) path)
none_found change h path f = subst (DescribesEntryIfAny None) (ap (option_map (claim_entry (members_of_kept (packages_of change.db.now)))) f ∙ old_entries change h path) tt

-- ---- after

pub claimed_after : (change : ClaimChange) → HasClaimsOfPackages change → (path : List ℕ) → is_some (find (is_claim_of_path path) (claims_after change)) ≡ is_listed_after_change (file_change_of change) path
claimed_after change h path = ap (λ cs. is_some (find (is_claim_of_path path) cs)) h.after ∙ claimed_is (file_change_of change) path

is_one : {X : Type 0} (xs : List X) (i : Option ℕ) (o : Option X) → ((k : ℕ) → i ≡ Some k → k < length xs) → option_and_then (slice_get xs) i ≡ o → is_some i ≡ is_some o
is_one xs None o h e = ap is_some e
is_one xs (Some k) o h e = some_there xs k o (h k refl) e
  where
    some_there : {X : Type 0} (xs : List X) (k : ℕ) (o : Option X) → k < length xs → slice_get xs k ≡ o → true ≡ is_some o
    some_there [] k o l e = absurd (omega arith)
    some_there (x ∷ xs) zero o l e = ap is_some e
    some_there (x ∷ xs) (suc k) o l e = some_there xs k o (omega arith) e

within : (i : Option ℕ) (n : ℕ) → IfSome i (λ k. k < n) → (k : ℕ) → i ≡ Some k → k < n
within None n h k e = absurd (cc)
within (Some m) n h k e = subst (λ j. j < n) (cc) h

-- whether a search finds one
pub found_or_not : (xs : List Claim) (path : List ℕ) (i : Option ℕ) → IfSome i (λ k. k < length xs) → option_and_then (slice_get (map claim_seen xs)) i ≡ find (is_claim_of_path path) (map claim_seen xs)
    → is_some i ≡ is_some (find (is_claim_of_path path) (map claim_seen xs))
found_or_not xs path i w f =
    is_one (map claim_seen xs) i (find (is_claim_of_path path) (map claim_seen xs)) (λ k e. (let n : length (map claim_seen xs) ≡ length xs = map_len claim_seen xs in let l = within i (length xs) w k e in omega (arith, n, l))) f

-- ---- the name beside

not_some : {X : Type 0} (i : Option X) (b : Bool) → is_some i ≡ not b → b ≡ not (is_some i)
not_some i true e = ap not (sym e)
not_some i false e = ap not (sym e)

pub free_there : (change : ClaimChange) → HasClaimsOfPackages change → (beside : List ℕ) (b : Bool) (i : Option ℕ) → is_some i ≡ not b → IfSome i (λ k. k < length change.after.now)
    → option_and_then (slice_get (claims_after change)) i ≡ find (is_claim_of_path beside) (claims_after change) → b ≡ not (is_listed_after_change (file_change_of change) beside)
free_there change h beside b i e w f =
    not_some i b e ∙ ap not (found_or_not change.after.now beside i w f ∙ claimed_after change h beside)

pub short_and : (n : ℕ) (a b : Bool) → n ≤ 1024 → a ≡ b → a ≡ (nat_le n 1024 && b)
short_and n a b l e = e ∙ sym (ap (λ t. t && b) (le-leb n 1024 l))

-- whether a package lists the path after the change
pub claimed_there : (change : ClaimChange) → HasClaimsOfPackages change → (path : List ℕ) (b : Bool) (i : Option ℕ) → is_some i ≡ b → IfSome i (λ k. k < length change.after.now)
    → option_and_then (slice_get (claims_after change)) i ≡ find (is_claim_of_path path) (claims_after change) → is_listed_after_change (file_change_of change) path ≡ b
claimed_there change h path b i e w f = sym (found_or_not change.after.now path i w f ∙ claimed_after change h path) ∙ e

pub left_by : (claimed beside : Bool) → claimed ≡ true → false ≡ (not claimed && not beside)
left_by claimed beside e = sym (ap (λ t. not t && not beside) e)

pub left_by_not : (claimed beside b : Bool) → claimed ≡ false → b ≡ beside → not b ≡ (not claimed && not beside)
left_by_not claimed beside b e h = ap not h ∙ sym (ap (λ t. not t && not beside) e)
