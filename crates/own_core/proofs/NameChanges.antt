-- The change of names that the program asks of is the change's.
use Rattle.std.proofs.Common.{◌≡◌, ℕ, ◌+◌, Bool, true, false, cond, List, [], ◌∷◌, ◌++◌, map, Option, Some, None, refl, ap, sym, ◌∙◌, true≢false}
use Rattle.std.specs.Prelude.{◌&&◌, ◌||◌, not, option_map, option_and_then, is_some, bytes_eq, if◌then◌else◌}
use Rattle.std.specs.Cmp.Lexicographic.{bytes_decides}
use Rattle.std.specs.List.{filter, find, list_any}
use Rattle.std.specs.Ordering.{is_gt}
use Rattle.std.specs.declared.cmp.Ordering.{Ordering}
use Rattle.base_core.specs.Files.{Files}
use Rattle.base_core.specs.Tree.{TreeState}
use Rattle.adb_view.specs.Plain.{Plain}
use Rattle.base_core.specs.ByteOrder.{bytes_cmp}
use Rattle.base_core.specs.Sorted.{sorted_by, with_element_inserted}
use Rattle.base_core.proofs.Sorting.{Each}
use Rattle.base_core.proofs.Booleans.{or_swap}
use Rattle.base_core.proofs.AtName.{either_way}
use Rattle.file_owners.specs.db_core.Members.{Listing, Member, is_added, listings_of_members, members_of_kept}
use Rattle.file_owners.specs.db_core.Seen.{members_of}
use Rattle.path_claim_lists.specs.path_claims.Claims.{PathClaim, claim_cmp, is_claim_of_path}
use Rattle.path_claim_lists.specs.Once.{HasFirstClaimOfEachPath}
use Rattle.file_owners.specs.Owners.{claims_of_listings_indexed_from, claims_in}
use Rattle.own_core.specs.Fate.{apk_new_name}
use Rattle.own_core.specs.FileChange.{old_file_entry, was_listed}
use Rattle.own_core.specs.FilesAfter.{database_name, is_left_over_modified_file_kept, is_left_over_and_not_written, listing_written_as_apk_new_beside, is_modified_config_to_keep, path_of_apk_new_name, world_name}
use Rattle.own_core.specs.NamesAfter.{added_paths, is_released, counts_as_written, name_change}
use Rattle.own_core.specs.ClaimEntries.{claim_entry, is_added_at, is_added_if_any, is_of_added_owner}
use Rattle.own_core.specs.Fates.{claim_fate}
use Rattle.own_core.specs.Found.{results_for_claims}
use Rattle.own_core.specs.Going.{is_file_kept, is_apk_new_name_of}
use Rattle.own_core.specs.Parts.{AreFilesByFate, apk_new_claims_of, kept_claims_of, left_over_claims_of}
use Rattle.own_core.specs.Sides.{HasClaimsOfPackages, claims_after, claims_before, file_change_of}
use Rattle.own_core.specs.declared.claim_change.ClaimChange.{ClaimChange}
use Rattle.own_core.specs.declared.parts.Parts.{Parts}
use Rattle.own_core.proofs.ChangeClaims.{claimed_after}
use Rattle.own_core.proofs.Endings.{ending, found_front, front_of}
use Rattle.own_core.proofs.Listings.{IsPlaced, each_placed}
use Rattle.own_core.proofs.Meaning.{entries_are, going_is}
use Rattle.own_core.proofs.PartsMeaning.{before_each, before_up, beside_parts, kept_parts}

-- ---- whether some element passes

pub any_both : {X : Type 0} (p : X → Bool) (xs ys : List X) → list_any p (xs ++ ys) ≡ (list_any p xs || list_any p ys)
any_both p [] ys = refl
any_both p (x ∷ xs) ys = go (p x) (any_both p xs ys)
  where
    go : (b : Bool) → list_any p (xs ++ ys) ≡ (list_any p xs || list_any p ys) → (b || list_any p (xs ++ ys)) ≡ ((b || list_any p xs) || list_any p ys)
    go true h = refl
    go false h = h

any_with : {X : Type 0} (cmp : X → X → Ordering) (p : X → Bool) (x : X) (ys : List X) → list_any p (with_element_inserted cmp x ys) ≡ (p x || list_any p ys)
any_with cmp p x [] = refl
any_with cmp p x (y ∷ ys) = go (is_gt (cmp x y)) (any_with cmp p x ys)
  where
    go : (b : Bool) → list_any p (with_element_inserted cmp x ys) ≡ (p x || list_any p ys) → list_any p (if b then y ∷ with_element_inserted cmp x ys else x ∷ y ∷ ys) ≡ (p x || (p y || list_any p ys))
    go true h = ap (λ r. p y || r) h ∙ or_swap (p y) (p x) (list_any p ys)
    go false h = refl

pub any_sorted : {X : Type 0} (cmp : X → X → Ordering) (p : X → Bool) (xs : List X) → list_any p (sorted_by cmp xs) ≡ list_any p xs
any_sorted cmp p [] = refl
any_sorted cmp p (x ∷ xs) = any_with cmp p x (sorted_by cmp xs) ∙ ap (λ r. p x || r) (any_sorted cmp p xs)

any_of_kept : {X : Type 0} (g : X → List ℕ) (t : List ℕ → Bool) (p : X → Bool) (xs : List X) → list_any t (map g (filter p xs)) ≡ list_any (λ x. p x && t (g x)) xs
any_of_kept g t p [] = refl
any_of_kept g t p (x ∷ xs) = go (p x) (any_of_kept g t p xs)
  where
    go : (b : Bool) → list_any t (map g (filter p xs)) ≡ list_any (λ x. p x && t (g x)) xs → list_any t (map g (cond b (x ∷ filter p xs) (filter p xs))) ≡ ((b && t (g x)) || list_any (λ x. p x && t (g x)) xs)
    go true h = ap (λ r. t (g x) || r) h
    go false h = h

any_listing : (members : List Member) (t : List ℕ → Bool) (n : ℕ) (ls : List Listing) → Each (IsPlaced members) ls
    → list_any (λ c. is_added_at members c.member && t c.path) (claims_of_listings_indexed_from n ls) ≡ list_any (λ l. is_added l.member && t l.path) ls
any_listing members t n [] h = refl
any_listing members t n (l ∷ ls) h = (λ j. (ap is_added_if_any h.0.at j && t l.path) || any_listing members t (n + 1) ls h.1 j)

-- the paths that packages which come list
pub any_coming : (members : List Member) (t : List ℕ → Bool) (cs : List PathClaim) → cs ≡ sorted_by claim_cmp (claims_in members)
    → list_any t (map (λ c. c.path) (filter (λ c. is_added_at members c.member) cs)) ≡ list_any t (added_paths members)
unfolding claims_in
any_coming members t cs e =
    any_of_kept (λ c. c.path) t (λ c. is_added_at members c.member) cs
    ∙ (ap (list_any (λ c. is_added_at members c.member && t c.path)) e
    ∙ (any_sorted claim_cmp (λ c. is_added_at members c.member && t c.path) (claims_of_listings_indexed_from 0 (listings_of_members members))
    ∙ (any_listing members t 0 (listings_of_members members) (each_placed members)
    ∙ sym (any_of_kept (λ l. l.path) t (λ l. is_added l.member) (listings_of_members members)))))

-- ---- names beside

same_aside : (p q : List ℕ) → bytes_eq (p ++ ending) (apk_new_name q) ≡ bytes_eq p q
same_aside p q = go (bytes_eq (p ++ ending) (apk_new_name q)) (bytes_eq p q) refl refl
  where
    one : p ++ ending ≡ q ++ ending → p ≡ q
    one e = let same : Some p ≡ Some q = sym (front_of p) ∙ (ap path_of_apk_new_name e ∙ front_of q) in cc

    go : (s t : Bool) → bytes_eq (p ++ ending) (apk_new_name q) ≡ s → bytes_eq p q ≡ t → s ≡ t
    go true true e f = refl
    go true false e f = absurd (true≢false (sym ((bytes_decides p q).1 (one ((bytes_decides (p ++ ending) (apk_new_name q)).0 e))) ∙ f))
    go false true e f = absurd (true≢false (sym ((bytes_decides (p ++ ending) (apk_new_name q)).1 (ap (λ (r : List ℕ). r ++ ending) ((bytes_decides p q).0 f))) ∙ e))
    go false false e f = refl

any_aside : (p : List ℕ) (cs : List PathClaim) → list_any (bytes_eq (p ++ ending)) (map (λ c. apk_new_name c.path) cs) ≡ is_some (find (is_claim_of_path p) cs)
any_aside p [] = refl
any_aside p (c ∷ cs) = go (bytes_eq c.path p) (same_aside p c.path ∙ either_way p c.path) (any_aside p cs)
  where
    go : (b : Bool) → bytes_eq (p ++ ending) (apk_new_name c.path) ≡ b → list_any (bytes_eq (p ++ ending)) (map (λ c. apk_new_name c.path) cs) ≡ is_some (find (is_claim_of_path p) cs)
        → (bytes_eq (p ++ ending) (apk_new_name c.path) || list_any (bytes_eq (p ++ ending)) (map (λ c. apk_new_name c.path) cs)) ≡ is_some (cond b (Some c) (find (is_claim_of_path p) cs))
    go true e h = ap (λ t. t || list_any (bytes_eq (p ++ ending)) (map (λ c. apk_new_name c.path) cs)) e
    go false e h = ap (λ t. t || list_any (bytes_eq (p ++ ending)) (map (λ c. apk_new_name c.path) cs)) e ∙ h

none_aside : (name : List ℕ) → path_of_apk_new_name name ≡ None → (cs : List PathClaim) → list_any (bytes_eq name) (map (λ c. apk_new_name c.path) cs) ≡ false
none_aside name h [] = refl
none_aside name h (c ∷ cs) = go (bytes_eq name (apk_new_name c.path)) refl (none_aside name h cs)
  where
    go : (b : Bool) → bytes_eq name (apk_new_name c.path) ≡ b → list_any (bytes_eq name) (map (λ c. apk_new_name c.path) cs) ≡ false → (b || list_any (bytes_eq name) (map (λ c. apk_new_name c.path) cs)) ≡ false
    go true e rest = absurd (let off : None ≡ Some c.path = sym h ∙ (ap path_of_apk_new_name ((bytes_decides name (apk_new_name c.path)).0 e) ∙ front_of c.path) in cc)
    go false e rest = rest

pub any_beside : (name : List ℕ) (cs : List PathClaim) → list_any (bytes_eq name) (map (λ c. apk_new_name c.path) cs) ≡ is_apk_new_name_of cs name
any_beside name cs = go (path_of_apk_new_name name) refl
  where
    go : (o : Option (List ℕ)) → path_of_apk_new_name name ≡ o → list_any (bytes_eq name) (map (λ c. apk_new_name c.path) cs) ≡ is_some (option_and_then (λ path. find (is_claim_of_path path) cs) o)
    go None e = none_aside name e cs
    go (Some p) e = ap (λ n. list_any (bytes_eq n) (map (λ c. apk_new_name c.path) cs)) (found_front name p e) ∙ any_aside p cs

-- ---- the change of names

mapped_some : (f : PathClaim → Plain) (o : Option PathClaim) → is_some (option_map f o) ≡ is_some o
mapped_some f None = refl
mapped_some f (Some c) = refl

abbrev pub all_written : ClaimChange → List (List ℕ) → List (List ℕ)
all_written change besides =
    (database_name ∷ world_name ∷ []) ++ map (λ c. c.path) (filter (λ c. is_added_at (members_of change.members.now) c.member) (claims_after change)) ++ besides

module _ (change : ClaimChange) (claims : HasClaimsOfPackages change) (coming : List PathClaim) (firsts : HasFirstClaimOfEachPath (filter (is_of_added_owner (members_of change.members.now)) (claims_after change)) coming)
    (parts : Parts) (history : List TreeState) (are : AreFilesByFate change history coming parts) (files : Files)
    (fates_are : are.fates ≡ results_for_claims (claim_fate (file_change_of change)) files coming) (stays_are : are.stays ≡ results_for_claims (is_file_kept (file_change_of change)) files (left_over_claims_of change (apk_new_claims_of parts))) where
  written_is : (name : List ℕ) → list_any (bytes_eq name) (sorted_by bytes_cmp (all_written change (map (λ c. apk_new_name c.path) (apk_new_claims_of parts)))) ≡ counts_as_written (file_change_of change) files name
  unfolding counts_as_written
  written_is name =
      any_sorted bytes_cmp (bytes_eq name) (all_written change (map (λ c. apk_new_name c.path) (apk_new_claims_of parts)))
      ∙ (any_both (bytes_eq name) ((database_name ∷ world_name ∷ []) ++ map (λ c. c.path) (filter (λ c. is_added_at (members_of change.members.now) c.member) (claims_after change))) (map (λ c. apk_new_name c.path) (apk_new_claims_of parts))
      ∙ (λ j. front j || back j))
    where
      front : list_any (bytes_eq name) ((database_name ∷ world_name ∷ []) ++ map (λ c. c.path) (filter (λ c. is_added_at (members_of change.members.now) c.member) (claims_after change)))
          ≡ list_any (bytes_eq name) (database_name ∷ world_name ∷ added_paths (members_of change.members.now))
      front = ap (λ r. bytes_eq name database_name || (bytes_eq name world_name || r)) (any_coming (members_of change.members.now) (bytes_eq name) (claims_after change) claims.after)

      back : list_any (bytes_eq name) (map (λ c. apk_new_name c.path) (apk_new_claims_of parts)) ≡ is_some (option_and_then (listing_written_as_apk_new_beside (file_change_of change) files) (path_of_apk_new_name name))
      back = any_beside name (apk_new_claims_of parts) ∙ beside_parts change claims coming firsts parts history are files fates_are stays_are name

  goes_is : (name : List ℕ) → (is_some (find (is_claim_of_path name) (claims_before change))
      && not (is_some (find (is_claim_of_path name) (claims_after change)) || is_some (find (is_claim_of_path name) (kept_claims_of parts)))) ≡ is_released (file_change_of change) files name
  unfolding is_released is_left_over_modified_file_kept
  goes_is name =
      (λ j. listed j && not (claimed_after change claims name j || kept j))
    where
      listed : is_some (find (is_claim_of_path name) (claims_before change)) ≡ was_listed (file_change_of change) name
      listed = sym (mapped_some (claim_entry (members_of_kept (file_change_of change).old)) (find (is_claim_of_path name) (claims_before change)))
          ∙ ap is_some (entries_are (file_change_of change) files (claims_before change) (before_up change claims coming firsts parts history are files fates_are stays_are) (before_each change claims coming firsts parts history are files fates_are stays_are) (apk_new_claims_of parts) (beside_parts change claims coming firsts parts history are files fates_are stays_are) name)

      kept : is_some (find (is_claim_of_path name) (kept_claims_of parts)) ≡ (is_left_over_and_not_written (file_change_of change) files name && is_modified_config_to_keep (file_change_of change) name (files name) (old_file_entry (file_change_of change) name))
      kept = ap (λ cs. is_some (find (is_claim_of_path name) cs)) (kept_parts change claims coming firsts parts history are files fates_are stays_are)
          ∙ going_is (file_change_of change) files (claims_before change) (before_up change claims coming firsts parts history are files fates_are stays_are) (before_each change claims coming firsts parts history are files fates_are stays_are) (apk_new_claims_of parts) (beside_parts change claims coming firsts parts history are files fates_are stays_are) true name

  pub same_names : (counts lets : List ℕ → Bool) → ((name : List ℕ) → counts name ≡ list_any (bytes_eq name) (sorted_by bytes_cmp (all_written change (map (λ c. apk_new_name c.path) (apk_new_claims_of parts)))))
      → ((name : List ℕ) → lets name ≡ (is_some (find (is_claim_of_path name) (claims_before change)) && not (is_some (find (is_claim_of_path name) (claims_after change)) || is_some (find (is_claim_of_path name) (kept_claims_of parts)))))
      → record { counts_as_written = counts; does_release = lets } ≡ name_change (file_change_of change) files
  same_names counts lets c l = (λ j. record { counts_as_written = λ name. (c name ∙ written_is name) j; does_release = λ name. (l name ∙ goes_is name) j })
