-- The lists of the program are the change's, over the files of the tree.
use Rattle.std.proofs.Common.{◌≡◌, ◌⊎◌, inl, inr, ℕ, Bool, true, false, cond, List, [], ◌∷◌, map, Option, Some, None, refl, ap, sym, ◌∙◌, subst, true≢false}
use Rattle.std.specs.Prelude.{◌&&◌, ◌||◌, option_map, option_and_then, bytes_eq, is_some, if◌then◌else◌, not}
use Rattle.std.specs.Cmp.Lexicographic.{bytes_decides}
use Rattle.std.specs.List.{filter, find, list_any}
use Rattle.base_core.specs.Files.{Files}
use Rattle.base_core.proofs.Rising as Names
use Rattle.base_core.specs.Sorted.{sorted_by}
use Rattle.file_owners.specs.db_core.Members.{Listing, is_added, listings_of_members, members_of_kept}
use Rattle.path_claim_lists.specs.path_claims.Claims.{PathClaim, claim_cmp, is_claim_of_path}
use Rattle.path_claim_lists.proofs.path_claims.Places.{no_some, value_or}
use Rattle.path_claim_lists.proofs.Firsts.{found_in, in_found, paths}
use Rattle.path_claim_lists.proofs.Lists.{found_passes}
use Rattle.file_owners.specs.Owners.{claims_in}
use Rattle.own_core.specs.Fate as Fates
use Rattle.own_core.specs.Fate.{fate_with_file_found, fate_of, goes_aside, goes_in, gives_way, is_protected_path}
use Rattle.own_core.specs.FileChange.{FileChange, added_owner_listing, if_member_added, is_listed_after_change, old_file_entry, old_listings, owner_listing, was_listed}
use Rattle.own_core.specs.FilesAfter.{if_written_as_apk_new, if_written_in_place, is_present_and_modified_from_entry, is_left_over_modified_file_kept, is_left_over_and_not_written, is_removed, is_listing_written_under_name, listing_written_as_apk_new_beside, is_modified_config_to_keep, path_of_apk_new_name, listing_written_under_name, listing_written_in_place}
use Rattle.std.specs.Option.{option_or}
use Rattle.own_core.specs.NamesAfter.{added_paths}
use Rattle.own_core.specs.PlanLists.{paths_with_apk_new_file, kept_left_over_paths_of, old_paths, removals_of}
use Rattle.own_core.proofs.ComingFiles.{no_owner}
use Rattle.own_core.specs.ClaimEntries.{claim_entry, is_of_added_owner}
use Rattle.own_core.specs.Fates.{claim_fate, are_equal_fates, are_equal_flags}
use Rattle.own_core.specs.Going.{is_file_kept, is_apk_new_name_of, is_path_left_over}
use Rattle.own_core.proofs.Listings.{GoTogether, IsClaimFor, coming_is, coming_placed, entry_of, old_entry_is, same_found}
use Rattle.own_core.proofs.NamesOnce.{found_kept, keep_if, kept_rises, same_names}

-- ---- what a path of the program's claims is

pub is_there : (cs : List PathClaim) (q : List ℕ) → Names.IsIn q (paths cs) → is_some (find (is_claim_of_path q) cs) ≡ true
is_there cs q here = ap is_some (found_in cs q here).1

pub there_is : (cs : List PathClaim) (q : List ℕ) → is_some (find (is_claim_of_path q) cs) ≡ true → Names.IsIn q (paths cs)
there_is cs q h = go (find (is_claim_of_path q) cs) refl h
  where
    go : (o : Option PathClaim) → find (is_claim_of_path q) cs ≡ o → is_some o ≡ true → Names.IsIn q (paths cs)
    go None e h = absurd (true≢false (sym h))
    go (Some c) e h = in_found cs q c e

-- ---- listings of paths

listing_in : (s : Listing → Bool) (ls : List Listing) (l : Listing) → find s ls ≡ Some l → is_added l.member ≡ true → Names.IsIn l.path (map (λ l. l.path) (filter (λ l. is_added l.member) ls))
listing_in s [] l e h = absurd (no_some l e)
listing_in s (k ∷ ls) l e h = go (s k) (is_added k.member) refl refl (λ f. listing_in s ls l f h) e
  where
    go : (a b : Bool) → s k ≡ a → is_added k.member ≡ b → (find s ls ≡ Some l → Names.IsIn l.path (map (λ l. l.path) (filter (λ l. is_added l.member) ls))) → cond a (Some k) (find s ls) ≡ Some l
        → Names.IsIn l.path (map (λ l. l.path) (cond b (k ∷ filter (λ l. is_added l.member) ls) (filter (λ l. is_added l.member) ls)))
    go true true p c rest f = inl (ap (λ x. x.path) (sym (ap (value_or k) f)))
    go true false p c rest f = absurd (true≢false (sym h ∙ (ap (λ x. is_added x.member) (sym (ap (value_or k) f)) ∙ c)))
    go false true p c rest f = inr (rest f)
    go false false p c rest f = rest f

listed_in : (ls : List Listing) (q : List ℕ) → is_some (find (λ l. bytes_eq l.path q) ls) ≡ true → Names.IsIn q (map (λ l. l.path) ls)
listed_in [] q h = absurd (true≢false (sym h))
listed_in (l ∷ ls) q h = go (bytes_eq l.path q) refl (listed_in ls q) h
  where
    go : (b : Bool) → bytes_eq l.path q ≡ b → (is_some (find (λ l. bytes_eq l.path q) ls) ≡ true → Names.IsIn q (map (λ l. l.path) ls)) → is_some (cond b (Some l) (find (λ l. bytes_eq l.path q) ls)) ≡ true → Names.IsIn q (map (λ l. l.path) (l ∷ ls))
    go true e rest h = inl (sym ((bytes_decides l.path q).0 e))
    go false e rest h = inr (rest h)

in_listed : (ls : List Listing) (q : List ℕ) → Names.IsIn q (map (λ l. l.path) ls) → is_some (find (λ l. bytes_eq l.path q) ls) ≡ true
in_listed [] q here = absurd here
in_listed (l ∷ ls) q here = go (bytes_eq l.path q) refl (in_listed ls q) here
  where
    go : (b : Bool) → bytes_eq l.path q ≡ b → (Names.IsIn q (map (λ l. l.path) ls) → is_some (find (λ l. bytes_eq l.path q) ls) ≡ true) → (q ≡ l.path) ⊎ Names.IsIn q (map (λ l. l.path) ls) → is_some (cond b (Some l) (find (λ l. bytes_eq l.path q) ls)) ≡ true
    go true e rest here = refl
    go false e rest (inl is) = absurd (true≢false (sym ((bytes_decides l.path q).1 (sym is)) ∙ e))
    go false e rest (inr old) = rest old

-- the owner that comes lists the path
pub coming_path : (change : FileChange) (q : List ℕ) (l : Listing) → added_owner_listing change q ≡ Some l → (l.path ≡ q) × (is_added l.member ≡ true)
coming_path change q l e =
    let f = coming_placed change q l e in
    let t = found_passes _ (listings_of_members change.members) l f.0 in
    ((bytes_decides l.path q).0 (first (bytes_eq l.path q) _ t), came (owner_listing change q) l e)
  where
    first : (a b : Bool) → (a && b) ≡ true → a ≡ true
    first true b h = refl
    first false b h = absurd (true≢false (sym h))

    came : (o : Option Listing) (l : Listing) → if_member_added o ≡ Some l → is_added l.member ≡ true
    came None l e = absurd (no_some l e)
    came (Some k) l e = go (is_added k.member) refl e
      where
        go : (b : Bool) → is_added k.member ≡ b → (if b then Some k else None) ≡ Some l → is_added l.member ≡ true
        go true c f = ap (λ x. is_added x.member) (sym (ap (value_or k) f)) ∙ c
        go false c f = absurd (no_some l f)

pub in_coming_paths : (change : FileChange) (q : List ℕ) → is_some (added_owner_listing change q) ≡ true → Names.IsIn q (added_paths change.members)
in_coming_paths change q h = go (added_owner_listing change q) refl h
  where
    go : (o : Option Listing) → added_owner_listing change q ≡ o → is_some o ≡ true → Names.IsIn q (added_paths change.members)
    go None e h = absurd (true≢false (sym h))
    go (Some l) e h =
        let p = coming_path change q l e in
        subst (λ x. Names.IsIn x (added_paths change.members)) p.0 (listing_in _ (listings_of_members change.members) l (coming_placed change q l e).0 p.1)

-- ---- fates

pub same_fate : (change : FileChange) (files : Files) (q : List ℕ) (l : Listing) (c : PathClaim) → added_owner_listing change q ≡ Some l → IsClaimFor l c → claim_fate change c (files c.path) ≡ fate_of change files l
unfolding fate_of
same_fate change files q l c e h =
    (λ j. fate_with_file_found change (h.path j) (claim_entry change.members c) (files (h.path j)))
    ∙ ap (λ entry. fate_with_file_found change l.path entry (files l.path)) (entry_of change.members l c (coming_placed change q l e).1 h)

module _ (change : FileChange) (files : Files) (coming : List PathClaim) (up : Names.Rises (paths coming))
    (each : (q : List ℕ) → find (is_claim_of_path q) coming ≡ find (is_claim_of_path q) (filter (is_of_added_owner change.members) (sorted_by claim_cmp (claims_in change.members)))) where
  pub together : (q : List ℕ) → GoTogether (added_owner_listing change q) (find (is_claim_of_path q) coming)
  together q = subst (GoTogether (added_owner_listing change q)) (sym (each q)) (coming_is change q)

  abbrev pub with_fate : Fates.AddedFileFate → List PathClaim
  with_fate f = filter (λ c. are_equal_fates f (claim_fate change c (files c.path))) coming

  aside_test : (l : Listing) (f : Fates.AddedFileFate) → is_some (if_written_as_apk_new l f) ≡ are_equal_fates goes_aside f
  aside_test l goes_in = refl
  aside_test l gives_way = refl
  aside_test l goes_aside = refl

  in_test : (l : Listing) (f : Fates.AddedFileFate) → is_some (if_written_in_place l f) ≡ are_equal_fates goes_in f
  in_test l goes_in = refl
  in_test l gives_way = refl
  in_test l goes_aside = refl

  some_if : (t : Bool) (c : PathClaim) → is_some (cond t (Some c) None) ≡ t
  some_if true c = refl
  some_if false c = refl

  pub laid_is : (q : List ℕ) → is_some (listing_written_as_apk_new_beside change files q) ≡ is_some (find (is_claim_of_path q) (with_fate goes_aside))
  laid_is q = go (added_owner_listing change q) (find (is_claim_of_path q) coming) refl refl (together q) ∙ sym (ap is_some (found_kept (λ c. are_equal_fates goes_aside (claim_fate change c (files c.path))) coming up q))
    where
      go : (a : Option Listing) (b : Option PathClaim) → added_owner_listing change q ≡ a → find (is_claim_of_path q) coming ≡ b → GoTogether a b
          → is_some (option_and_then (λ l. if_written_as_apk_new l (fate_of change files l)) a) ≡ is_some (keep_if (λ c. are_equal_fates goes_aside (claim_fate change c (files c.path))) b)
      go None None e f h = refl
      go None (Some c) e f h = absurd h
      go (Some l) None e f h = absurd h
      go (Some l) (Some c) e f h =
          aside_test l (fate_of change files l) ∙ (ap (are_equal_fates goes_aside) (sym (same_fate change files q l c e h)) ∙ sym (some_if (are_equal_fates goes_aside (claim_fate change c (files c.path))) c))

  pub in_is : (q : List ℕ) → is_some (listing_written_in_place change files q) ≡ is_some (find (is_claim_of_path q) (with_fate goes_in))
  in_is q = go (added_owner_listing change q) (find (is_claim_of_path q) coming) refl refl (together q) ∙ sym (ap is_some (found_kept (λ c. are_equal_fates goes_in (claim_fate change c (files c.path))) coming up q))
    where
      go : (a : Option Listing) (b : Option PathClaim) → added_owner_listing change q ≡ a → find (is_claim_of_path q) coming ≡ b → GoTogether a b
          → is_some (option_and_then (λ l. if_written_in_place l (fate_of change files l)) a) ≡ is_some (keep_if (λ c. are_equal_fates goes_in (claim_fate change c (files c.path))) b)
      go None None e f h = refl
      go None (Some c) e f h = absurd h
      go (Some l) None e f h = absurd h
      go (Some l) (Some c) e f h =
          in_test l (fate_of change files l) ∙ (ap (are_equal_fates goes_in) (sym (same_fate change files q l c e h)) ∙ sym (some_if (are_equal_fates goes_in (claim_fate change c (files c.path))) c))

  laid_comes : (q : List ℕ) → is_some (listing_written_as_apk_new_beside change files q) ≡ true → is_some (added_owner_listing change q) ≡ true
  laid_comes q h = go (added_owner_listing change q) h
    where
      go : (a : Option Listing) → is_some (option_and_then (λ l. if_written_as_apk_new l (fate_of change files l)) a) ≡ true → is_some a ≡ true
      go None h = h
      go (Some l) h = refl

  -- the paths beside which a file is laid
  pub aside_are : paths (with_fate goes_aside) ≡ paths_with_apk_new_file change files
  unfolding paths_with_apk_new_file
  aside_are = same_names (λ path. is_some (listing_written_as_apk_new_beside change files path)) (paths (with_fate goes_aside)) (added_paths change.members)
      (kept_rises (λ c. are_equal_fates goes_aside (claim_fate change c (files c.path))) coming up)
      (λ q here. (let t = laid_is q ∙ is_there (with_fate goes_aside) q here in (in_coming_paths change q (laid_comes q t), t)))
      (λ q here t. there_is (with_fate goes_aside) q (sym (laid_is q) ∙ t))

  pub beside_is : (name : List ℕ) → is_apk_new_name_of (with_fate goes_aside) name ≡ is_some (option_and_then (listing_written_as_apk_new_beside change files) (path_of_apk_new_name name))
  beside_is name = go (path_of_apk_new_name name)
    where
      go : (p : Option (List ℕ)) → is_some (option_and_then (λ path. find (is_claim_of_path path) (with_fate goes_aside)) p) ≡ is_some (option_and_then (listing_written_as_apk_new_beside change files) p)
      go None = refl
      go (Some q) = sym (laid_is q)

-- ---- what is left over

no_claims : (ls : List Listing) (q : List ℕ) → list_any (λ l. bytes_eq l.path q) ls ≡ false → filter (λ l. bytes_eq l.path q) ls ≡ []
no_claims [] q h = refl
no_claims (l ∷ ls) q h = go (bytes_eq l.path q) (no_claims ls q) h
  where
    go : (b : Bool) → (list_any (λ l. bytes_eq l.path q) ls ≡ false → filter (λ l. bytes_eq l.path q) ls ≡ []) → (b || list_any (λ l. bytes_eq l.path q) ls) ≡ false → cond b (l ∷ filter (λ l. bytes_eq l.path q) ls) (filter (λ l. bytes_eq l.path q) ls) ≡ []
    go true rest h = absurd (true≢false h)
    go false rest h = rest h

pub left_is : (change : FileChange) (files : Files) (q : List ℕ) (b : Bool) → b ≡ is_some (option_and_then (listing_written_as_apk_new_beside change files) (path_of_apk_new_name q))
    → (not (is_listed_after_change change q) && not (is_listing_written_under_name change files q)) ≡ (not (is_listed_after_change change q) && not b)
unfolding listing_written_under_name
left_is change files q b e = go (is_listed_after_change change q) refl
  where
    go : (c : Bool) → is_listed_after_change change q ≡ c → (not c && not (is_some (option_or (listing_written_in_place change files q) (option_and_then (listing_written_as_apk_new_beside change files) (path_of_apk_new_name q))))) ≡ (not c && not b)
    go true h = refl
    go false h =
        ap (λ o. not (is_some (option_or (option_and_then (λ l. if_written_in_place l (fate_of change files l)) o) (option_and_then (listing_written_as_apk_new_beside change files) (path_of_apk_new_name q))))) (no_owner change q h)
        ∙ ap not (sym e)

module _ (change : FileChange) (files : Files) (before : List PathClaim) (up : Names.Rises (paths before))
    (each : (q : List ℕ) → find (is_claim_of_path q) before ≡ find (is_claim_of_path q) (sorted_by claim_cmp (claims_in (members_of_kept change.old))))
    (asides : List PathClaim) (beside : (q : List ℕ) → is_apk_new_name_of asides q ≡ is_some (option_and_then (listing_written_as_apk_new_beside change files) (path_of_apk_new_name q))) where
  pub entries_are : (q : List ℕ) → option_map (claim_entry (members_of_kept change.old)) (find (is_claim_of_path q) before) ≡ old_file_entry change q
  unfolding old_listings
  entries_are q = ap (option_map (claim_entry (members_of_kept change.old))) (each q ∙ same_found (claims_in (members_of_kept change.old)) q) ∙ old_entry_is change (members_of_kept change.old) refl q

  abbrev pub left_over : List PathClaim
  left_over = filter (λ c. is_path_left_over change asides c.path) before

  abbrev pub going : Bool → List PathClaim
  going stays = filter (λ c. are_equal_flags stays (is_file_kept change c (files c.path))) left_over

  -- by the test of a path that is listed
  pub going_is : (stays : Bool) (q : List ℕ) → is_some (find (is_claim_of_path q) (going stays))
      ≡ (is_left_over_and_not_written change files q && are_equal_flags stays (is_modified_config_to_keep change q (files q) (old_file_entry change q)))
  going_is stays q =
      ap is_some (found_kept (λ c. are_equal_flags stays (is_file_kept change c (files c.path))) left_over (kept_rises (λ c. is_path_left_over change asides c.path) before up) q)
      ∙ (ap (λ o. is_some (keep_if (λ c. are_equal_flags stays (is_file_kept change c (files c.path))) o)) (found_kept (λ c. is_path_left_over change asides c.path) before up q)
      ∙ (go (find (is_claim_of_path q) before) refl
      ∙ (λ j. (is_some (entries_are q j) && (not (is_listed_after_change change q) && not (is_listing_written_under_name change files q))) && are_equal_flags stays (is_modified_config_to_keep change q (files q) (entries_are q j)))))
    where
      by_tests : (a s : Bool) (c : PathClaim) → is_some (keep_if (λ c. are_equal_flags stays (is_file_kept change c (files c.path))) (cond a (Some c) None)) ≡ (a && are_equal_flags stays (is_file_kept change c (files c.path)))
      by_tests true s c = some_cond (are_equal_flags stays (is_file_kept change c (files c.path))) c
        where
          some_cond : (t : Bool) (c : PathClaim) → is_some (cond t (Some c) None) ≡ t
          some_cond true c = refl
          some_cond false c = refl
      by_tests false s c = refl

      go : (o : Option PathClaim) → find (is_claim_of_path q) before ≡ o → is_some (keep_if (λ c. are_equal_flags stays (is_file_kept change c (files c.path))) (keep_if (λ c. is_path_left_over change asides c.path) o))
          ≡ ((is_some (option_map (claim_entry (members_of_kept change.old)) o) && (not (is_listed_after_change change q) && not (is_listing_written_under_name change files q))) && are_equal_flags stays (is_modified_config_to_keep change q (files q) (option_map (claim_entry (members_of_kept change.old)) o)))
      go None e = refl
      go (Some c) e =
          let is : c.path ≡ q = (bytes_decides c.path q).0 (found_passes (is_claim_of_path q) before c e) in
          by_tests (is_path_left_over change asides c.path) true c
          ∙ (λ j. left c is j && are_equal_flags stays (is_protected_path (is j) && (not change.purge && is_present_and_modified_from_entry (claim_entry (members_of_kept change.old) c) (files (is j)))))
        where
          left : (c : PathClaim) (is : c.path ≡ q) → is_path_left_over change asides c.path ≡ (not (is_listed_after_change change q) && not (is_listing_written_under_name change files q))
          left c is = ap (is_path_left_over change asides) is ∙ sym (left_is change files q (is_apk_new_name_of asides q) (beside q))

  old_path : (q : List ℕ) → is_left_over_and_not_written change files q ≡ true → Names.IsIn q (old_paths change)
  unfolding old_file_entry
  old_path q h = listed_in (old_listings change) q (mapped (find (λ l. bytes_eq l.path q) (old_listings change)) (first (was_listed change q) _ h))
    where
      first : (a b : Bool) → (a && b) ≡ true → a ≡ true
      first true b h = refl
      first false b h = absurd (true≢false (sym h))

      mapped : (o : Option Listing) → is_some (option_map (λ l. l.entry) o) ≡ true → is_some o ≡ true
      mapped None h = h
      mapped (Some l) h = refl

  front : (a b : Bool) → (a && b) ≡ true → a ≡ true
  front true b h = refl
  front false b h = absurd (true≢false (sym h))

  pub kept_are : paths (going true) ≡ kept_left_over_paths_of change files
  unfolding kept_left_over_paths_of is_left_over_modified_file_kept
  kept_are = same_names (is_left_over_modified_file_kept change files) (paths (going true)) (old_paths change)
      (kept_rises (λ c. are_equal_flags true (is_file_kept change c (files c.path))) left_over (kept_rises (λ c. is_path_left_over change asides c.path) before up))
      (λ q here. (let t = sym (going_is true q) ∙ is_there (going true) q here in (old_path q (front (is_left_over_and_not_written change files q) _ t), t)))
      (λ q here t. there_is (going true) q (going_is true q ∙ t))

  pub removals_are : paths (going false) ≡ removals_of change files
  unfolding removals_of is_removed
  removals_are = same_names (is_removed change files) (paths (going false)) (old_paths change)
      (kept_rises (λ c. are_equal_flags false (is_file_kept change c (files c.path))) left_over (kept_rises (λ c. is_path_left_over change asides c.path) before up))
      (λ q here. (let t = sym (going_is false q) ∙ is_there (going false) q here in (old_path q (front (is_left_over_and_not_written change files q) _ t), t)))
      (λ q here t. there_is (going false) q (going_is false q ∙ t))
