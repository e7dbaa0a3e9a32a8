-- Claims, and the listings of which they speak.
use Rattle.std.proofs.Common.{◌≡◌, ℕ, suc, zero, ◌+◌, ◌-◌, ◌<◌, ◌≤◌, Bool, true, false, cond, List, [], ◌∷◌, ◌++◌, Option, Some, None, All, refl, ap, sym, ◌∙◌, subst, arith, true≢false}
use Rattle.std.specs.Prelude.{◌&&◌, ◌||◌, ◌==◌, slice_get, option_map, option_and_then, bytes_eq, is_some, if◌then◌else◌}
use Rattle.std.specs.Cmp.Lexicographic.{bytes_decides}
use Rattle.std.specs.List.{filter, find, list_any}
use Rattle.std.specs.List.Sorted.{ties}
use Rattle.std.specs.Ordering.{is_lt}
use borrow.Author.Tests.{eqb-true}
use Rattle.std.proofs.Math.Bool.{and-false}
use Rattle.base_core.specs.Name.{IsName}
use Rattle.adb_view.specs.Plain.{Plains, none, more}
use Rattle.adb_view.specs.Values.{count_of, entries_in, entry_at_index, nth}
use Rattle.path_claim_lists.specs.adb_fields.Repeated.{files_in, list_of, name_of}
use Rattle.base_core.specs.Sorted.{sorted_by}
use Rattle.base_core.proofs.Sorting.{Each, stable_in_order}
use Rattle.file_owners.specs.db_core.Members.{Listing, Member, listings_of_path, is_added, listings_of_member, listings_of_members_from, listings_from_member_folder_file_places, listings_in_folders_from, listing_of_file_entry, listings_of_members}
use Rattle.path_claim_lists.specs.path_claims.Claims.{PathClaim, claim_cmp, is_owning_member, is_claim_of_path}
use Rattle.path_claim_lists.proofs.path_claims.ClaimOrder.{claims_total}
use Rattle.path_claim_lists.proofs.path_claims.Owned.{ties_path}
use Rattle.path_claim_lists.proofs.path_claims.Places.{no_some, value_or}
use Rattle.path_claim_lists.proofs.path_claims.Runs.{filter_ext}
use Rattle.path_claim_lists.proofs.path_claims.Whole.{from_sorted}
use Rattle.path_claim_lists.proofs.Lists.{found_ext, found_filtered, found_first, found_is, first_of}
use Rattle.file_owners.specs.Owners.{indexed_claim_of_listing, claims_of_listings_indexed_from, claims_in, owner_of_path}
use Rattle.own_core.specs.FileChange.{FileChange, added_owner_listing, if_member_added, is_listed_after_change, old_file_entry, old_listings, owner_listing}
use Rattle.own_core.specs.ClaimEntries.{AreClaimsOf, HasFileAt, IsClaimOf, claim_entry, is_added_at, is_added_if_any, listed_file_at, folders_if_any, is_of_added_owner}

-- ---- each listing stands where it says

pub record IsPlaced (members : List Member) (l : Listing) : Type 0 where
  pub at : slice_get members l.place ≡ Some l.member
  pub place : HasFileAt (entry_at_index l.member.pkg 1) l.folder l.file
  pub entry : l.entry ≡ listed_file_at (entry_at_index l.member.pkg 1) l.folder l.file

pub each_both : {X : Type 0} (P : X → Type 0) (xs ys : List X) → Each P xs → Each P ys → Each P (xs ++ ys)
each_both P [] ys h g = g
each_both P (x ∷ xs) ys h g = (h.0, each_both P xs ys h.1 g)

each_in_folder : (P : Listing → Type 0) (m : Member) (place folder : ℕ) (above : List ℕ) (vs : Plains) (i : ℕ)
    → ((k : ℕ) → k < count_of vs → P (listing_of_file_entry m place folder (i + k) above (nth vs k))) → Each P (listings_from_member_folder_file_places m place folder i above (list_of vs))
each_in_folder P m place folder above none i h = tt
each_in_folder P m place folder above (more v vs) i h = (
  (let n : i + 0 ≡ i = omega arith in subst (λ k. P (listing_of_file_entry m place folder k above v)) n (h 0 (omega arith))),
  each_in_folder P m place folder above vs (i + 1) (λ k l.
      (let n : i + suc k ≡ i + 1 + k = omega arith in subst (λ j. P (listing_of_file_entry m place folder j above (nth vs k))) n (h (suc k) (omega arith)))),
)

each_in_folders : (P : Listing → Type 0) (m : Member) (place : ℕ) (vs : Plains) (i : ℕ)
    → ((k : ℕ) → k < count_of vs → Each P (listings_from_member_folder_file_places m place (i + k) 1 (name_of (nth vs k)) (files_in (nth vs k)))) → Each P (listings_in_folders_from m place i (list_of vs))
each_in_folders P m place none i h = tt
each_in_folders P m place (more v vs) i h = each_both P (listings_from_member_folder_file_places m place i 1 (name_of v) (files_in v)) (listings_in_folders_from m place (i + 1) (list_of vs))
    (let n : i + 0 ≡ i = omega arith in subst (λ k. Each P (listings_from_member_folder_file_places m place k 1 (name_of v) (files_in v))) n (h 0 (omega arith)))
    (each_in_folders P m place vs (i + 1) (λ k l.
    (let n : i + suc k ≡ i + 1 + k = omega arith in subst (λ j. Each P (listings_from_member_folder_file_places m place j 1 (name_of (nth vs k)) (files_in (nth vs k)))) n (h (suc k) (omega arith)))))

each_from : (P : Listing → Type 0) (ms : List Member) (n : ℕ) → ((k : ℕ) (m : Member) → slice_get ms k ≡ Some m → Each P (listings_of_member (n + k) m)) → Each P (listings_of_members_from n ms)
each_from P [] n h = tt
each_from P (m ∷ ms) n h = each_both P (listings_of_member n m) (listings_of_members_from (n + 1) ms)
    (let e : n + 0 ≡ n = omega arith in subst (λ k. Each P (listings_of_member k m)) e (h 0 m refl))
    (each_from P ms (n + 1) (λ k x g. (let e : n + suc k ≡ n + 1 + k = omega arith in subst (λ j. Each P (listings_of_member j x)) e (h (suc k) x g))))

pub each_placed : (members : List Member) → Each (IsPlaced members) (listings_of_members members)
unfolding listings_of_members
each_placed members = each_from (IsPlaced members) members 0 by_member
  where
    by_file : (k : ℕ) (m : Member) → slice_get members k ≡ Some m → (j : ℕ) → j < count_of (entries_in (entry_at_index m.pkg 1)) → (i : ℕ) → i < count_of (entries_in (entry_at_index (nth (entries_in (entry_at_index m.pkg 1)) j) 2))
        → IsPlaced members (listing_of_file_entry m (0 + k) (1 + j) (1 + i) (name_of (nth (entries_in (entry_at_index m.pkg 1)) j)) (nth (entries_in (entry_at_index (nth (entries_in (entry_at_index m.pkg 1)) j) 2)) i))
    by_file k m g j lj i li =
        let zk : k ≡ 0 + k = omega arith in
        let oj : j ≡ 1 + j - 1 = omega arith in
        let oi : i ≡ 1 + i - 1 = omega arith in
        record {
          at = subst (λ n. slice_get members n ≡ Some m) zk g;
          place = record {
            folder_low = omega arith;
            folder_high = omega (arith, lj);
            file_low = omega arith;
            file_high = subst (λ n. 1 + i ≤ count_of (entries_in (entry_at_index (nth (entries_in (entry_at_index m.pkg 1)) n) 2))) oj (omega (arith, li));
          };
          entry = λ t. nth (entries_in (entry_at_index (nth (entries_in (entry_at_index m.pkg 1)) (oj t)) 2)) (oi t);
        }

    by_member : (k : ℕ) (m : Member) → slice_get members k ≡ Some m → Each (IsPlaced members) (listings_of_member (0 + k) m)
    by_member k m g = each_in_folders (IsPlaced members) m (0 + k) (entries_in (entry_at_index m.pkg 1)) 1
        (λ j lj. each_in_folder (IsPlaced members) m (0 + k) (1 + j) (name_of (nth (entries_in (entry_at_index m.pkg 1)) j)) (entries_in (entry_at_index (nth (entries_in (entry_at_index m.pkg 1)) j) 2)) 1 (λ i li. by_file k m g j lj i li))

-- ---- what a claim says of a listing

pub record IsClaimFor (l : Listing) (c : PathClaim) : Type 0 where
  pub path : c.path ≡ l.path
  pub member : c.member ≡ l.place
  pub folder : c.folder ≡ l.folder
  pub file : c.file ≡ l.file

pub claim_for : (n : ℕ) (l : Listing) → IsClaimFor l (indexed_claim_of_listing n l)
claim_for n l = record { path = refl; member = refl; folder = refl; file = refl }

pub entry_of : (members : List Member) (l : Listing) (c : PathClaim) → IsPlaced members l → IsClaimFor l c → claim_entry members c ≡ l.entry
unfolding claim_entry
entry_of members l c h k =
    (λ j. listed_file_at (folders_if_any (slice_get members (k.member j))) (k.folder j) (k.file j))
    ∙ (ap (λ m. listed_file_at (folders_if_any m) l.folder l.file) h.at ∙ sym h.entry)

abbrev pub GoTogether : Option Listing → Option PathClaim → Type 0
GoTogether None None = Unit {0}
GoTogether None (Some c) = ⊥
GoTogether (Some l) None = ⊥
GoTogether (Some l) (Some c) = IsClaimFor l c

pub found_together : (t : PathClaim → Bool) (s : Listing → Bool) → ((n : ℕ) (l : Listing) → t (indexed_claim_of_listing n l) ≡ s l) → (n : ℕ) (ls : List Listing) → GoTogether (find s ls) (find t (claims_of_listings_indexed_from n ls))
found_together t s h n [] = tt
found_together t s h n (l ∷ ls) = go (t (indexed_claim_of_listing n l)) (s l) (h n l) (found_together t s h (n + 1) ls)
  where
    go : (a b : Bool) → a ≡ b → GoTogether (find s ls) (find t (claims_of_listings_indexed_from (n + 1) ls)) → GoTogether (cond b (Some l) (find s ls)) (cond a (Some (indexed_claim_of_listing n l)) (find t (claims_of_listings_indexed_from (n + 1) ls)))
    go true true e r = claim_for n l
    go true false e r = absurd (true≢false e)
    go false true e r = absurd (true≢false (sym e))
    go false false e r = r

-- ---- the sorted claims

no_claim : List ℕ → PathClaim
no_claim path = record { path = path; member = 0; folder = 0; file = 0; number = 0 }

pub same_claims : (all : List PathClaim) (path : List ℕ) → filter (is_claim_of_path path) (sorted_by claim_cmp all) ≡ filter (is_claim_of_path path) all
unfolding no_claim
same_claims all path =
    let z : PathClaim = no_claim path in
    sym (filter_ext (ties (λ x y. is_lt (claim_cmp x y)) z) (is_claim_of_path path) (ties_path z) (sorted_by claim_cmp all))
    ∙ (stable_in_order claim_cmp claims_total z all ∙ filter_ext (ties (λ x y. is_lt (claim_cmp x y)) z) (is_claim_of_path path) (ties_path z) all)

pub same_found : (all : List PathClaim) (path : List ℕ) → find (is_claim_of_path path) (sorted_by claim_cmp all) ≡ find (is_claim_of_path path) all
same_found all path = found_first (is_claim_of_path path) (sorted_by claim_cmp all) ∙ (ap first_of (same_claims all path) ∙ sym (found_first (is_claim_of_path path) all))

pub same_kept : (p : PathClaim → Bool) (all : List PathClaim) (path : List ℕ) → find (is_claim_of_path path) (filter p (sorted_by claim_cmp all)) ≡ find (is_claim_of_path path) (filter p all)
same_kept p all path =
    found_filtered (is_claim_of_path path) p (sorted_by claim_cmp all) ∙ (ap (find p) (same_claims all path) ∙ sym (found_filtered (is_claim_of_path path) p all))

-- ---- a path is listed

pub path_together : (members : List Member) (path : List ℕ) → GoTogether (find (λ l. bytes_eq l.path path) (listings_of_members members)) (find (is_claim_of_path path) (claims_in members))
unfolding claims_in
path_together members path = found_together (is_claim_of_path path) (λ l. bytes_eq l.path path) (λ n l. refl) 0 (listings_of_members members)

some_together : (a : Option Listing) (b : Option PathClaim) → GoTogether a b → is_some b ≡ is_some a
some_together None None h = refl
some_together None (Some c) h = absurd h
some_together (Some l) None h = absurd h
some_together (Some l) (Some c) h = refl

any_found : {X : Type 0} (p : X → Bool) (xs : List X) → is_some (find p xs) ≡ list_any p xs
any_found p [] = refl
any_found p (x ∷ xs) = go (p x) (any_found p xs)
  where
    go : (b : Bool) → is_some (find p xs) ≡ list_any p xs → is_some (cond b (Some x) (find p xs)) ≡ (b || list_any p xs)
    go true h = refl
    go false h = h

-- whether a package after the change lists a path
pub claimed_is : (change : FileChange) (path : List ℕ) → is_some (find (is_claim_of_path path) (sorted_by claim_cmp (claims_in change.members))) ≡ is_listed_after_change change path
unfolding is_listed_after_change
claimed_is change path =
    ap is_some (same_found (claims_in change.members) path)
    ∙ (some_together (find (λ l. bytes_eq l.path path) (listings_of_members change.members)) (find (is_claim_of_path path) (claims_in change.members)) (path_together change.members path)
    ∙ any_found (λ l. bytes_eq l.path path) (listings_of_members change.members))

entry_together : (members : List Member) (s : Listing → Bool) (a : Option Listing) (b : Option PathClaim) → find s (listings_of_members members) ≡ a → GoTogether a b → option_map (claim_entry members) b ≡ option_map (λ l. l.entry) a
entry_together members s None None e h = refl
entry_together members s None (Some c) e h = absurd h
entry_together members s (Some l) None e h = absurd h
entry_together members s (Some l) (Some c) e h = ap Some (entry_of members l c (found_is s (IsPlaced members) (listings_of_members members) l (each_placed members) e).0 h)

-- what the packages before say of a path
pub old_entry_is : (change : FileChange) (members : List Member) → listings_of_members members ≡ old_listings change → (path : List ℕ)
    → option_map (claim_entry members) (find (is_claim_of_path path) (claims_in members)) ≡ old_file_entry change path
unfolding old_file_entry
old_entry_is change members is path =
    entry_together members (λ l. bytes_eq l.path path) (find (λ l. bytes_eq l.path path) (listings_of_members members)) (find (is_claim_of_path path) (claims_in members)) refl (path_together members path)
    ∙ ap (λ ls. option_map (λ l. l.entry) (find (λ l. bytes_eq l.path path) ls)) is

-- ---- owners that come

and_swap : (a b c : Bool) → (a && (b && c)) ≡ ((a && b) && c)
and_swap true b c = refl
and_swap false b c = refl

pub found_and : {X : Type 0} (p q : X → Bool) (xs : List X) → find p (filter q xs) ≡ find (λ x. q x && p x) xs
found_and p q [] = refl
found_and p q (x ∷ xs) = go (q x) (found_and p q xs)
  where
    go : (b : Bool) → find p (filter q xs) ≡ find (λ x. q x && p x) xs → find p (cond b (x ∷ filter q xs) (filter q xs)) ≡ cond (b && p x) (Some x) (find (λ x. q x && p x) xs)
    go true h = ap (λ r. cond (p x) (Some x) r) h
    go false h = h

never : {X : Type 0} (p : X → Bool) → ((x : X) → p x ≡ false) → (xs : List X) → find p xs ≡ None
never p h [] = refl
never p h (x ∷ xs) = ap (λ b. cond b (Some x) (find p xs)) (h x) ∙ never p h xs

and_true : (a : Bool) → (a && true) ≡ a
and_true true = refl
and_true false = refl

module _ (members : List Member) (path : List ℕ) where
  -- the listing of the owner at a place, if it comes
  abbrev by_owner : Option ℕ → Listing → Bool
  by_owner owner l = bytes_eq l.path path && (is_owning_member l.place owner && is_added_at members l.place)

  place_comes : (w : ℕ) (l : Listing) → IsPlaced members l → (l.place == w) ≡ true → is_added l.member ≡ is_added_at members w
  place_comes w l h e = sym (ap is_added_if_any h.at) ∙ ap (is_added_at members) (eqb-true l.place w e)

  second : (a b : Bool) → (a && b) ≡ true → b ≡ true
  second true b h = h
  second false b h = absurd (true≢false (sym h))

  by_place : (w : ℕ) (b : Bool) → is_added_at members w ≡ b
      → find (by_owner (Some w)) (listings_of_members members) ≡ if_member_added (find (λ l. bytes_eq l.path path && (l.place == w)) (listings_of_members members))
  by_place w b e = go (find (λ l. bytes_eq l.path path && (l.place == w)) (listings_of_members members)) refl b e
    where
      same_test : is_added_at members w ≡ true → (l : Listing) → by_owner (Some w) l ≡ (bytes_eq l.path path && (l.place == w))
      same_test c l = ap (λ t. bytes_eq l.path path && t) (at_place (l.place == w) refl)
        where
          at_place : (t : Bool) → (l.place == w) ≡ t → (t && is_added_at members l.place) ≡ t
          at_place true h = ap (is_added_at members) (eqb-true l.place w h) ∙ c
          at_place false h = refl

      no_test : is_added_at members w ≡ false → (l : Listing) → by_owner (Some w) l ≡ false
      no_test c l = ap (λ t. bytes_eq l.path path && t) (at_place (l.place == w) refl) ∙ and-false (bytes_eq l.path path)
        where
          at_place : (t : Bool) → (l.place == w) ≡ t → (t && is_added_at members l.place) ≡ false
          at_place true h = ap (is_added_at members) (eqb-true l.place w h) ∙ c
          at_place false h = refl

      go : (o : Option Listing) → find (λ l. bytes_eq l.path path && (l.place == w)) (listings_of_members members) ≡ o → (b : Bool) → is_added_at members w ≡ b → find (by_owner (Some w)) (listings_of_members members) ≡ if_member_added o
      go None f true c = found_ext (by_owner (Some w)) (λ l. bytes_eq l.path path && (l.place == w)) (same_test c) (listings_of_members members) ∙ f
      go None f false c = never (by_owner (Some w)) (no_test c) (listings_of_members members)
      go (Some l) f true c =
          let h = found_is (λ l. bytes_eq l.path path && (l.place == w)) (IsPlaced members) (listings_of_members members) l (each_placed members) f in
          found_ext (by_owner (Some w)) (λ l. bytes_eq l.path path && (l.place == w)) (same_test c) (listings_of_members members) ∙ (f
          ∙ sym (ap (λ t. if t then Some l else None) (place_comes w l h.0 (second (bytes_eq l.path path) (l.place == w) h.1) ∙ c)))
      go (Some l) f false c =
          let h = found_is (λ l. bytes_eq l.path path && (l.place == w)) (IsPlaced members) (listings_of_members members) l (each_placed members) f in
          never (by_owner (Some w)) (no_test c) (listings_of_members members)
          ∙ sym (ap (λ t. if t then Some l else None) (place_comes w l h.0 (second (bytes_eq l.path path) (l.place == w) h.1) ∙ c))

  owner_listed : (o : Option ℕ) → find (by_owner o) (listings_of_members members)
      ≡ if_member_added (option_and_then (λ place. find (λ l. l.place == place) (filter (λ l. bytes_eq l.path path) (listings_of_members members))) o)
  owner_listed None = never (by_owner None) (λ l. and-false (bytes_eq l.path path)) (listings_of_members members)
  owner_listed (Some w) = by_place w (is_added_at members w) refl ∙ ap if_member_added (sym (found_and (λ l. l.place == w) (λ l. bytes_eq l.path path) (listings_of_members members)))

  claim_test : (c : PathClaim) → (is_claim_of_path path c && is_of_added_owner members c) ≡ (bytes_eq c.path path && (is_owning_member c.member (owner_of_path members path) && is_added_at members c.member))
  unfolding is_of_added_owner
  claim_test c = go (bytes_eq c.path path) refl
    where
      go : (b : Bool) → bytes_eq c.path path ≡ b → (b && (is_owning_member c.member (owner_of_path members c.path) && is_added_at members c.member)) ≡ (b && (is_owning_member c.member (owner_of_path members path) && is_added_at members c.member))
      go true e = ap (λ p. is_owning_member c.member (owner_of_path members p) && is_added_at members c.member) ((bytes_decides c.path path).0 e)
      go false e = refl

  pub coming_together : GoTogether (find (by_owner (owner_of_path members path)) (listings_of_members members)) (find (is_claim_of_path path) (filter (is_of_added_owner members) (sorted_by claim_cmp (claims_in members))))
  unfolding claims_in
  coming_together =
      subst (GoTogether (find (by_owner (owner_of_path members path)) (listings_of_members members)))
      (sym (same_kept (is_of_added_owner members) (claims_of_listings_indexed_from 0 (listings_of_members members)) path
      ∙ (found_filtered (is_claim_of_path path) (is_of_added_owner members) (claims_of_listings_indexed_from 0 (listings_of_members members))
      ∙ (found_and (is_of_added_owner members) (is_claim_of_path path) (claims_of_listings_indexed_from 0 (listings_of_members members))
      ∙ found_ext (λ c. is_claim_of_path path c && is_of_added_owner members c) (λ c. bytes_eq c.path path && (is_owning_member c.member (owner_of_path members path) && is_added_at members c.member)) claim_test (claims_of_listings_indexed_from 0 (listings_of_members members))))))
      (found_together (λ c. bytes_eq c.path path && (is_owning_member c.member (owner_of_path members path) && is_added_at members c.member)) (by_owner (owner_of_path members path)) (λ n l. refl) 0 (listings_of_members members))

-- the claim of a path's owner that comes, and its listing
pub coming_is : (change : FileChange) (path : List ℕ) → GoTogether (added_owner_listing change path) (find (is_claim_of_path path) (filter (is_of_added_owner change.members) (sorted_by claim_cmp (claims_in change.members))))
unfolding owner_listing listings_of_path
coming_is change path =
    subst (λ o. GoTogether o (find (is_claim_of_path path) (filter (is_of_added_owner change.members) (sorted_by claim_cmp (claims_in change.members)))))
    (owner_listed change.members path (owner_of_path change.members path)) (coming_together change.members path)

-- such a listing is one of all, and its member comes
pub coming_placed : (change : FileChange) (path : List ℕ) (l : Listing) → added_owner_listing change path ≡ Some l
    → (find (by_owner change.members path (owner_of_path change.members path)) (listings_of_members change.members) ≡ Some l) × IsPlaced change.members l
unfolding owner_listing listings_of_path
coming_placed change path l e =
    let f = owner_listed change.members path (owner_of_path change.members path) ∙ e in
    (f, (found_is (by_owner change.members path (owner_of_path change.members path)) (IsPlaced change.members) (listings_of_members change.members) l (each_placed change.members) f).0)

-- ---- claims of members

pub claim_listed : (members : List Member) → All (λ l. IsName l.path) (listings_of_members members) → (c : PathClaim) (n i : ℕ) (ls : List Listing) → Each (IsPlaced members) ls → Each (λ l. IsName l.path) ls
    → slice_get (claims_of_listings_indexed_from n ls) i ≡ Some c → IsClaimOf members c
claim_listed members named c n i [] p q g = absurd (no_some c g)
claim_listed members named c n zero (l ∷ ls) p q g =
    let is : indexed_claim_of_listing n l ≡ c = ap (value_or c) g in
    subst (IsClaimOf members) is (record { member = l.member; at = p.0.at; place = p.0.place; name = q.0 })
claim_listed members named c n (suc i) (l ∷ ls) p q g = claim_listed members named c (n + 1) i ls p.1 q.1 g

pub each_all : {X : Type 0} (P : X → Type 0) (xs : List X) → All P xs → Each P xs
each_all P [] h = tt
each_all P (x ∷ xs) h = (h 0 x (omega arith), each_all P xs (λ k d l. h (suc k) d (omega arith)))

pub are_claims : (members : List Member) (cs : List PathClaim) → All (λ l. IsName l.path) (listings_of_members members) → cs ≡ sorted_by claim_cmp (claims_in members) → AreClaimsOf members cs
unfolding claims_in
are_claims members cs named s i c g =
    let f = from_sorted claim_cmp (claims_in members) c i (ap (λ xs. slice_get xs i) (sym s) ∙ g) in
    claim_listed members named c 0 f.0 (listings_of_members members) (each_placed members) (each_all (λ l. IsName l.path) (listings_of_members members) named) f.1
