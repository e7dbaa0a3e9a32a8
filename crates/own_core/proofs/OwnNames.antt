-- The names of a plan, and the files whose contents they get.
use Rattle.std.proofs.Common.{◌≡◌, inl, inr, ℕ, zero, suc, ◌≤◌, Bool, true, false, List, [], ◌∷◌, length, map, All, Contains, Option, Some, None, Result, Ok, Err, refl, ap, sym, subst, arith, true≢false}
use Rattle.std.specs.Prelude.{◌&&◌, ◌||◌, not, if◌then◌else◌, is_some, nat_le, IfOk}
use Rattle.std.proofs.lemmas.Bool.{and_parts, leb-true}
use Rattle.file_guard.specs.adb_schema.Reserved.{is_reserved}
use Rattle.adb_view.specs.Plain.{Plain}
use Rattle.base_core.specs.Files.{Files}
use Rattle.base_core.specs.Listed.{AreSortedDistinctTexts}
use Rattle.base_core.specs.Name.{IsName}
use Rattle.base_core.specs.Tree.{TreeState}
use Rattle.base_core.proofs.Rising as Names
use Rattle.file_owners.specs.db_core.Members.{Listing, listings_of_members, member_of_kept}
use Rattle.file_guard.specs.AsListed.{is_as_listed}
use Rattle.own_core.specs.Fate.{agrees_with_old_entry, apk_new_name, fate_if_user_modified_file, fate_with_file_found, fate_of, gives_way, goes_aside, goes_in, is_as_old_entry_lists, is_protected_path}
use Rattle.own_core.specs.FileChange.{FileChange, is_listed_after_change, old_file_entry, old_listings}
use Rattle.own_core.specs.FilesAfter.{is_removed, is_listing_written_under_name, listing_written_as_apk_new_beside, listing_written_under_name}
use Rattle.own_core.specs.PlanLists.{FileWrite, file_writes_of, first_reserved_added_path_in_byte_order, removals_of}
use Rattle.own_core.specs.Touched.{IsPlannedWrite}
use Rattle.own_core.proofs.LeftOver.{removed_unreserved}
use Rattle.own_core.proofs.Lists.{IsOneOf, contains_from_one}
use Rattle.own_core.proofs.OwnedFiles.{aside_found, coming_listed, in_old_paths, written_is}
use Rattle.own_core.proofs.PlanNames.{removals_hold, removals_rise, writes_are, writes_hold, writes_rise, written_or_removed}
use Rattle.own_core.proofs.Reserved.{written_unreserved}
use Rattle.own_core.proofs.Untouched.{removed_is}
use Rattle.own_core.specs.Fates.{is_apk_new_name_free}
use Rattle.own_core.specs.Planned.{ArePlanLists, HasDisjointUnreservedNames, HasSources, IsOfAddedFile, IsUnreservedName, IsPlanForMembersAlone, IsPlanOverSomeFiles}
use Rattle.own_core.specs.WritesSeen.{writes_in}
use Rattle.own_core.specs.declared.fault.PlanFault.{PlanFault}
use Rattle.own_core.specs.declared.planning.FilePlan.{FilePlan}
use Rattle.own_core.proofs.Endings.{aside_is_name}
use Rattle.own_core.proofs.Listings.{coming_placed}

-- ---- all of a list

all_names : (P : List ℕ → Type 0) (names : List (List ℕ)) → ((name : List ℕ) → Names.IsIn name names → P name) → All P names
all_names P names h k d low = h _ (Names.in_at names k d low)

all_writes : (P : FileWrite → Type 0) (ws : List FileWrite) → ((w : FileWrite) → IsOneOf w ws → P w) → All P ws
all_writes P [] h k d low = absurd (omega (arith, low))
all_writes P (w ∷ ws) h zero d low = h w (inl refl)
all_writes P (w ∷ ws) h (suc k) d low = all_writes P ws (λ v here. h v (inr here)) k d (omega (arith, low))

path_holds : (P : List ℕ → Type 0) (ls : List Listing) → All (λ l. P l.path) ls → (path : List ℕ) → Names.IsIn path (map (λ l. l.path) ls) → P path
path_holds P [] h path here = absurd here
path_holds P (l ∷ ls) h path (inl is) = subst P (sym is) (h 0 l (omega arith))
path_holds P (l ∷ ls) h path (inr more) = path_holds P ls (λ k d below. h (suc k) d (omega (arith, below))) path more

one_holds : (P : Listing → Type 0) (ls : List Listing) → All P ls → (l : Listing) → Contains ls l → P l
one_holds P ls h l found = subst P found.2 (h found.0 l found.1)

-- ---- a name beside a path

by_room : (a b : Bool) → (if a && b then goes_aside else gives_way) ≡ goes_aside → b ≡ true
by_room true true e = refl
by_room true false e = absurd (cc)
by_room false b e = absurd (cc)

-- a file goes aside only if its name there is free
pub aside_free : (change : FileChange) (path : List ℕ) (entry : Plain) (found : Option (List ℕ)) → fate_with_file_found change path entry found ≡ goes_aside → is_apk_new_name_free change path ≡ true
aside_free change path entry None e = absurd (cc)
aside_free change path entry (Some bytes) e = by_tests (not (is_protected_path path) || (is_as_listed entry bytes || is_as_old_entry_lists (old_file_entry change path) bytes)) e
  where
    by_tests : (b : Bool) → (if b then goes_in else fate_if_user_modified_file change path entry) ≡ goes_aside → is_apk_new_name_free change path ≡ true
    by_tests true e = absurd (cc)
    by_tests false e = by_room (not (agrees_with_old_entry (old_file_entry change path) entry)) (is_apk_new_name_free change path) e

pub is_short : (change : FileChange) (path : List ℕ) → is_apk_new_name_free change path ≡ true → length (apk_new_name path) ≤ 1024
is_short change path room = leb-true (length (apk_new_name path)) 1024 (and_parts (nat_le (length (apk_new_name path)) 1024) (not (is_listed_after_change change (apk_new_name path))) room).0

named_beside : (change : FileChange) (files : Files) (l : Listing) → IsName l.path → listing_written_as_apk_new_beside change files l.path ≡ Some l → IsName (apk_new_name l.path)
unfolding fate_of
named_beside change files l named laid =
    let (comes, aside) = aside_found change files l.path l laid in
    aside_is_name l.path named (is_short change l.path (aside_free change l.path l.entry (files l.path) aside))

-- ---- the names of a plan

module _ (change : FileChange) (files : Files) (old_named : All (λ l. IsName l.path) (listings_of_members (map member_of_kept change.old)))
    (old_free : All (λ l. is_reserved l.path ≡ false) (listings_of_members (map member_of_kept change.old))) (named : All (λ l. IsName l.path) (listings_of_members change.members))
    (none : first_reserved_added_path_in_byte_order change.members ≡ None) where
  removed_open : (path : List ℕ) → is_removed change files path ≡ true → IsUnreservedName path
  unfolding old_listings
  removed_open path removed =
      let (left, gone) = removed_is change files path removed in
      record {
        named = path_holds IsName (old_listings change) old_named path (in_old_paths change path left.listed);
        unreserved = removed_unreserved change files path old_free removed;
      }

  listing_named : (name : List ℕ) (l : Listing) → listing_written_under_name change files name ≡ Some l → IsName l.path
  listing_named name l e =
      let (path, comes, listed, owner) = coming_listed change l.path l (written_is change files name l e).comes in
      one_holds (λ l. IsName l.path) (listings_of_members change.members) named l listed

  written_open : (name : List ℕ) (l : Listing) → listing_written_under_name change files name ≡ Some l → IsUnreservedName name
  written_open name l e = record {
    named = elim (written_is change files name l e).under [
      | inl own ↦ subst IsName (sym own.0) (listing_named name l e)
      | inr beside ↦ subst IsName (sym beside.0) (named_beside change files l (listing_named name l e) beside.1)
    ];
    unreserved = written_unreserved change files name l none e;
  }

  some_written : (name : List ℕ) → is_listing_written_under_name change files name ≡ true → IsUnreservedName name
  some_written name h = go (listing_written_under_name change files name) refl h
    where
      go : (o : Option Listing) → listing_written_under_name change files name ≡ o → is_some o ≡ true → IsUnreservedName name
      go None e h = absurd (true≢false (sym h))
      go (Some l) e h = written_open name l e

  -- each write is of a file that comes
  write_source : (w : FileWrite) → IsPlannedWrite change files w → IsOfAddedFile change.members w
  write_source w is =
      let comes = (written_is change files w.name is.listing is.written).comes in
      let placed = (coming_placed change is.listing.path is.listing comes).1 in
      let (path, coming, listed, owner) = coming_listed change is.listing.path is.listing comes in
      subst (IsOfAddedFile change.members) (sym is.shown) (record { member = is.listing.member; at = placed.at; comes = coming; place = placed.place })

  pub own_names : (plan : FilePlan) → ArePlanLists change files plan → HasDisjointUnreservedNames plan
  own_names plan lists =
      let same : map (λ w. w.name) (writes_in plan.writes) ≡ map (λ w. w.name) (file_writes_of change files) = ap (map (λ w. w.name)) lists.writes in
      record {
        removals = subst (All IsUnreservedName) (sym lists.removals) (all_names IsUnreservedName (removals_of change files) (λ path here. removed_open path ((removals_hold change files path).0 (Names.contains_from_in _ path here))));
        writes = subst (All IsUnreservedName) (sym same) (all_names IsUnreservedName _ (λ name here. some_written name ((writes_hold change files name).0 (Names.contains_from_in _ name here))));
        removals_rise = subst AreSortedDistinctTexts (sym lists.removals) (removals_rise change files);
        writes_rise = subst AreSortedDistinctTexts (sym same) (writes_rise change files);
        apart = λ name gone written.
            written_or_removed change files name ((writes_hold change files name).0 (subst (λ names. Contains names name) same written)) ((removals_hold change files name).0 (subst (λ names. Contains names name) lists.removals gone));
      }

  pub own_sources : (plan : FilePlan) → ArePlanLists change files plan → HasSources change.members plan
  own_sources plan lists =
      subst (All (IsOfAddedFile change.members)) (sym lists.writes)
      (all_writes (IsOfAddedFile change.members) (file_writes_of change files) (λ w here. write_source w ((writes_are change files w).0 (contains_from_one _ w here))))

pub names_if_planned : (change : FileChange) (h : List TreeState) (r : Result FilePlan PlanFault) → All (λ l. IsName l.path) (listings_of_members (map member_of_kept change.old))
    → All (λ l. is_reserved l.path ≡ false) (listings_of_members (map member_of_kept change.old)) → All (λ l. IsName l.path) (listings_of_members change.members)
    → IfOk r (IsPlanOverSomeFiles change h) → IfOk r (IsPlanForMembersAlone change.members) → IfOk r HasDisjointUnreservedNames
names_if_planned change h (Ok plan) old_named old_free named is for = own_names change is.files old_named old_free named for.allowed plan is.lists
names_if_planned change h (Err fault) old_named old_free named is for = tt

pub sources_if_planned : (change : FileChange) (h : List TreeState) (r : Result FilePlan PlanFault) → All (λ l. IsName l.path) (listings_of_members (map member_of_kept change.old))
    → All (λ l. is_reserved l.path ≡ false) (listings_of_members (map member_of_kept change.old)) → All (λ l. IsName l.path) (listings_of_members change.members)
    → IfOk r (IsPlanOverSomeFiles change h) → IfOk r (IsPlanForMembersAlone change.members) → IfOk r (HasSources change.members)
sources_if_planned change h (Ok plan) old_named old_free named is for = own_sources change is.files old_named old_free named for.allowed plan is.lists
sources_if_planned change h (Err fault) old_named old_free named is for = tt
