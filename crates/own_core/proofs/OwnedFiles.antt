-- The owner of a path, and what comes of its file.
use Rattle.std.proofs.Common.{◌≡◌, ◌⊎◌, inl, inr, ◌∙◌, ℕ, ◌-◌, ◌==◌, Bool, true, false, List, ◌++◌, length, take, drop, map, Contains, Option, Some, None, is_some, refl, ap, sym, subst, true≢false, arith}
use Rattle.std.specs.Prelude.{not, ◌&&◌, ◌||◌, if◌then◌else◌, codes, nat_eq, nat_le, option_and_then, option_map}
use Rattle.std.specs.List.{ends_with, filter, find}
use Rattle.std.specs.Str.{bytes_eq}
use Rattle.std.proofs.lemmas.Bool.{eqb-true}
use Rattle.std.proofs.lemmas.List.{drop_at, length-append, take-append-drop, take_at}
use Rattle.std.proofs.lemmas.Slice.Eq.{bytes_eq-Decides}
use Rattle.adb_view.specs.Plain.{Plain}
use Rattle.base_core.specs.Files.{Files}
use Rattle.base_core.proofs.Rising.{IsIn}
use Rattle.file_owners.specs.db_core.Members.{Listing, Member, listings_of_path, is_added, listings_of_members}
use Rattle.file_owners.specs.Owners.{owner_of_path}
use Rattle.file_guard.specs.AsListed.{is_as_listed}
use Rattle.own_core.specs.Fate.{AddedFileFate, agrees_with_old_entry, apk_new_name, fate_if_user_modified_file, fate_with_file_found, fate_of, gives_way, goes_aside, goes_in, is_as_old_entry_lists, is_protected_path}
use Rattle.own_core.specs.FileChange.{FileChange, added_owner_listing, if_member_added, is_listed_after_change, old_file_entry, old_listings, owner_listing}
use Rattle.own_core.specs.FilesAfter.{if_written_as_apk_new, if_written_in_place, listing_written_as_apk_new_beside, path_of_apk_new_name, listing_written_under_name, listing_written_in_place}
use Rattle.std.specs.Option.{option_or}
use Rattle.own_core.specs.NamesAfter.{added_paths}
use Rattle.own_core.proofs.Lists.{IsOneOf, any_passes, contains_from_one, found_passes, kept_passes, passing_kept, seen_in}

-- ---- the owner

-- the member at this place owns the path, and lists it so
pub record IsOwner (change : FileChange) (path : List ℕ) (l : Listing) : Type 0 where
  pub of_path : l.path ≡ path
  pub listed : IsOneOf l (listings_of_members change.members)
  pub place : owner_of_path change.members path ≡ Some l.place

owner_at : (members : List Member) (path : List ℕ) (place : Option ℕ) (l : Listing) → option_and_then (λ place. find (λ l. l.place == place) (listings_of_path members path)) place ≡ Some l
    → IsOneOf l (listings_of_path members path) × (place ≡ Some l.place)
owner_at members path None l e = absurd (cc)
owner_at members path (Some place) l e =
    let found = found_passes (λ l. l.place == place) (listings_of_path members path) l e in
    (found.0, ap (λ (n : ℕ). Some n) (sym (eqb-true l.place place found.1)))

claim_is : (members : List Member) (path : List ℕ) (l : Listing) → IsOneOf l (listings_of_path members path) → IsOneOf l (listings_of_members members) × (l.path ≡ path)
unfolding listings_of_path
claim_is members path l here =
    let kept = kept_passes (λ l. bytes_eq l.path path) (listings_of_members members) l here in
    (kept.0, (bytes_eq-Decides l.path path).0 kept.1)

pub owner_is : (change : FileChange) (path : List ℕ) (l : Listing) → owner_listing change path ≡ Some l → IsOwner change path l
unfolding owner_listing
owner_is change path l e =
    let found = owner_at change.members path (owner_of_path change.members path) l e in
    let claim = claim_is change.members path l found.0 in
    record { of_path = claim.1; listed = claim.0; place = found.1 }

pub claimed_by_owner : (change : FileChange) (path : List ℕ) (l : Listing) → IsOwner change path l → is_listed_after_change change path ≡ true
unfolding is_listed_after_change
claimed_by_owner change path l owner =
    any_passes (λ l. bytes_eq l.path path) (listings_of_members change.members) l owner.listed ((bytes_eq-Decides l.path path).1 owner.of_path)

if_comes : (o : Option Listing) (l : Listing) → if_member_added o ≡ Some l → (o ≡ Some l) × (is_added l.member ≡ true)
if_comes None l e = absurd (cc)
if_comes (Some m) l e = by_test (is_added m.member) refl e
  where
    by_test : (b : Bool) → is_added m.member ≡ b → (if b then Some m else None) ≡ Some l → (Some m ≡ Some l) × (is_added l.member ≡ true)
    by_test true t e = let same : l ≡ m = (cc) in (e, ap (λ (l : Listing). is_added l.member) same ∙ t)
    by_test false t e = absurd (cc)

pub coming_is : (change : FileChange) (path : List ℕ) (l : Listing) → added_owner_listing change path ≡ Some l → IsOwner change path l × (is_added l.member ≡ true)
coming_is change path l e = let found = if_comes (owner_listing change path) l e in (owner_is change path l found.0, found.1)

pub owner_stays : (change : FileChange) (path : List ℕ) (l : Listing) → owner_listing change path ≡ Some l → is_added l.member ≡ false → added_owner_listing change path ≡ None
owner_stays change path l e stays = ap if_member_added e ∙ ap (λ (b : Bool). if b then Some l else None) stays

pub in_coming_paths : (change : FileChange) (path : List ℕ) (l : Listing) → added_owner_listing change path ≡ Some l → IsIn path (added_paths change.members)
in_coming_paths change path l e =
    let (owner, comes) = coming_is change path l e in
    subst (λ (q : List ℕ). IsIn q (added_paths change.members)) owner.of_path
    (seen_in (λ l. l.path) (filter (λ l. is_added l.member) (listings_of_members change.members)) l
    (passing_kept (λ l. is_added l.member) (listings_of_members change.members) l owner.listed comes))

-- ---- what was listed before

pub in_old_paths : (change : FileChange) (path : List ℕ) → is_some (old_file_entry change path) ≡ true → IsIn path (map (λ l. l.path) (old_listings change))
unfolding old_file_entry
in_old_paths change path listed = by_found (find (λ l. bytes_eq l.path path) (old_listings change)) refl listed
  where
    by_found : (o : Option Listing) → find (λ l. bytes_eq l.path path) (old_listings change) ≡ o → is_some (option_map (λ l. l.entry) o) ≡ true → IsIn path (map (λ l. l.path) (old_listings change))
    by_found None e listed = absurd (true≢false (sym listed))
    by_found (Some l) e listed =
        let found = found_passes (λ l. bytes_eq l.path path) (old_listings change) l e in
        subst (λ (q : List ℕ). IsIn q (map (λ l. l.path) (old_listings change))) ((bytes_eq-Decides l.path path).0 found.1)
        (seen_in (λ l. l.path) (old_listings change) l found.0)

-- ---- its fate

only_in : (o : Option Listing) (fate : Listing → AddedFileFate) (l : Listing) → option_and_then (λ l. if_written_in_place l (fate l)) o ≡ Some l → (o ≡ Some l) × (fate l ≡ goes_in)
only_in None fate l e = absurd (cc)
only_in (Some m) fate l e = by_fate (fate m) refl e
  where
    by_fate : (f : AddedFileFate) → fate m ≡ f → if_written_in_place m f ≡ Some l → (Some m ≡ Some l) × (fate l ≡ goes_in)
    by_fate goes_in is e = let same : l ≡ m = (cc) in (e, ap fate same ∙ is)
    by_fate gives_way is e = absurd (cc)
    by_fate goes_aside is e = absurd (cc)

only_aside : (o : Option Listing) (fate : Listing → AddedFileFate) (l : Listing) → option_and_then (λ l. if_written_as_apk_new l (fate l)) o ≡ Some l → (o ≡ Some l) × (fate l ≡ goes_aside)
only_aside None fate l e = absurd (cc)
only_aside (Some m) fate l e = by_fate (fate m) refl e
  where
    by_fate : (f : AddedFileFate) → fate m ≡ f → if_written_as_apk_new m f ≡ Some l → (Some m ≡ Some l) × (fate l ≡ goes_aside)
    by_fate goes_in is e = absurd (cc)
    by_fate gives_way is e = absurd (cc)
    by_fate goes_aside is e = let same : l ≡ m = (cc) in (e, ap fate same ∙ is)

pub goes_in_found : (change : FileChange) (files : Files) (path : List ℕ) (l : Listing) → listing_written_in_place change files path ≡ Some l → (added_owner_listing change path ≡ Some l) × (fate_of change files l ≡ goes_in)
goes_in_found change files path l e = only_in (added_owner_listing change path) (fate_of change files) l e

pub aside_found : (change : FileChange) (files : Files) (path : List ℕ) (l : Listing) → listing_written_as_apk_new_beside change files path ≡ Some l → (added_owner_listing change path ≡ Some l) × (fate_of change files l ≡ goes_aside)
aside_found change files path l e = only_aside (added_owner_listing change path) (fate_of change files) l e

-- beside a file nothing is laid under a name that a package lists
free_beside : (change : FileChange) (path : List ℕ) (entry : Plain) → fate_if_user_modified_file change path entry ≡ goes_aside → is_listed_after_change change (apk_new_name path) ≡ false
free_beside change path entry e = by_tests (not (agrees_with_old_entry (old_file_entry change path) entry)) (nat_le (length (apk_new_name path)) 1024) (is_listed_after_change change (apk_new_name path)) e
  where
    by_tests : (a b claimed : Bool) → (if a && (b && not claimed) then goes_aside else gives_way) ≡ goes_aside → claimed ≡ false
    by_tests a b false e = refl
    by_tests true true true e = absurd (cc)
    by_tests true false true e = absurd (cc)
    by_tests false b true e = absurd (cc)

free_by : (change : FileChange) (path : List ℕ) (entry : Plain) (found : Option (List ℕ)) → fate_with_file_found change path entry found ≡ goes_aside → is_listed_after_change change (apk_new_name path) ≡ false
free_by change path entry None e = absurd (cc)
free_by change path entry (Some bytes) e = by_test (not (is_protected_path path) || (is_as_listed entry bytes || is_as_old_entry_lists (old_file_entry change path) bytes)) e
  where
    by_test : (b : Bool) → (if b then goes_in else fate_if_user_modified_file change path entry) ≡ goes_aside → is_listed_after_change change (apk_new_name path) ≡ false
    by_test true e = absurd (cc)
    by_test false e = free_beside change path entry e

pub nobody_beside : (change : FileChange) (files : Files) (path : List ℕ) (l : Listing) → listing_written_as_apk_new_beside change files path ≡ Some l → is_listed_after_change change (apk_new_name path) ≡ false
unfolding fate_of
nobody_beside change files path l e =
    let (comes, fate) = aside_found change files path l e in
    let (owner, coming) = coming_is change path l comes in
    subst (λ (q : List ℕ). is_listed_after_change change (apk_new_name q) ≡ false) owner.of_path (free_by change l.path l.entry (files l.path) fate)

-- ---- names beside paths

pub beside_is : (name path : List ℕ) → path_of_apk_new_name name ≡ Some path → name ≡ apk_new_name path
beside_is name path e = by_test (ends_with nat_eq name (codes ".apk-new")) refl e
  where
    by_test : (b : Bool) → ends_with nat_eq name (codes ".apk-new") ≡ b → (if b then Some (take (length name - 8) name) else None) ≡ Some path → name ≡ apk_new_name path
    by_test true t e =
        let end : codes ".apk-new" ≡ drop (length name - 8) name = (bytes_eq-Decides (codes ".apk-new") (drop (length name - 8) name)).0 t in
        let front : take (length name - 8) name ≡ path = (cc) in
        sym (take-append-drop (length name - 8) name)
        ∙ (ap (λ (xs : List ℕ). xs ++ drop (length name - 8) name) front ∙ ap (λ (xs : List ℕ). path ++ xs) (sym end))
    by_test false t e = absurd (cc)

pub is_beside : (path : List ℕ) → path_of_apk_new_name (apk_new_name path) ≡ Some path
is_beside path =
    let long = length-append path (codes ".apk-new") in
    let n : length path ≡ length (apk_new_name path) - 8 = omega (arith, long) in
    let end : ends_with nat_eq (apk_new_name path) (codes ".apk-new") ≡ true =
    (bytes_eq-Decides (codes ".apk-new") (drop (length (apk_new_name path) - 8) (apk_new_name path))).1
    (sym (drop_at path (codes ".apk-new") (length (apk_new_name path) - 8) n)) in
    ap (λ (b : Bool). if b then Some (take (length (apk_new_name path) - 8) (apk_new_name path)) else None) end
    ∙ ap (λ (xs : List ℕ). Some xs) (take_at path (codes ".apk-new") (length (apk_new_name path) - 8) n)

-- ---- what is written under a name

-- the file goes in under its own path, or is laid beside it
pub record IsWritten (change : FileChange) (files : Files) (name : List ℕ) (l : Listing) : Type 0 where
  pub comes : added_owner_listing change l.path ≡ Some l
  pub under : ((name ≡ l.path) × (listing_written_in_place change files name ≡ Some l)) ⊎ ((name ≡ apk_new_name l.path) × (listing_written_as_apk_new_beside change files l.path ≡ Some l))

either : (inside beside : Option Listing) (l : Listing) → option_or inside beside ≡ Some l → (inside ≡ Some l) ⊎ ((inside ≡ None) × (beside ≡ Some l))
either None beside l e = inr (refl, e)
either (Some m) beside l e = inl e

beside_at : (change : FileChange) (files : Files) (path : Option (List ℕ)) (l : Listing) → option_and_then (listing_written_as_apk_new_beside change files) path ≡ Some l → (q : List ℕ) × (path ≡ Some q) × (listing_written_as_apk_new_beside change files q ≡ Some l)
beside_at change files None l e = absurd (cc)
beside_at change files (Some q) l e = (q, refl, e)

own_path : (change : FileChange) (path : List ℕ) (l : Listing) → added_owner_listing change path ≡ Some l → added_owner_listing change l.path ≡ Some l
own_path change path l e = let (owner, comes) = coming_is change path l e in subst (λ (q : List ℕ). added_owner_listing change q ≡ Some l) (sym owner.of_path) e

pub written_is : (change : FileChange) (files : Files) (name : List ℕ) (l : Listing) → listing_written_under_name change files name ≡ Some l → IsWritten change files name l
unfolding listing_written_under_name
written_is change files name l e =
    elim (either (listing_written_in_place change files name) (option_and_then (listing_written_as_apk_new_beside change files) (path_of_apk_new_name name)) l e) [
      | inl inside ↦ (let (comes, fate) = goes_in_found change files name l inside in
          let (owner, coming) = coming_is change name l comes in
          record { comes = own_path change name l comes; under = inl (sym owner.of_path, inside) })
      | inr (none, beside) ↦ (let (path, at, laid) = beside_at change files (path_of_apk_new_name name) l beside in
          let (comes, fate) = aside_found change files path l laid in
          let (owner, coming) = coming_is change path l comes in
          record {
            comes = own_path change path l comes;
            under = inr (
              beside_is name path at ∙ ap apk_new_name (sym owner.of_path),
              subst (λ (q : List ℕ). listing_written_as_apk_new_beside change files q ≡ Some l) (sym owner.of_path) laid,
            );
          })
    ]

-- nothing goes in, and nothing is laid beside another file under this name
pub not_written : (change : FileChange) (files : Files) (name : List ℕ) → listing_written_in_place change files name ≡ None → is_some (option_and_then (listing_written_as_apk_new_beside change files) (path_of_apk_new_name name)) ≡ false → listing_written_under_name change files name ≡ None
unfolding listing_written_under_name
not_written change files name none beside = ap (λ (o : Option Listing). option_or o (option_and_then (listing_written_as_apk_new_beside change files) (path_of_apk_new_name name))) none ∙ no_value (option_and_then (listing_written_as_apk_new_beside change files) (path_of_apk_new_name name)) beside
  where
    no_value : (o : Option Listing) → is_some o ≡ false → o ≡ None
    no_value None e = refl
    no_value (Some l) e = absurd (true≢false e)

-- ---- as laws say it

pub coming_listed : (change : FileChange) (path : List ℕ) (l : Listing) → added_owner_listing change path ≡ Some l
    → (l.path ≡ path) × (is_added l.member ≡ true) × Contains (listings_of_members change.members) l × (owner_of_path change.members path ≡ Some l.place)
coming_listed change path l e =
    let (owner, comes) = coming_is change path l e in
    (owner.of_path, comes, contains_from_one (listings_of_members change.members) l owner.listed, owner.place)

pub written_under : (change : FileChange) (files : Files) (name : List ℕ) (l : Listing) → listing_written_under_name change files name ≡ Some l → (added_owner_listing change l.path ≡ Some l) × ((name ≡ l.path) ⊎ (name ≡ apk_new_name l.path))
written_under change files name l e =
    let written = written_is change files name l e in
    (written.comes, elim written.under [ inl own ↦ inl own.0 | inr beside ↦ inr beside.0 ])
