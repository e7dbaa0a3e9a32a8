-- No path that a package which stays lists is reserved.
use Rattle.std.proofs.Common.{◌≡◌, inl, inr, ◌∙◌, ℕ, ◌+◌, Bool, true, false, cond, List, [], ◌∷◌, ◌++◌, map, refl, ap, sym, subst, true≢false}
use Rattle.std.specs.Prelude.{Option, Some, None, is_some, if◌then◌else◌}
use Rattle.std.specs.List.{filter}
use Rattle.std.proofs.lemmas.Bool.{not-true}
use Rattle.adb_view.specs.Plain.{Plain, Plains, none, more}
use Rattle.adb_view.specs.Shaped.{Each}
use Rattle.adb_view.specs.Values.{entries_in, entry_at_index}
use Rattle.adb_view.specs.declared.tables.Which.TheVariants.{Idb}
use Rattle.make_core.specs.adb_fields.FirstPair.{IsIn}
use Rattle.make_core.specs.adb_fields.Paths.{path_of}
use Rattle.make_core.specs.adb_fields.Repeated.{files_in, folders_in, list_of, name_of}
use Rattle.make_core.specs.adb_schema.Reserved.{is_reserved}
use Rattle.make_core.specs.adb_schema.SoundValues.{ObeysTextAndNumberRulesOfFileInFolder, ObeysTextAndNumberRulesOfFolder, ObeysTextAndNumberRulesOfPackage}
use Rattle.engine_core.specs.own_core.PlanLists.{first_reserved_added_path_in_byte_order}
use Rattle.engine_core.specs.db_core.Members.{Listing, Member, is_added, listings_of_member, listings_of_members_from, listings_from_member_folder_file_places, listings_in_folders_from, listings_of_members}
use Rattle.engine_core.specs.db_core.OwnedListings.{HaveAtMostOneOwnerForEachPath, owned_listings}
use Rattle.engine_core.specs.db_core.SoundMembers.{AreMembersOfSoundContainers, IsPackageOfSoundContainer, IsOfSoundDatabase, HaveOneOwnerPerPathAndNoneReserved, NoneReserved}
use Rattle.base_core.specs.ByteOrder.{precedes, smaller_text, smallest_text}

-- ---- a property of each listing

abbrev pub EachListing : (Listing → Type 0) → List Listing → Type 0
EachListing P [] = Unit {0}
EachListing P (l ∷ ls) = P l × EachListing P ls

pub each_appended : (P : Listing → Type 0) (xs ys : List Listing) → EachListing P xs → EachListing P ys → EachListing P (xs ++ ys)
each_appended P [] ys h g = g
each_appended P (x ∷ xs) ys h g = (h.0, each_appended P xs ys h.1 g)

pub each_owned : (P : Listing → Type 0) (ls : List Listing) (flags : List Bool) → EachListing P ls → EachListing P (owned_listings ls flags)
each_owned P [] flags h = tt
each_owned P (l ∷ ls) [] h = tt
each_owned P (l ∷ ls) (true ∷ flags) h = (h.0, each_owned P ls flags h.1)
each_owned P (l ∷ ls) (false ∷ flags) h = each_owned P ls flags h.1

each_in : (P : Plain → Type 0) (v : Plain) (vs : Plains) → Each P vs → IsIn v (list_of vs) → P v
each_in P v none h here = absurd here
each_in P v (more u us) h (inl is) = subst P (sym is) h.0
each_in P v (more u us) h (inr here) = each_in P v us h.1 here

-- ---- of a package in a database

abbrev IsFree : Listing → Type 0
IsFree l = is_reserved l.path ≡ false

file_free : (folder : List ℕ) (v : Plain) → ObeysTextAndNumberRulesOfFileInFolder Idb folder v → is_reserved (path_of folder (name_of v)) ≡ false
file_free folder v is = not-true (is_reserved (path_of folder (name_of v))) is.listed

folder_free : (m : Member) (place folder i : ℕ) (above : List ℕ) (vs : Plains) → Each (ObeysTextAndNumberRulesOfFileInFolder Idb above) vs → EachListing IsFree (listings_from_member_folder_file_places m place folder i above (list_of vs))
folder_free m place folder i above none h = tt
folder_free m place folder i above (more v vs) h = (file_free above v h.0, folder_free m place folder (i + 1) above vs h.1)

folders_free : (m : Member) (place i : ℕ) (vs : Plains) → Each (ObeysTextAndNumberRulesOfFolder Idb) vs → EachListing IsFree (listings_in_folders_from m place i (list_of vs))
folders_free m place i none h = tt
folders_free m place i (more v vs) h =
    each_appended IsFree (listings_from_member_folder_file_places m place i 1 (name_of v) (files_in v)) (listings_in_folders_from m place (i + 1) (list_of vs))
    (folder_free m place i 1 (name_of v) (entries_in (entry_at_index v 2)) h.0.files) (folders_free m place (i + 1) vs h.1)

-- it is of a member that comes, or its path is free
abbrev IsFreeIfStays : Listing → Type 0
IsFreeIfStays l = is_added l.member ≡ false → IsFree l

weaker : (ls : List Listing) → EachListing IsFree ls → EachListing IsFreeIfStays ls
weaker [] h = tt
weaker (l ∷ ls) h = (λ stays. h.0, weaker ls h.1)

listed_free : (m : Member) (place : ℕ) → IsOfSoundDatabase m.pkg → EachListing IsFreeIfStays (listings_of_member place m)
listed_free m place h =
    let rules : ObeysTextAndNumberRulesOfPackage Idb m.pkg = each_in (ObeysTextAndNumberRulesOfPackage Idb) m.pkg (entries_in (entry_at_index h.database 0)) h.sound.rules h.listed in
    weaker (listings_of_member place m) (folders_free m place 1 (entries_in (entry_at_index m.pkg 1)) rules.folders)

-- ---- of a member that comes nothing is asked

module _ (m : Member) (place : ℕ) (comes : is_added m ≡ true) where
  folder_comes : (folder i : ℕ) (above : List ℕ) (es : List Plain) → EachListing IsFreeIfStays (listings_from_member_folder_file_places m place folder i above es)
  folder_comes folder i above [] = tt
  folder_comes folder i above (e ∷ es) = (λ stays. absurd (true≢false (sym comes ∙ stays)), folder_comes folder (i + 1) above es)

  folders_come : (i : ℕ) (fs : List Plain) → EachListing IsFreeIfStays (listings_in_folders_from m place i fs)
  folders_come i [] = tt
  folders_come i (f ∷ fs) =
      each_appended IsFreeIfStays (listings_from_member_folder_file_places m place i 1 (name_of f) (files_in f)) (listings_in_folders_from m place (i + 1) fs)
      (folder_comes i 1 (name_of f) (files_in f)) (folders_come (i + 1) fs)

member_free : (m : Member) (place : ℕ) → IsPackageOfSoundContainer m.pkg m.id → EachListing IsFreeIfStays (listings_of_member place m)
member_free m place h = by_id m.id refl h
  where
    by_id : (id : Option (List ℕ)) → m.id ≡ id → IsPackageOfSoundContainer m.pkg id → EachListing IsFreeIfStays (listings_of_member place m)
    by_id None e sound = listed_free m place sound
    by_id (Some digest) e sound = folders_come m place (ap is_some e) 1 (folders_in m.pkg)

members_free : (place : ℕ) (ms : List Member) → AreMembersOfSoundContainers ms → EachListing IsFreeIfStays (listings_of_members_from place ms)
members_free place [] h = tt
members_free place (m ∷ ms) h = each_appended IsFreeIfStays (listings_of_member place m) (listings_of_members_from (place + 1) ms) (member_free m place h.0) (members_free (place + 1) ms h.1)

-- ---- of members, where none that comes lists a reserved path

smaller_some : (a : List ℕ) (o : Option (List ℕ)) → smaller_text a o ≡ None → ⊥
smaller_some a None e = absurd (cc (e))
smaller_some a (Some b) e = by_test (precedes b a) e
  where
    by_test : (c : Bool) → (if c then Some b else Some a) ≡ None → ⊥
    by_test true e = absurd (cc (e))
    by_test false e = absurd (cc (e))

abbrev reserved_of : List Listing → List (List ℕ)
reserved_of ls = filter is_reserved (map (λ l. l.path) (filter (λ l. is_added l.member) ls))

all_free : (ls : List Listing) → smallest_text (reserved_of ls) ≡ None → EachListing IsFreeIfStays ls → EachListing IsFree ls
all_free [] free h = tt
all_free (l ∷ ls) free h = by_member (is_added l.member) refl free (λ rest. all_free ls rest h.1)
  where
    by_path : (b : Bool) → is_reserved l.path ≡ b → smallest_text (cond b (l.path ∷ reserved_of ls) (reserved_of ls)) ≡ None
        → (smallest_text (reserved_of ls) ≡ None → EachListing IsFree ls) → EachListing IsFree (l ∷ ls)
    by_path true e free others = absurd (smaller_some l.path (smallest_text (reserved_of ls)) free)
    by_path false e free others = (e, others free)

    by_member : (b : Bool) → is_added l.member ≡ b
        → smallest_text (filter is_reserved (map (λ l. l.path) (cond b (l ∷ filter (λ l. is_added l.member) ls) (filter (λ l. is_added l.member) ls)))) ≡ None
        → (smallest_text (reserved_of ls) ≡ None → EachListing IsFree ls) → EachListing IsFree (l ∷ ls)
    by_member true e free others = by_path (is_reserved l.path) refl free others
    by_member false e free others = (h.0 e, others free)

none_reserved : (ls : List Listing) → EachListing IsFree ls → NoneReserved (map (λ l. l.path) ls)
none_reserved [] h = tt
none_reserved (l ∷ ls) h = (h.0, none_reserved ls h.1)

-- so what they own may be listed
pub may_be_listed : (members : List Member) (flags : List Bool) → HaveAtMostOneOwnerForEachPath (owned_listings (listings_of_members members) flags) → AreMembersOfSoundContainers members → first_reserved_added_path_in_byte_order members ≡ None
    → HaveOneOwnerPerPathAndNoneReserved (owned_listings (listings_of_members members) flags)
unfolding listings_of_members first_reserved_added_path_in_byte_order
may_be_listed members flags one sound free =
    record {
      one_owner = one;
      free = none_reserved (owned_listings (listings_of_members_from 0 members) flags)
          (each_owned IsFree (listings_of_members_from 0 members) flags (all_free (listings_of_members_from 0 members) free (members_free 0 members sound)));
    }
