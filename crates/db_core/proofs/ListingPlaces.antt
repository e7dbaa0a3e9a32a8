-- Each file that members list stands at its places.
use Rattle.std.proofs.Common.{◌≡◌, ◌⊎◌, inl, inr, ℕ, suc, zero, ◌+◌, ◌-◌, ◌≤◌, Bool, true, false, List, [], ◌∷◌, ◌++◌, Option, Some, None, refl, ap, sym, ◌∙◌, subst, arith, true≢false}
use Rattle.std.specs.Prelude.{slice_get}
use Rattle.adb_view.specs.Plain.{Plain}
use Rattle.pkg_core.specs.adb_fields.Paths.{path_of}
use Rattle.pkg_core.specs.adb_fields.Repeated.{files_in, folders_in, name_of}
use Rattle.db_core.specs.ListedAt.{IsListedAt}
use Rattle.db_core.specs.Members.{Listing, Member, listings_of_member, listings_of_members_from, listings_from_member_folder_file_places, listings_in_folders_from, listings_of_members}

abbrev is_one : {X : Type 0} → Option X → Bool
is_one None = false
is_one (Some x) = true

no_some : {X : Type 0} (z : X) → None ≡ Some z → ⊥
no_some z e = true≢false (sym (ap is_one e))

abbrev value_or : {X : Type 0} → X → Option X → X
value_or d None = d
value_or d (Some x) = x

-- what stands in two lists that are joined stands in one of them
in_either : {X : Type 0} (xs ys : List X) (k : ℕ) (z : X) → slice_get (xs ++ ys) k ≡ Some z → (slice_get xs k ≡ Some z) ⊎ ((j : ℕ) × (slice_get ys j ≡ Some z))
in_either [] ys k z g = inr (k, g)
in_either (x ∷ xs) ys zero z g = inl g
in_either (x ∷ xs) ys (suc k) z g = in_either xs ys k z g

-- of the files of a folder, the first of which has this position
record InFolder (m : Member) (place folder i : ℕ) (above : List ℕ) (entries : List Plain) (l : Listing) : Type 0 where
  member : l.member ≡ m
  at_place : l.place ≡ place
  at_folder : l.folder ≡ folder
  from : i ≤ l.file
  file : slice_get entries (l.file - i) ≡ Some l.entry
  path : l.path ≡ path_of above (name_of l.entry)

in_folder : (m : Member) (place folder i : ℕ) (above : List ℕ) (entries : List Plain) (k : ℕ) (l : Listing) → slice_get (listings_from_member_folder_file_places m place folder i above entries) k ≡ Some l → InFolder m place folder i above entries l
in_folder m place folder i above [] k l g = absurd (no_some l g)
in_folder m place folder i above (e ∷ es) zero l g =
    let none : i - i ≡ 0 = omega arith in
    subst (InFolder m place folder i above (e ∷ es)) (ap (value_or l) g)
    (record { member = refl; at_place = refl; at_folder = refl; from = omega arith; file = ap (slice_get (e ∷ es)) none; path = refl })
in_folder m place folder i above (e ∷ es) (suc k) l g =
    let r = in_folder m place folder (i + 1) above es k l g in
    let next : l.file - i ≡ suc (l.file - (i + 1)) = omega (arith, r.from) in
    record { member = r.member; at_place = r.at_place; at_folder = r.at_folder; from = omega (arith, r.from); file = ap (slice_get (e ∷ es)) next ∙ r.file; path = r.path }

-- of folders, the first of which has this position
record InFolders (m : Member) (place i : ℕ) (folders : List Plain) (l : Listing) : Type 0 where
  above : Plain
  member : l.member ≡ m
  at_place : l.place ≡ place
  folder_from : i ≤ l.folder
  folder : slice_get folders (l.folder - i) ≡ Some above
  file_from : 1 ≤ l.file
  file : slice_get (files_in above) (l.file - 1) ≡ Some l.entry
  path : l.path ≡ path_of (name_of above) (name_of l.entry)

in_folders : (m : Member) (place i : ℕ) (folders : List Plain) (k : ℕ) (l : Listing) → slice_get (listings_in_folders_from m place i folders) k ≡ Some l → InFolders m place i folders l
in_folders m place i [] k l g = absurd (no_some l g)
in_folders m place i (d ∷ ds) k l g = go (in_either (listings_from_member_folder_file_places m place i 1 (name_of d) (files_in d)) (listings_in_folders_from m place (i + 1) ds) k l g) (in_folders m place (i + 1) ds)
  where
    further : InFolders m place (i + 1) ds l → InFolders m place i (d ∷ ds) l
    further r =
        let next : l.folder - i ≡ suc (l.folder - (i + 1)) = omega (arith, r.folder_from) in
        record {
          above = r.above;
          member = r.member;
          at_place = r.at_place;
          folder_from = omega (arith, r.folder_from);
          folder = ap (slice_get (d ∷ ds)) next ∙ r.folder;
          file_from = r.file_from;
          file = r.file;
          path = r.path;
        }

    here : InFolder m place i 1 (name_of d) (files_in d) l → InFolders m place i (d ∷ ds) l
    here r =
        let none : l.folder - i ≡ 0 = omega (arith, r.at_folder) in
        record {
          above = d;
          member = r.member;
          at_place = r.at_place;
          folder_from = omega (arith, r.at_folder);
          folder = ap (slice_get (d ∷ ds)) none;
          file_from = r.from;
          file = r.file;
          path = r.path;
        }

    go : (slice_get (listings_from_member_folder_file_places m place i 1 (name_of d) (files_in d)) k ≡ Some l) ⊎ ((j : ℕ) × (slice_get (listings_in_folders_from m place (i + 1) ds) j ≡ Some l))
        → ((j : ℕ) (l : Listing) → slice_get (listings_in_folders_from m place (i + 1) ds) j ≡ Some l → InFolders m place (i + 1) ds l)
        → InFolders m place i (d ∷ ds) l
    go (inl h) rest = here (in_folder m place i 1 (name_of d) (files_in d) k l h)
    go (inr (j, h)) rest = further (rest j l h)

-- of members, the first of which has this place
record InMembers (place : ℕ) (ms : List Member) (l : Listing) : Type 0 where
  from : place ≤ l.place
  member : slice_get ms (l.place - place) ≡ Some l.member
  within : InFolders l.member l.place 1 (folders_in l.member.pkg) l

in_members : (place : ℕ) (ms : List Member) (k : ℕ) (l : Listing) → slice_get (listings_of_members_from place ms) k ≡ Some l → InMembers place ms l
in_members place [] k l g = absurd (no_some l g)
in_members place (m ∷ ms) k l g = go (in_either (listings_of_member place m) (listings_of_members_from (place + 1) ms) k l g) (in_members (place + 1) ms)
  where
    further : InMembers (place + 1) ms l → InMembers place (m ∷ ms) l
    further r =
        let next : l.place - place ≡ suc (l.place - (place + 1)) = omega (arith, r.from) in
        record { from = omega (arith, r.from); member = ap (slice_get (m ∷ ms)) next ∙ r.member; within = r.within }

    here : InFolders m place 1 (folders_in m.pkg) l → InMembers place (m ∷ ms) l
    here r =
        let none : l.place - place ≡ 0 = omega (arith, r.at_place) in
        record {
          from = omega (arith, r.at_place);
          member = ap (slice_get (m ∷ ms)) none ∙ ap Some (sym r.member);
          within = record {
            above = r.above;
            member = refl;
            at_place = refl;
            folder_from = r.folder_from;
            folder = ap (λ (x : Member). slice_get (folders_in x.pkg) (l.folder - 1)) r.member ∙ r.folder;
            file_from = r.file_from;
            file = r.file;
            path = r.path;
          };
        }

    go : (slice_get (listings_of_member place m) k ≡ Some l) ⊎ ((j : ℕ) × (slice_get (listings_of_members_from (place + 1) ms) j ≡ Some l))
        → ((j : ℕ) (l : Listing) → slice_get (listings_of_members_from (place + 1) ms) j ≡ Some l → InMembers (place + 1) ms l)
        → InMembers place (m ∷ ms) l
    go (inl h) rest = here (in_folders m place 1 (folders_in m.pkg) k l h)
    go (inr (j, h)) rest = further (rest j l h)

pub stands_at : (members : List Member) (i : ℕ) (l : Listing) → slice_get (listings_of_members members) i ≡ Some l → IsListedAt members l
unfolding listings_of_members
stands_at members i l g =
    let r = in_members 0 members i l g in
    let place : l.place ≡ l.place - 0 = omega arith in
    record {
      above = r.within.above;
      member = ap (slice_get members) place ∙ r.member;
      folder_from = r.within.folder_from;
      folder = r.within.folder;
      file_from = r.within.file_from;
      file = r.within.file;
      path = r.within.path;
    }
