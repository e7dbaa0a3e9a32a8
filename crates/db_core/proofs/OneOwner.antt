-- Where each path has one owner, no path stands in two packages of the database.
use Rattle.std.proofs.Common.{◌≡◌, ◌⊎◌, inl, inr, ℕ, ◌+◌, ◌≤◌, Bool, true, false, List, [], ◌∷◌, ◌++◌, map, drop, refl, ap, sym, subst, ◌∙◌, arith}
use Rattle.std.specs.List.{flat_map}
use Rattle.adb_view.specs.Plain.{Plain}
use Rattle.adb_copy.specs.adb_fields.FirstPair.{IsIn}
use Rattle.adb_copy.specs.adb_fields.Once.{ShareNoName, IsInOneOf}
use Rattle.adb_copy.specs.adb_fields.Repeated.{files_in, folders_in, list_of, name_of, paths_of_package_files}
use Rattle.db_core.specs.Members.{Listing, Member, listings_of_member, listings_of_members_from, listings_from_member_folder_file_places, listings_in_folders_from, listings_of_members}
use Rattle.db_core.specs.NewDatabase.{member_file_count, packages_in_new_database}
use Rattle.db_core.specs.OwnedListings.{owned_listings}
use Rattle.db_core.specs.OwnedListings.{HaveAtMostOneOwnerForEachPath}
use Rattle.db_core.proofs.Listed.{in_folders}
use Rattle.db_core.proofs.OwnedPaths.{members_owned, owned_joined, package_owned}

-- ---- what is in lists

in_front : {A : Type 0} (x : A) (xs ys : List A) → IsIn x xs → IsIn x (xs ++ ys)
in_front x [] ys h = absurd h
in_front x (z ∷ xs) ys (inl is) = inl is
in_front x (z ∷ xs) ys (inr h) = inr (in_front x xs ys h)

in_back : {A : Type 0} (x : A) (xs ys : List A) → IsIn x ys → IsIn x (xs ++ ys)
in_back x [] ys h = h
in_back x (z ∷ xs) ys h = inr (in_back x xs ys h)

behind_one : {A : Type 0} (x y : A) (xs ys : List A) → IsIn x xs ⊎ IsIn x ys → IsIn x (y ∷ xs) ⊎ IsIn x ys
behind_one x y xs ys (inl h) = inl (inr h)
behind_one x y xs ys (inr h) = inr h

in_either : {A : Type 0} (x : A) (xs ys : List A) → IsIn x (xs ++ ys) → IsIn x xs ⊎ IsIn x ys
in_either x [] ys h = inr h
in_either x (y ∷ xs) ys (inl is) = inl (inl is)
in_either x (y ∷ xs) ys (inr h) = behind_one x y xs ys (in_either x xs ys h)

in_one : (f : Plain → List (List ℕ)) (name : List ℕ) (vs : List Plain) → IsInOneOf name (map f vs) → IsIn name (flat_map f vs)
in_one f name [] h = absurd h
in_one f name (v ∷ vs) (inl here) = in_front name (f v) (flat_map f vs) here
in_one f name (v ∷ vs) (inr h) = in_back name (f v) (flat_map f vs) (in_one f name vs h)

-- ---- the places of listings

at_folder : (m : Member) (place folder i : ℕ) (above : List ℕ) (entries : List Plain) (l : Listing) → IsIn l (listings_from_member_folder_file_places m place folder i above entries) → l.place ≡ place
at_folder m place folder i above [] l h = absurd h
at_folder m place folder i above (e ∷ entries) l (inl is) = ap (λ (k : Listing). k.place) is
at_folder m place folder i above (e ∷ entries) l (inr h) = at_folder m place folder (i + 1) above entries l h

by_part : {A B C : Type 0} → (A → C) → (B → C) → A ⊎ B → C
by_part f g (inl a) = f a
by_part f g (inr b) = g b

at_folders : (m : Member) (place i : ℕ) (folders : List Plain) (l : Listing) → IsIn l (listings_in_folders_from m place i folders) → l.place ≡ place
at_folders m place i [] l h = absurd h
at_folders m place i (d ∷ folders) l h =
    by_part (at_folder m place i 1 (name_of d) (files_in d) l) (at_folders m place (i + 1) folders l)
    (in_either l (listings_from_member_folder_file_places m place i 1 (name_of d) (files_in d)) (listings_in_folders_from m place (i + 1) folders) h)

at_first : (place : ℕ) (l : Listing) → l.place ≡ place → place ≤ l.place
at_first place l is = omega (arith, is)

at_next : (place : ℕ) (l : Listing) → place + 1 ≤ l.place → place ≤ l.place
at_next place l le = omega (arith, le)

at_or_behind : (place : ℕ) (members : List Member) (l : Listing) → IsIn l (listings_of_members_from place members) → place ≤ l.place
at_or_behind place [] l h = absurd h
at_or_behind place (m ∷ members) l h =
    by_part (λ a. at_first place l (at_folders m place 1 (folders_in m.pkg) l a)) (λ b. at_next place l (at_or_behind (place + 1) members l b))
    (in_either l (listings_of_member place m) (listings_of_members_from (place + 1) members) h)

owned_in : (ls : List Listing) (flags : List Bool) (l : Listing) → IsIn l (owned_listings ls flags) → IsIn l ls
owned_in [] flags l h = absurd h
owned_in (k ∷ ls) [] l h = absurd h
owned_in (k ∷ ls) (true ∷ flags) l (inl is) = inl is
owned_in (k ∷ ls) (true ∷ flags) l (inr h) = inr (owned_in ls flags l h)
owned_in (k ∷ ls) (false ∷ flags) l h = inr (owned_in ls flags l h)

with_path : (path : List ℕ) (ls : List Listing) → IsIn path (map (λ l. l.path) ls) → (l : Listing) × IsIn l ls × (l.path ≡ path)
with_path path [] h = absurd h
with_path path (l ∷ ls) (inl is) = (l, inl refl, sym is)
with_path path (l ∷ ls) (inr h) = let (k, here, is) = with_path path ls h in (k, inr here, is)

-- ---- the packages

apart_from : (place : ℕ) (members : List Member) (flags : List Bool) → HaveAtMostOneOwnerForEachPath (owned_listings (listings_of_members_from place members) flags) → ShareNoName (map paths_of_package_files (list_of (packages_in_new_database members flags)))
apart_from place [] flags one = tt
apart_from place (m ∷ members) flags one =
    let own : List Listing = owned_listings (listings_of_member place m) flags in
    let left : List Bool = drop (member_file_count m) flags in
    let others : List Listing = owned_listings (listings_of_members_from (place + 1) members) left in
    let joined : owned_listings (listings_of_member place m ++ listings_of_members_from (place + 1) members) flags ≡ own ++ others =
    owned_joined (listings_of_member place m) (listings_of_members_from (place + 1) members) flags
    ∙ ap (λ n. own ++ owned_listings (listings_of_members_from (place + 1) members) (drop n flags)) (in_folders m place 1 (folders_in m.pkg)) in
    let both : HaveAtMostOneOwnerForEachPath (own ++ others) = subst HaveAtMostOneOwnerForEachPath joined one in (
      λ path here there.
          (let (l, l_in, l_is) = with_path path own (subst (IsIn path) (package_owned m place flags) here) in
          let (k, k_in, k_is) = with_path path others (subst (IsIn path) (members_owned (place + 1) members left) (in_one paths_of_package_files path (list_of (packages_in_new_database members left)) there)) in
          let same : l.place ≡ k.place = both l k (in_front l own others l_in) (in_back k own others k_in) (l_is ∙ sym k_is) in
          let first : l.place ≡ place = at_folders m place 1 (folders_in m.pkg) l (owned_in (listings_of_member place m) flags l l_in) in
          let behind : place + 1 ≤ k.place = at_or_behind (place + 1) members k (owned_in (listings_of_members_from (place + 1) members) left k k_in) in
          omega (arith, same, first, behind)),
      apart_from (place + 1) members left (λ l k a b e. both l k (in_back l own others a) (in_back k own others b) e),
    )

pub owned_apart : (members : List Member) (flags : List Bool) → HaveAtMostOneOwnerForEachPath (owned_listings (listings_of_members members) flags) → ShareNoName (map paths_of_package_files (list_of (packages_in_new_database members flags)))
unfolding listings_of_members
owned_apart members flags one = apart_from 0 members flags one
