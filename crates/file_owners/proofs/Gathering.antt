-- Claims to which the files of folders and members are added one by one.
use Rattle.std.proofs.Common.{◌≡◌, ℕ, suc, zero, ◌+◌, ◌<◌, ◌≤◌, List, [], ◌∷◌, ◌++◌, length, drop, Some, refl, ap, sym, ◌∙◌, arith}
use Rattle.std.specs.Prelude.{slice_get}
use Rattle.adb_view.specs.Plain.{Plains, none, more}
use Rattle.adb_view.specs.Values.{count_of, nth}
use Rattle.path_claims.specs.adb_fields.Paths.{path_of}
use Rattle.path_claims.specs.adb_fields.Repeated.{files_in, list_of, name_of}
use Rattle.path_claims.proofs.adb_fields.Listed.{none_listed}
use Rattle.db_core.specs.Members.{Listing, Member, listing_of_file_entry, listings_of_member, listings_of_members_from, listings_from_member_folder_file_places, listings_in_folders_from, listings_of_members}
use Rattle.path_claims.specs.Claims.{PathClaim}
use Rattle.file_owners.specs.Gathered.{claims_with_listings}
use Rattle.file_owners.specs.Owners.{indexed_claim_of_listing}

pub with_more : (cs : List PathClaim) (xs ys : List Listing) → claims_with_listings (claims_with_listings cs xs) ys ≡ claims_with_listings cs (xs ++ ys)
with_more cs [] ys = refl
with_more cs (x ∷ xs) ys = with_more (cs ++ (indexed_claim_of_listing (length cs) x ∷ [])) xs ys

front : (vs : Plains) (i : ℕ) → i < count_of vs → drop i (list_of vs) ≡ nth vs i ∷ drop (suc i) (list_of vs)
front none i h = absurd (omega arith)
front (more v vs) zero h = refl
front (more v vs) (suc i) h = front vs i (omega arith)

-- ---- the files of a folder

abbrev pub FilesLeft : List PathClaim → List PathClaim → Member → ℕ → ℕ → List ℕ → Plains → ℕ → Type 0
FilesLeft old now m member folder name vs i =
    claims_with_listings now (listings_from_member_folder_file_places m member folder (i + 1) name (drop i (list_of vs)))
    ≡ claims_with_listings old (listings_from_member_folder_file_places m member folder 1 name (list_of vs))

pub file_added : (old now new : List PathClaim) (m : Member) (member folder : ℕ) (name : List ℕ) (vs : Plains) (i : ℕ) (file : List ℕ) → i < count_of vs
    → file ≡ name_of (nth vs i)
    → ((l : Listing) → l.path ≡ path_of name file → l.place ≡ member → l.folder ≡ folder → l.file ≡ i + 1 → new ≡ claims_with_listings now (l ∷ []))
    → FilesLeft old now m member folder name vs i → FilesLeft old new m member folder name vs (i + 1)
file_added old now new m member folder name vs i file h e add inv =
    let s : i + 1 ≡ suc i = omega arith in
    let l : Listing = listing_of_file_entry m member folder (i + 1) name (nth vs i) in
    let one : new ≡ claims_with_listings now (l ∷ []) = add l (ap (path_of name) (sym e)) refl refl refl in
    (λ j. claims_with_listings (one j) (listings_from_member_folder_file_places m member folder (i + 1 + 1) name (drop (s j) (list_of vs))))
    ∙ (ap (λ ps. claims_with_listings now (listings_from_member_folder_file_places m member folder (i + 1) name ps)) (sym (front vs i h)) ∙ inv)

pub files_added : (old now : List PathClaim) (m : Member) (member folder : ℕ) (name : List ℕ) (vs : Plains) (i : ℕ) → count_of vs ≤ i
    → FilesLeft old now m member folder name vs i → now ≡ claims_with_listings old (listings_from_member_folder_file_places m member folder 1 name (list_of vs))
files_added old now m member folder name vs i h inv =
    ap (λ ps. claims_with_listings now (listings_from_member_folder_file_places m member folder (i + 1) name ps)) (sym (none_listed vs i h)) ∙ inv

-- ---- folders

abbrev pub FoldersLeft : List PathClaim → List PathClaim → Member → ℕ → Plains → ℕ → Type 0
FoldersLeft old now m member vs i =
    claims_with_listings now (listings_in_folders_from m member (i + 1) (drop i (list_of vs)))
    ≡ claims_with_listings old (listings_in_folders_from m member 1 (list_of vs))

pub folder_added : (old now new : List PathClaim) (m : Member) (member : ℕ) (vs : Plains) (i : ℕ) → i < count_of vs
    → new ≡ claims_with_listings now (listings_from_member_folder_file_places m member (i + 1) 1 (name_of (nth vs i)) (files_in (nth vs i)))
    → FoldersLeft old now m member vs i → FoldersLeft old new m member vs (i + 1)
folder_added old now new m member vs i h one inv =
    let s : i + 1 ≡ suc i = omega arith in
    (λ j. claims_with_listings (one j) (listings_in_folders_from m member (i + 1 + 1) (drop (s j) (list_of vs))))
    ∙ (with_more now (listings_from_member_folder_file_places m member (i + 1) 1 (name_of (nth vs i)) (files_in (nth vs i))) (listings_in_folders_from m member (i + 1 + 1) (drop (suc i) (list_of vs)))
    ∙ (ap (λ ps. claims_with_listings now (listings_in_folders_from m member (i + 1) ps)) (sym (front vs i h)) ∙ inv))

pub folders_added : (old now : List PathClaim) (m : Member) (member : ℕ) (vs : Plains) (i : ℕ) → count_of vs ≤ i
    → FoldersLeft old now m member vs i → now ≡ claims_with_listings old (listings_in_folders_from m member 1 (list_of vs))
folders_added old now m member vs i h inv =
    ap (λ ps. claims_with_listings now (listings_in_folders_from m member (i + 1) ps)) (sym (none_listed vs i h)) ∙ inv

-- ---- members

abbrev pub MembersLeft : List PathClaim → List Member → ℕ → Type 0
MembersLeft now members i =
    claims_with_listings now (listings_of_members_from i (drop i members)) ≡ claims_with_listings [] (listings_of_members_from 0 members)

front_member : (ms : List Member) (i : ℕ) → i < length ms → (m : Member) × (slice_get ms i ≡ Some m) × (drop i ms ≡ m ∷ drop (suc i) ms)
front_member [] i h = absurd (omega arith)
front_member (m ∷ ms) zero h = (m, refl, refl)
front_member (m ∷ ms) (suc i) h = front_member ms i (omega arith)

past_members : (ms : List Member) (i : ℕ) → length ms ≤ i → drop i ms ≡ []
past_members [] zero h = refl
past_members [] (suc i) h = refl
past_members (m ∷ ms) zero h = absurd (omega arith)
past_members (m ∷ ms) (suc i) h = past_members ms i (omega arith)

pub member_added : (now new : List PathClaim) (ms : List Member) (i : ℕ) → i < length ms
    → ((m : Member) → slice_get ms i ≡ Some m → new ≡ claims_with_listings now (listings_of_member i m))
    → MembersLeft now ms i → MembersLeft new ms (i + 1)
member_added now new ms i h add inv =
    let s : i + 1 ≡ suc i = omega arith in
    let f = front_member ms i h in
    (λ j. claims_with_listings (add f.0 f.1 j) (listings_of_members_from (i + 1) (drop (s j) ms)))
    ∙ (with_more now (listings_of_member i f.0) (listings_of_members_from (i + 1) (drop (suc i) ms))
    ∙ (ap (λ xs. claims_with_listings now (listings_of_members_from i xs)) (sym f.2) ∙ inv))

pub members_added : (now : List PathClaim) (ms : List Member) (i : ℕ) → length ms ≤ i → MembersLeft now ms i → now ≡ claims_with_listings [] (listings_of_members ms)
unfolding listings_of_members
members_added now ms i h inv = ap (λ xs. claims_with_listings now (listings_of_members_from i xs)) (sym (past_members ms i h)) ∙ inv
