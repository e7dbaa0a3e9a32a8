-- What the parts of a change ask for, and what they give.
use Rattle.std.proofs.Common.{◌≡◌, ℕ, suc, zero, Bool, true, false, List, [], ◌∷◌, ◌++◌, map, All, Option, Some, Result, Ok, Err, refl, sym, ◌∙◌, subst, arith}
use Rattle.std.specs.Prelude.{◌&&◌, ◌||◌, not, slice_get, option_map, is_some, bytes_eq, if◌then◌else◌, IfOk}
use Rattle.std.specs.List.{filter, find, list_any}
use Rattle.std.specs.List.Sorted.{IsSorted}
use Rattle.std.specs.Ordering.{is_gt}
use Rattle.base_core.specs.Calls.{IfObservable}
use Rattle.base_core.specs.Name.{IsName}
use Rattle.base_core.specs.Tree.{TreeState, files_of}
use Rattle.base_core.specs.declared.tree.TreeFault.{TreeFault}
use Rattle.base_core.proofs.Rising as Names
use Rattle.root_names.proofs.RootNamesAreNames.{database_named, world_named}
use Rattle.base_core.specs.ByteOrder.{bytes_cmp}
use Rattle.base_core.specs.Sorted.{sorted_by, with_element_inserted}
use Rattle.base_core.proofs.Sorting.{Each, sorted_up}
use Rattle.base_core.proofs.Orderings.{names_total}
use Rattle.file_owners.specs.db_core.Members.{Member, listings_of_members, members_of_kept}
use Rattle.file_owners.specs.db_core.Seen.{members_of, packages_of}
use Rattle.path_claim_lists.specs.path_claims.Claims.{PathClaim, claim_cmp, is_claim_of_path}
use Rattle.path_claim_lists.specs.path_clashes.Clash.{NameChange}
use Rattle.path_claim_lists.specs.path_clashes.ClashSeen.{clash_seen}
use Rattle.path_claim_lists.specs.path_clashes.FirstClash.{IsFirstClashOrNone, IsFirstClashOverSomeFiles}
use Rattle.path_claim_lists.specs.path_clashes.declared.clash.Clash.{Clash}
use Rattle.path_claim_lists.specs.Once.{HasFirstClaimOfEachPath}
use Rattle.path_claim_lists.proofs.Firsts.{paths}
use Rattle.file_owners.specs.Owners.{claims_in}
use Rattle.own_core.specs.Fate.{apk_new_name}
use Rattle.own_core.specs.FilesAfter.{database_name, world_name}
use Rattle.own_core.specs.NamesAfter.{name_change}
use Rattle.own_core.specs.ClaimEntries.{AreClaimsOf, is_added_at, is_of_added_owner}
use Rattle.own_core.specs.Fates.{claim_fate}
use Rattle.own_core.specs.Going.{is_file_kept}
use Rattle.own_core.specs.Parts.{AreFilesByFate, apk_new_claims_of, kept_claims_of, left_over_claims_of}
use Rattle.own_core.specs.NamesChanged.{is_name_released_by_parts, name_change_of_parts, written_names_of_parts}
use Rattle.own_core.specs.Sides.{HasClaimsOfPackages, claims_after, claims_before, file_change_of}
use Rattle.own_core.specs.WritesSeen.{CanHaveApkNewNames}
use Rattle.own_core.specs.declared.claim_change.ClaimChange.{ClaimChange}
use Rattle.own_core.specs.declared.parts.Parts.{Parts}
use Rattle.own_core.proofs.Endings.{aside_is_name}
use Rattle.own_core.proofs.FoundFiles.{by_tree}
use Rattle.own_core.proofs.Listings.{are_claims, each_both}
use Rattle.own_core.proofs.NameChanges.{all_written, same_names}
use Rattle.own_core.proofs.MarkedClaims.{files_kept, found_from}
use Rattle.own_core.proofs.PartsMeaning.{each_at}
use Rattle.own_core.proofs.WritesMeaning.{each_finds_itself}

-- ---- names that are written

pub sorted_list : (xs ys : List (List ℕ)) → xs ≡ sorted_by bytes_cmp ys → IsSorted bytes_cmp xs
sorted_list xs ys e = subst (IsSorted bytes_cmp) (sym e) (sorted_up bytes_cmp names_total ys)

name_with : (x : List ℕ) (ys : List (List ℕ)) → IsName x → Each IsName ys → Each IsName (with_element_inserted bytes_cmp x ys)
name_with x [] n h = (n, tt)
name_with x (y ∷ ys) n h = go (is_gt (bytes_cmp x y)) (name_with x ys n h.1)
  where
    go : (b : Bool) → Each IsName (with_element_inserted bytes_cmp x ys) → Each IsName (if b then y ∷ with_element_inserted bytes_cmp x ys else x ∷ y ∷ ys)
    go true rest = (h.0, rest)
    go false rest = (n, h)

names_sorted : (xs : List (List ℕ)) → Each IsName xs → Each IsName (sorted_by bytes_cmp xs)
names_sorted [] h = tt
names_sorted (x ∷ xs) h = name_with x (sorted_by bytes_cmp xs) h.0 (names_sorted xs h.1)

all_each : (P : List ℕ → Type 0) (xs : List (List ℕ)) → Each P xs → All P xs
all_each P [] h k d l = absurd (omega arith)
all_each P (x ∷ xs) h zero d l = h.0
all_each P (x ∷ xs) h (suc k) d l = all_each P xs h.1 k d (omega arith)

each_from_at : (P : PathClaim → Type 0) (cs : List PathClaim) → ((i : ℕ) (c : PathClaim) → slice_get cs i ≡ Some c → P c) → Each P cs
each_from_at P [] h = tt
each_from_at P (c ∷ cs) h = (h zero c refl, each_from_at P cs (λ i d g. h (suc i) d g))

each_mapped : (P : PathClaim → Type 0) (Q : List ℕ → Type 0) (f : PathClaim → List ℕ) → ((c : PathClaim) → P c → Q (f c)) → (cs : List PathClaim) → Each P cs → Each Q (map f cs)
each_mapped P Q f g [] h = tt
each_mapped P Q f g (c ∷ cs) h = (g c h.0, each_mapped P Q f g cs h.1)

pub written_named : (change : ClaimChange) → HasClaimsOfPackages change → (asides : List PathClaim) → CanHaveApkNewNames asides → (xs : List (List ℕ)) → xs ≡ sorted_by bytes_cmp (all_written change (map (λ c. apk_new_name c.path) asides)) → All IsName xs
written_named change claims asides beside xs e =
    subst (All IsName) (sym e) (all_each IsName (sorted_by bytes_cmp (all_written change (map (λ c. apk_new_name c.path) asides)))
    (names_sorted (all_written change (map (λ c. apk_new_name c.path) asides))
    (each_both IsName ((database_name ∷ world_name ∷ []) ++ map (λ c. c.path) (filter (λ c. is_added_at (members_of change.members.now) c.member) (claims_after change))) (map (λ c. apk_new_name c.path) asides)
    (each_both IsName (database_name ∷ world_name ∷ []) (map (λ c. c.path) (filter (λ c. is_added_at (members_of change.members.now) c.member) (claims_after change)))
    (database_named, (world_named, tt))
    (each_mapped (λ c. IsName c.path) IsName (λ c. c.path) (λ c n. n) (filter (λ c. is_added_at (members_of change.members.now) c.member) (claims_after change))
    (each_from_at (λ c. IsName c.path) (filter (λ c. is_added_at (members_of change.members.now) c.member) (claims_after change))
    (λ i c g. (files_kept (members_of change.members.now) (λ c. is_added_at (members_of change.members.now) c.member) (claims_after change) (filter (λ c. is_added_at (members_of change.members.now) c.member) (claims_after change)) claims.new_files refl i c g).name))))
    (each_mapped (λ c. IsName (apk_new_name c.path)) IsName (λ c. apk_new_name c.path) (λ c n. n) asides
    (each_from_at (λ c. IsName (apk_new_name c.path)) asides (λ i c g. aside_is_name c.path (beside i c g).name (beside i c g).short))))))

-- ---- the clash that is told

pub clash_is : (change : ClaimChange) → HasClaimsOfPackages change → (coming : List PathClaim) → HasFirstClaimOfEachPath (filter (is_of_added_owner (members_of change.members.now)) (claims_after change)) coming
    → (parts : Parts) (h : List TreeState) → AreFilesByFate change h coming parts → (counts lets : List ℕ → Bool)
    → ((name : List ℕ) → counts name ≡ list_any (bytes_eq name) (sorted_by bytes_cmp (all_written change (map (λ c. apk_new_name c.path) (apk_new_claims_of parts)))))
    → ((name : List ℕ) → lets name ≡ (is_some (find (is_claim_of_path name) (claims_before change)) && not (is_some (find (is_claim_of_path name) (claims_after change)) || is_some (find (is_claim_of_path name) (kept_claims_of parts)))))
    → (r : Result (Option Clash) TreeFault)
    → IfOk r (λ found. IfObservable h (λ v. IsFirstClashOrNone (record { counts_as_written = counts; does_release = lets }) (files_of v) (option_map clash_seen found)))
    → IfOk r (λ found. IfObservable h (λ v. IsFirstClashOrNone (name_change (file_change_of change) (files_of v)) (files_of v) (option_map clash_seen found)))
clash_is change claims coming firsts parts h are counts lets c l (Err fault) told = tt
clash_is change claims coming firsts parts [] are counts lets c l (Ok found) told = tt
clash_is change claims coming firsts parts (v ∷ earlier) are counts lets c l (Ok found) told =
    subst (λ (n : NameChange). IsFirstClashOrNone n (files_of v) (option_map clash_seen found))
    (same_names change claims coming firsts parts (v ∷ earlier) are (files_of v) (by_tree (claim_fate (file_change_of change)) v earlier coming are.fates are.fates_found)
    (by_tree (is_file_kept (file_change_of change)) v earlier (left_over_claims_of change (apk_new_claims_of parts)) are.stays are.stays_found) counts lets c l) told

pub clash_may : (change : ClaimChange) (parts : Parts) (counts lets : List ℕ → Bool)
    → ((name : List ℕ) → counts name ≡ list_any (bytes_eq name) (sorted_by bytes_cmp (written_names_of_parts change parts))) → ((name : List ℕ) → lets name ≡ is_name_released_by_parts change parts name)
    → (r : Result (Option Clash) TreeFault) → IfOk r (λ found. IsFirstClashOverSomeFiles (record { counts_as_written = counts; does_release = lets }) (option_map clash_seen found))
    → IfOk r (λ found. IsFirstClashOverSomeFiles (name_change_of_parts change parts) (option_map clash_seen found))
clash_may change parts counts lets c l r =
    subst (λ (n : NameChange). IfOk r (λ found. IsFirstClashOverSomeFiles n (option_map clash_seen found))) (λ i. record { counts_as_written = λ name. c name i; does_release = λ name. l name i })

-- ---- the claims of a change

pub files_first : (members : List Member) (all firsts : List PathClaim) → AreClaimsOf members all → HasFirstClaimOfEachPath all firsts → AreClaimsOf members firsts
files_first members all firsts h f i c g =
    let here = each_at (λ d. find (is_claim_of_path d.path) firsts ≡ Some d) firsts (each_finds_itself firsts (Names.rises_from_pairs (paths firsts) f.rising)) i c g in
    let k = found_from (is_claim_of_path c.path) all c (sym (f.each c.path) ∙ here) in
    h k.0 c k.1

pub has_claims : (change : ClaimChange) → All (λ l. IsName l.path) (listings_of_members (members_of_kept (packages_of change.db.now))) → All (λ l. IsName l.path) (listings_of_members (members_of change.members.now))
    → (listed : List PathClaim) → listed ≡ sorted_by claim_cmp (claims_in (members_of_kept (packages_of change.db.now))) → HasFirstClaimOfEachPath listed (claims_before change) → claims_after change ≡ sorted_by claim_cmp (claims_in (members_of change.members.now))
    → HasClaimsOfPackages change
has_claims change old new listed e firsts after = record {
  before = subst (λ (cs : List PathClaim). HasFirstClaimOfEachPath cs (claims_before change)) e firsts;
  after = after;
  old_files = files_first (members_of_kept (packages_of change.db.now)) listed (claims_before change) (are_claims (members_of_kept (packages_of change.db.now)) listed old e) firsts;
  new_files = are_claims (members_of change.members.now) (claims_after change) new after;
}
