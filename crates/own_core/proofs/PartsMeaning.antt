-- The parts of a change and their lists, over the files of the tree, and what is known of them over any tree.
use Rattle.std.proofs.Common.{◌≡◌, ℕ, suc, zero, Bool, true, false, cond, List, [], ◌∷◌, ◌++◌, map, Some, refl, ap, sym, ◌∙◌, subst, true≢false}
use Rattle.std.specs.Prelude.{slice_get, option_and_then, is_some}
use Rattle.std.specs.List.{filter, find}
use Rattle.std.specs.List.Sorted.{IsSorted}
use Rattle.base_core.specs.Files.{Files}
use Rattle.base_core.specs.Tree.{TreeState}
use Rattle.base_core.proofs.Rising as Names
use Rattle.base_core.specs.Sorted.{sorted_by}
use Rattle.base_core.proofs.Sorting.{Each}
use Rattle.file_owners.specs.db_core.Seen.{members_of}
use Rattle.file_owners.specs.db_core.Members.{members_of_kept}
use Rattle.path_claim_lists.specs.path_claims.Claims.{PathClaim, claim_cmp, is_claim_of_path}
use Rattle.path_claim_lists.proofs.path_claims.Places.{no_some, value_or}
use Rattle.path_claim_lists.specs.Named.{HaveValidPaths}
use Rattle.path_claim_lists.specs.Once.{HasFirstClaimOfEachPath}
use Rattle.path_claim_lists.proofs.Firsts.{paths}
use Rattle.file_owners.specs.Owners.{claims_in}
use Rattle.own_core.specs.Fate as Fates
use Rattle.own_core.specs.Fate.{gives_way, goes_aside, goes_in}
use Rattle.own_core.specs.FileChange.{FileChange}
use Rattle.own_core.specs.FilesAfter.{listing_written_as_apk_new_beside, path_of_apk_new_name}
use Rattle.own_core.specs.ClaimEntries.{AreClaimsOf, claim_entry, is_of_added_owner}
use Rattle.own_core.specs.Fates.{claim_fate, are_equal_fates, are_equal_flags, is_apk_new_name_free, marked_claims}
use Rattle.own_core.specs.Found.{AreAnswersByFiles, results_for_claims}
use Rattle.own_core.specs.Going.{is_file_kept, is_apk_new_name_of, is_path_left_over}
use Rattle.own_core.specs.ListsSeen.{AreListsOfParts}
use Rattle.own_core.specs.Parts.{AreFilesByFate, apk_new_claims_of, kept_claims_of, left_over_claims_of, removed_claims_of, written_claims_of}
use Rattle.own_core.specs.Planned.{ArePlanLists}
use Rattle.own_core.specs.Sides.{HasClaimsOfPackages, claims_after, claims_before, file_change_of}
use Rattle.own_core.specs.WritesSeen.{CanHaveApkNewNames, apk_new_write, claim_write, write_cmp}
use Rattle.own_core.specs.declared.claim_change.ClaimChange.{ClaimChange}
use Rattle.own_core.specs.declared.planning.FilePlan.{FilePlan}
use Rattle.own_core.specs.declared.parts.Parts.{Parts}
use Rattle.own_core.proofs.ChangeClaims.{rising_sorted}
use Rattle.own_core.proofs.Kept.{marked_by}
use Rattle.own_core.proofs.MarkedClaims.{found_from, filter_from, marked_from, marked_rises, filtered_rises}
use Rattle.own_core.proofs.OwnNames.{aside_free, is_short}
use Rattle.own_core.proofs.Meaning.{aside_are, beside_is, going, kept_are, removals_are, with_fate}
use Rattle.own_core.proofs.WritesMeaning.{each_finds_itself, writes_are}

-- ---- claims that come, over any tree

pub each_at : (P : PathClaim → Type 0) (cs : List PathClaim) → Each P cs → (i : ℕ) (c : PathClaim) → slice_get cs i ≡ Some c → P c
each_at P [] h i c g = absurd (no_some c g)
each_at P (d ∷ cs) h zero c g = subst P (ap (value_or d) g) h.0
each_at P (d ∷ cs) h (suc i) c g = each_at P cs h.1 i c g

pub coming_claims_of : (change : ClaimChange) → HasClaimsOfPackages change → (coming : List PathClaim) → HasFirstClaimOfEachPath (filter (is_of_added_owner (members_of change.members.now)) (claims_after change)) coming
    → AreClaimsOf (members_of change.members.now) coming
coming_claims_of change h coming firsts i c g =
    let here = each_at (λ d. find (is_claim_of_path d.path) coming ≡ Some d) coming (each_finds_itself coming (Names.rises_from_pairs (paths coming) firsts.rising)) i c g in
    let one = found_from (is_claim_of_path c.path) (filter (is_of_added_owner (members_of change.members.now)) (claims_after change)) c (sym (firsts.each c.path) ∙ here) in
    let two = filter_from (is_of_added_owner (members_of change.members.now)) (claims_after change) one.0 c one.1 in
    h.new_files two.0 c two.1

-- ---- names of the parts

names_marked : {Y : Type 0} (test : Y → Bool) (cs xs : List PathClaim) (ms : List Y) → HaveValidPaths cs → xs ≡ marked_claims test cs ms → HaveValidPaths xs
names_marked test cs xs ms h e i c g = let f = marked_from test cs ms i c (ap (λ ys. slice_get ys i) (sym e) ∙ g) in h f.0 c f.1

pub ins_named : (change : ClaimChange) (history : List TreeState) (coming : List PathClaim) (parts : Parts) → AreClaimsOf (members_of change.members.now) coming → AreFilesByFate change history coming parts → HaveValidPaths (written_claims_of parts)
ins_named change history coming parts h p = names_marked (are_equal_fates goes_in) coming (written_claims_of parts) p.fates (λ i c g. (h i c g).name) p.ins

left_named : (change : ClaimChange) → HasClaimsOfPackages change → (asides : List PathClaim) → HaveValidPaths (left_over_claims_of change asides)
left_named change h asides i c g =
    let f = filter_from (λ d. is_path_left_over (file_change_of change) asides d.path) (claims_before change) i c g in (h.old_files f.0 c f.1).name

pub removed_named : (change : ClaimChange) (history : List TreeState) (coming : List PathClaim) (parts : Parts) → HasClaimsOfPackages change → AreFilesByFate change history coming parts → HaveValidPaths (removed_claims_of parts)
removed_named change history coming parts h p = names_marked (are_equal_flags false) (left_over_claims_of change (apk_new_claims_of parts)) (removed_claims_of parts) p.stays (left_named change h (apk_new_claims_of parts)) p.removed

pub kept_named : (change : ClaimChange) (history : List TreeState) (coming : List PathClaim) (parts : Parts) → HasClaimsOfPackages change → AreFilesByFate change history coming parts → HaveValidPaths (kept_claims_of parts)
kept_named change history coming parts h p = names_marked (are_equal_flags true) (left_over_claims_of change (apk_new_claims_of parts)) (kept_claims_of parts) p.stays (left_named change h (apk_new_claims_of parts)) p.kept

room_of : (change : FileChange) (h : List TreeState) (cs : List PathClaim) (fs : List Fates.AddedFileFate) → AreAnswersByFiles (claim_fate change) h cs fs
    → (i : ℕ) (c : PathClaim) → slice_get (marked_claims (are_equal_fates goes_aside) cs fs) i ≡ Some c → is_apk_new_name_free change c.path ≡ true
room_of change h [] fs are i c g = absurd (no_some c g)
room_of change h (d ∷ cs) [] are i c g = absurd are
room_of change h (d ∷ cs) (f ∷ fs) are i c g = go (are_equal_fates goes_aside f) refl i (λ j k. room_of change h cs fs are.1 j c k) g
  where
    is_it : (f : Fates.AddedFileFate) → are_equal_fates goes_aside f ≡ true → f ≡ goes_aside
    is_it goes_in e = absurd (true≢false (sym e))
    is_it gives_way e = absurd (true≢false (sym e))
    is_it goes_aside e = refl

    go : (b : Bool) → are_equal_fates goes_aside f ≡ b → (i : ℕ) → ((j : ℕ) → slice_get (marked_claims (are_equal_fates goes_aside) cs fs) j ≡ Some c → is_apk_new_name_free change c.path ≡ true)
        → slice_get (cond b (d ∷ marked_claims (are_equal_fates goes_aside) cs fs) (marked_claims (are_equal_fates goes_aside) cs fs)) i ≡ Some c → is_apk_new_name_free change c.path ≡ true
    go true e zero rest k = ap (λ x. is_apk_new_name_free change x.path) (sym (ap (value_or d) k)) ∙ aside_free change d.path (claim_entry change.members d) are.0.found (sym are.0.is ∙ is_it f e)
    go true e (suc i) rest k = rest i k
    go false e i rest k = rest i k

pub asides_named : (change : ClaimChange) (history : List TreeState) (coming : List PathClaim) (parts : Parts) → AreClaimsOf (members_of change.members.now) coming → AreFilesByFate change history coming parts → CanHaveApkNewNames (apk_new_claims_of parts)
asides_named change history coming parts h p i c g =
    let k = ap (λ ys. slice_get ys i) (sym p.asides) ∙ g in
    let f = marked_from (are_equal_fates goes_aside) coming p.fates i c k in
    record { name = (h f.0 c f.1).name; short = is_short (file_change_of change) c.path (room_of (file_change_of change) history coming p.fates p.fates_found i c k) }

pub kept_sorted : (change : ClaimChange) (history : List TreeState) (coming : List PathClaim) (parts : Parts) → HasClaimsOfPackages change → AreFilesByFate change history coming parts → IsSorted claim_cmp (kept_claims_of parts)
kept_sorted change history coming parts h p =
    rising_sorted (kept_claims_of parts)
    (Names.pairs_from_rises (paths (kept_claims_of parts))
    (subst (λ cs. Names.Rises (paths cs)) (sym p.kept)
    (marked_rises (are_equal_flags true) (left_over_claims_of change (apk_new_claims_of parts)) p.stays
    (filtered_rises (λ c. is_path_left_over (file_change_of change) (apk_new_claims_of parts) c.path) (claims_before change) (Names.rises_from_pairs (paths (claims_before change)) h.before.rising)))))

-- ---- over files under whose paths the values were found

module _ (change : ClaimChange) (claims : HasClaimsOfPackages change) (coming : List PathClaim) (firsts : HasFirstClaimOfEachPath (filter (is_of_added_owner (members_of change.members.now)) (claims_after change)) coming)
    (parts : Parts) (history : List TreeState) (are : AreFilesByFate change history coming parts) (files : Files)
    (fates_are : are.fates ≡ results_for_claims (claim_fate (file_change_of change)) files coming) (stays_are : are.stays ≡ results_for_claims (is_file_kept (file_change_of change)) files (left_over_claims_of change (apk_new_claims_of parts))) where
  pub up : Names.Rises (paths coming)
  up = Names.rises_from_pairs (paths coming) firsts.rising

  pub each : (q : List ℕ) → find (is_claim_of_path q) coming ≡ find (is_claim_of_path q) (filter (is_of_added_owner (members_of change.members.now)) (sorted_by claim_cmp (claims_in (members_of change.members.now))))
  each q = firsts.each q ∙ ap (λ cs. find (is_claim_of_path q) (filter (is_of_added_owner (members_of change.members.now)) cs)) claims.after

  by_fate : (f : Fates.AddedFileFate) (xs : List PathClaim) → xs ≡ marked_claims (are_equal_fates f) coming are.fates → xs ≡ with_fate (file_change_of change) files coming up each f
  by_fate f xs e = e ∙ (ap (marked_claims (are_equal_fates f) coming) fates_are ∙ marked_by (are_equal_fates f) (λ c. claim_fate (file_change_of change) c (files c.path)) coming)

  pub asides_are : apk_new_claims_of parts ≡ with_fate (file_change_of change) files coming up each goes_aside
  asides_are = by_fate goes_aside (apk_new_claims_of parts) are.asides

  pub ins_are : written_claims_of parts ≡ with_fate (file_change_of change) files coming up each goes_in
  ins_are = by_fate goes_in (written_claims_of parts) are.ins

  pub beside_parts : (q : List ℕ) → is_apk_new_name_of (apk_new_claims_of parts) q ≡ is_some (option_and_then (listing_written_as_apk_new_beside (file_change_of change) files) (path_of_apk_new_name q))
  beside_parts q = ap (λ cs. is_apk_new_name_of cs q) asides_are ∙ beside_is (file_change_of change) files coming up each q

  pub before_up : Names.Rises (paths (claims_before change))
  before_up = Names.rises_from_pairs (paths (claims_before change)) claims.before.rising

  pub before_each : (q : List ℕ) → find (is_claim_of_path q) (claims_before change) ≡ find (is_claim_of_path q) (sorted_by claim_cmp (claims_in (members_of_kept (file_change_of change).old)))
  before_each q = claims.before.each q

  by_flag : (b : Bool) (xs : List PathClaim) → xs ≡ marked_claims (are_equal_flags b) (left_over_claims_of change (apk_new_claims_of parts)) are.stays
      → xs ≡ going (file_change_of change) files (claims_before change) before_up before_each (apk_new_claims_of parts) beside_parts b
  by_flag b xs e =
      e ∙ (ap (marked_claims (are_equal_flags b) (left_over_claims_of change (apk_new_claims_of parts))) stays_are ∙ marked_by (are_equal_flags b) (λ c. is_file_kept (file_change_of change) c (files c.path)) (left_over_claims_of change (apk_new_claims_of parts)))

  pub kept_parts : kept_claims_of parts ≡ going (file_change_of change) files (claims_before change) before_up before_each (apk_new_claims_of parts) beside_parts true
  kept_parts = by_flag true (kept_claims_of parts) are.kept

  pub removed_parts : removed_claims_of parts ≡ going (file_change_of change) files (claims_before change) before_up before_each (apk_new_claims_of parts) beside_parts false
  removed_parts = by_flag false (removed_claims_of parts) are.removed

  pub planned : (owned : List Bool) (plan : FilePlan) → AreListsOfParts parts owned plan → ArePlanLists (file_change_of change) files plan
  planned owned plan lists = record {
    removals = lists.removals ∙ (ap paths removed_parts ∙ removals_are (file_change_of change) files (claims_before change) before_up before_each (apk_new_claims_of parts) beside_parts);
    writes = lists.writes ∙ ((λ j. sorted_by write_cmp (map claim_write (ins_are j) ++ map apk_new_write (asides_are j))) ∙ writes_are (file_change_of change) files coming up each);
    aside = lists.aside ∙ (ap paths asides_are ∙ aside_are (file_change_of change) files coming up each);
    kept = lists.kept ∙ (ap paths kept_parts ∙ kept_are (file_change_of change) files (claims_before change) before_up before_each (apk_new_claims_of parts) beside_parts);
  }
