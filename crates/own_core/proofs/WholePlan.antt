-- The plan as a whole.
use Rattle.std.proofs.Common.{◌≡◌, inl, inr, ℕ, Bool, true, false, cond, List, [], ◌∷◌, map, Option, Some, None, Ok, refl, ap, sym, ◌∙◌, subst, true≢false}
use Rattle.std.specs.Prelude.{not, is_some, option_map}
use Rattle.std.specs.List.{filter}
use Rattle.std.proofs.lemmas.Bool.{and_parts}
use Rattle.base_core.specs.Calls.{IfObservable}
use Rattle.base_core.specs.Faults.{Counts}
use Rattle.base_core.specs.Read.{OnlyReads}
use Rattle.base_core.specs.Tree.{TreeState, files_of}
use Rattle.base_core.specs.Files.{Files}
use Rattle.base_core.proofs.Rising as Names
use Rattle.base_core.proofs.Counting.{readings_two}
use Rattle.file_owners.specs.db_core.Members.{Member}
use Rattle.file_owners.specs.db_core.Seen.{members_of}
use Rattle.path_claim_lists.specs.path_claims.Claims.{PathClaim, is_claim_of_path}
use Rattle.path_claim_lists.specs.path_claims.Seen.{claim_seen}
use Rattle.path_claim_lists.specs.path_claims.declared.claim.Claim.{Claim}
use Rattle.path_claim_lists.specs.path_clashes.Clash.{HasNoClash, NameChange, NamePair}
use Rattle.path_claim_lists.specs.path_clashes.ClashSeen.{clash_seen}
use Rattle.path_claim_lists.specs.path_clashes.FirstClash.{IsFirstClashOrNone, IsFirstClashOverSomeFiles}
use Rattle.path_claim_lists.specs.path_clashes.declared.clash.Clash.{Clash}
use Rattle.path_claim_lists.specs.Once.{HasFirstClaimOfEachPath}
use Rattle.path_claim_lists.proofs.Firsts.{found_in, paths}
use Rattle.path_claim_lists.proofs.Lists.{found_passes, found_some}
use Rattle.own_core.specs.FileChange.{is_listed_after_change}
use Rattle.own_core.specs.NamesAfter.{name_change}
use Rattle.own_core.specs.ClaimEntries.{AreClaimsOf, is_of_added_owner}
use Rattle.own_core.specs.Fates.{claim_fate}
use Rattle.own_core.specs.Going.{is_file_kept, is_apk_new_name_of, is_path_left_over}
use Rattle.own_core.specs.ListsSeen.{AreListsOfParts}
use Rattle.own_core.specs.Parts.{AreFilesByFate, apk_new_claims_of, left_over_claims_of}
use Rattle.own_core.specs.NamesChanged.{name_change_of_parts}
use Rattle.own_core.specs.Planned.{IsClashBySome, IsContestedPathFaultWithRivals, IsPlanOverSomeFiles, MayBeRefusalOf}
use Rattle.own_core.specs.Sides.{HasClaimsOfPackages, claims_after, claims_before, file_change_of}
use Rattle.own_core.specs.declared.claim_change.ClaimChange.{ClaimChange}
use Rattle.own_core.specs.declared.fault.PlanFault.{PlanFault}
use Rattle.own_core.specs.declared.fault.PlanFault.TheVariants.{Disk, Memory, Owned, PathClash, Reserved}
use Rattle.own_core.specs.declared.planning.FilePlan.{FilePlan}
use Rattle.own_core.specs.declared.parts.Parts.{Parts}
use Rattle.own_core.proofs.ChangeClaims.{claimed_after}
use Rattle.own_core.proofs.NameChanges.{same_names}
use Rattle.own_core.proofs.FoundFiles.{AreFilesFound, files_found}
use Rattle.own_core.proofs.MarkedClaims.{filter_from, filtered_rises, found_from}
use Rattle.own_core.proofs.PartsMeaning.{planned}
use Rattle.own_core.proofs.MarkedClaims.{files_kept}
use Rattle.own_core.proofs.PlanParts.{files_first}

-- the claims of owners that come, over other copies of the lists
pub firsts_over : (members : List Member) (all again coming once : List Claim) → again ≡ all → once ≡ coming → HasFirstClaimOfEachPath (filter (is_of_added_owner members) (map claim_seen again)) (map claim_seen coming)
    → HasFirstClaimOfEachPath (filter (is_of_added_owner members) (map claim_seen all)) (map claim_seen once)
firsts_over members all again coming once e o h =
    subst (λ (xs : List Claim). HasFirstClaimOfEachPath (filter (is_of_added_owner members) (map claim_seen all)) (map claim_seen xs)) (sym o)
    (subst (λ (xs : List Claim). HasFirstClaimOfEachPath (filter (is_of_added_owner members) (map claim_seen xs)) (map claim_seen coming)) e h)

pub coming_files_of : (members : List Member) (all : List PathClaim) (coming : List PathClaim) → AreClaimsOf members all → HasFirstClaimOfEachPath (filter (is_of_added_owner members) all) coming → AreClaimsOf members coming
coming_files_of members all coming h firsts =
    files_first members (filter (is_of_added_owner members) all) coming (files_kept members (is_of_added_owner members) all (filter (is_of_added_owner members) all) h refl) firsts

left_passes : (p : PathClaim → Bool) (cs : List PathClaim) (q : List ℕ) → Names.IsIn q (paths (filter p cs)) → (c : PathClaim) × (c.path ≡ q) × (p c ≡ true)
left_passes p [] q here = absurd here
left_passes p (c ∷ cs) q here = go (p c) refl (left_passes p cs q) here
  where
    go : (b : Bool) → p c ≡ b → (Names.IsIn q (paths (filter p cs)) → (d : PathClaim) × (d.path ≡ q) × (p d ≡ true)) → Names.IsIn q (paths (cond b (c ∷ filter p cs) (filter p cs))) → (d : PathClaim) × (d.path ≡ q) × (p d ≡ true)
    go true e rest (inl is) = (c, sym is, e)
    go true e rest (inr old) = rest old
    go false e rest old = rest old

not_both : (b : Bool) → b ≡ true → not b ≡ true → ⊥
not_both b is off = true≢false (sym off ∙ ap not is)

-- a path of a file that comes is listed after the change, and one that is left over is not
listed_after : (change : ClaimChange) → HasClaimsOfPackages change → (coming : List PathClaim) → HasFirstClaimOfEachPath (filter (is_of_added_owner (members_of change.members.now)) (claims_after change)) coming
    → (q : List ℕ) → Names.IsIn q (paths coming) → is_listed_after_change (file_change_of change) q ≡ true
listed_after change claims coming firsts q here =
    let one = found_in coming q here in
    let all = sym (firsts.each q) ∙ one.1 in
    let kept = found_from (is_claim_of_path q) (filter (is_of_added_owner (members_of change.members.now)) (claims_after change)) one.0 all in
    let at = filter_from (is_of_added_owner (members_of change.members.now)) (claims_after change) kept.0 one.0 kept.1 in
    let some = found_some (is_claim_of_path q) (claims_after change) at.0 one.0 at.1 (found_passes (is_claim_of_path q) coming one.0 one.1) in
    sym (claimed_after change claims q) ∙ ap is_some some.1

left_unlisted : (change : ClaimChange) (asides : List PathClaim) (q : List ℕ) → Names.IsIn q (paths (left_over_claims_of change asides)) → not (is_listed_after_change (file_change_of change) q) ≡ true
left_unlisted change asides q here =
    let (c, is, left) = left_passes (λ c. is_path_left_over (file_change_of change) asides c.path) (claims_before change) q here in
    ap (λ path. not (is_listed_after_change (file_change_of change) path)) (sym is) ∙ (and_parts (not (is_listed_after_change (file_change_of change) c.path)) (not (is_apk_new_name_of asides c.path)) left).0

-- ---- the plan

module _ (change : ClaimChange) (claims : HasClaimsOfPackages change) (coming : List PathClaim) (firsts : HasFirstClaimOfEachPath (filter (is_of_added_owner (members_of change.members.now)) (claims_after change)) coming)
    (parts : Parts) (h : List TreeState) (are : AreFilesByFate change h coming parts) where
  over_files : AreFilesFound (claim_fate (file_change_of change)) (is_file_kept (file_change_of change)) h coming (left_over_claims_of change (apk_new_claims_of parts)) are.fates are.stays
  over_files = files_found (claim_fate (file_change_of change)) (is_file_kept (file_change_of change)) h coming (left_over_claims_of change (apk_new_claims_of parts)) are.fates are.stays
      (Names.rises_from_pairs (paths coming) firsts.rising)
      (filtered_rises (λ c. is_path_left_over (file_change_of change) (apk_new_claims_of parts) c.path) (claims_before change) (Names.rises_from_pairs (paths (claims_before change)) claims.before.rising))
      (λ q here there. not_both (is_listed_after_change (file_change_of change) q) (listed_after change claims coming firsts q here) (left_unlisted change (apk_new_claims_of parts) q there))
      are.fates_found are.stays_found

  no_clash_over : (h : List TreeState) (files : Files) → IfObservable h (λ v. files ≡ files_of v) → (found : Option Clash) → found ≡ None
      → IfObservable h (λ v. IsFirstClashOrNone (name_change (file_change_of change) (files_of v)) (files_of v) (option_map clash_seen found)) → IfObservable h (λ v. HasNoClash (name_change (file_change_of change) files) files)
  no_clash_over [] files is found none told = tt
  no_clash_over (v ∷ earlier) files is found none told =
      subst (λ (g : Files). HasNoClash (name_change (file_change_of change) g) g) (sym is)
      (subst (λ (o : Option Clash). IsFirstClashOrNone (name_change (file_change_of change) (files_of v)) (files_of v) (option_map clash_seen o)) none told)

  -- the names that the change writes and lets go of, by the files that were found
  names_are : (clash : Option NamePair) → IsFirstClashOverSomeFiles (name_change_of_parts change parts) clash → IsFirstClashOverSomeFiles (name_change (file_change_of change) over_files.files) clash
  names_are clash =
      subst (λ (n : NameChange). IsFirstClashOverSomeFiles n clash) (same_names change claims coming firsts parts h are over_files.files over_files.one over_files.other _ _ (λ name. refl) (λ name. refl))

  clash_by_some : (clash : Option NamePair) → IsFirstClashOverSomeFiles (name_change_of_parts change parts) clash → IsClashBySome (file_change_of change) h clash
  clash_by_some clash may = record {
    files = over_files.files;
    told = over_files.told;
    may = names_are clash may;
  }

  pub clash_may_be : (found : Option Clash) (clash : Clash) → found ≡ Some clash → IsFirstClashOverSomeFiles (name_change_of_parts change parts) (option_map clash_seen found)
      → IsClashBySome (file_change_of change) h (Some (clash_seen clash))
  clash_may_be found clash is may = subst (λ (o : Option Clash). IsClashBySome (file_change_of change) h (option_map clash_seen o)) is (clash_by_some (option_map clash_seen found) may)

  pub contest_may_be : (fault : PlanFault) → IsContestedPathFaultWithRivals (members_of change.members.now) fault → (found : Option Clash) → found ≡ None → IsFirstClashOverSomeFiles (name_change_of_parts change parts) (option_map clash_seen found)
      → MayBeRefusalOf (file_change_of change) h fault
  contest_may_be (Reserved path) owned found none may = tt
  contest_may_be (PathClash path other) owned found none may = absurd owned
  contest_may_be (Owned path first second) owned found none may =
      subst (λ (o : Option Clash). IsClashBySome (file_change_of change) h (option_map clash_seen o)) none (clash_by_some (option_map clash_seen found) may)
  contest_may_be Disk owned found none may = tt
  contest_may_be Memory owned found none may = tt

  pub plan_is : (flags : List Bool) (plan : FilePlan) → AreListsOfParts parts flags plan → (h1 : List TreeState) → h1 ≡ h → (found : Option Clash) → found ≡ None
      → IfObservable h1 (λ v. IsFirstClashOrNone (name_change (file_change_of change) (files_of v)) (files_of v) (option_map clash_seen found)) → IsFirstClashOverSomeFiles (name_change_of_parts change parts) (option_map clash_seen found) → IsPlanOverSomeFiles (file_change_of change) h plan
  plan_is flags plan lists h1 same found none told may = record {
    files = over_files.files;
    told = over_files.told;
    lists = planned change claims coming firsts parts h are over_files.files over_files.one over_files.other flags plan lists;
    no_clash = no_clash_over h over_files.files over_files.told found none
        (subst (λ (k : List TreeState). IfObservable k (λ v. IsFirstClashOrNone (name_change (file_change_of change) (files_of v)) (files_of v) (option_map clash_seen found))) same told);
    may_have_none = names_are None (subst (λ (o : Option Clash). IsFirstClashOverSomeFiles (name_change_of_parts change parts) (option_map clash_seen o)) none may);
  }

pub both_read : {A B C D E : Type 0} (disk : D) (fault : E) (h0 h1 h2 : List TreeState) (a b c : Counts) (x : A) (y : B) (z : C)
    → OnlyReads disk h0 h1 a b (Ok x) → OnlyReads disk h1 h2 b c (Ok y) → OnlyReads fault h0 h2 a c (Ok z)
both_read disk fault h0 h1 h2 a b c x y z h k =
    let two = readings_two disk h0 h1 h2 a b c x (Ok y) h k in
    record {
      same = two.same;
      goes_on = two.goes_on;
      disk = λ off. absurd (cc);
      kept = two.kept;
      others = tt;
      proper = two.proper;
    }
